use Rattle.std.proofs.Common.{rules}
use Rattle.encoder.proofs.{exits, stepwise}
use Rattle.axis_shaft.specs.{approach_from, move_refusal}
use Rattle.axis_shaft.proofs.{SensorLaws.approaches}
use Rattle.axis_shaft.proofs.raw.approach.Goals as goal

pub returns-in_err-refuse : goal.returns-in_err-refuse
unfolding approach_from move_refusal
returns-in_err-refuse c = search (rules, stepwise)

pub returns-in_err-check_half : goal.returns-in_err-check_half
returns-in_err-check_half c = search (rules, exits, approaches)

pub returns : goal.returns
returns c = search (rules, exits, approaches)
