use Rattle.std.proofs.Common.{rules}
use Rattle.encoder.proofs.{exits, stepwise}
use Rattle.axis_shaft.specs.{move_refusal}
use Rattle.axis_shaft.proofs.{SensorLaws.approaches}
use Rattle.axis_shaft.proofs.raw.check_move.Goals as goal

pub returns-in_err-refuse : goal.returns-in_err-refuse
unfolding move_refusal
returns-in_err-refuse c = search (rules, stepwise)

pub returns : goal.returns
returns c = search (rules, exits, approaches)
