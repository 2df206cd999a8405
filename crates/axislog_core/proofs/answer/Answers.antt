use Rattle.std.proofs.Common.{rules}
use Rattle.encoder.proofs.{exits}
use Rattle.axislog_core.specs.{outcome, written}
use Rattle.axislog_core.proofs.answer.Goals as goal

pub returns-in_err-check : goal.returns-in_err-check
unfolding outcome written
returns-in_err-check c = search (rules, exits)

pub returns : goal.returns
unfolding outcome written
returns c = search (rules, exits)
