use Rattle.std.proofs.Common.{rules}
use Rattle.encoder.proofs.{exits}
use Rattle.sensor.specs.{numbered}
use Rattle.sensor.proofs.{ReadingLaws.fitting}
use Rattle.sensor.proofs.raw_number.Goals as goal

pub returns-in_err-check : goal.returns-in_err-check
unfolding numbered
returns-in_err-check c = search rules

pub overflow_mul-result : goal.overflow_mul-result
overflow_mul-result c = search (rules, exits, fitting)

pub overflow_add-result : goal.overflow_add-result
overflow_add-result c = search (rules, exits, fitting)

pub overflow_cast-result-2 : goal.overflow_cast-result-2
overflow_cast-result-2 c = search (rules, exits, fitting)

pub returns : goal.returns
unfolding numbered
returns c = search (rules, exits)
