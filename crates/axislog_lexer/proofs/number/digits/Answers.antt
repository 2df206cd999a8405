-- The invariant: the definition from here on equals the definition from the start.
use Rattle.std.proofs.Common.{rules}
use Rattle.axislog_lexer.proofs.{NumberLaws.digit-steps}
use Rattle.axislog_lexer.proofs.number.digits.Goals as goal

pub returns-in_default : goal.returns-in_default
returns-in_default c = search (rules, digit-steps)

pub returns-then-n-eq0 : goal.returns-then-n-eq0
returns-then-n-eq0 c = search (rules, digit-steps)

pub returns-in_err-checked_mul : goal.returns-in_err-checked_mul
returns-in_err-checked_mul c = search (rules, digit-steps)

pub returns-in_err-n : goal.returns-in_err-n
returns-in_err-n c = search (rules, digit-steps)

pub loop-k-preserved : goal.loop-k-preserved
loop-k-preserved c = search (rules, digit-steps)

pub returns : goal.returns
returns c = search (rules, digit-steps)
