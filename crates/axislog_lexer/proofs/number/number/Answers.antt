use Rattle.std.proofs.Common.{rules}
use Rattle.axislog_lexer.proofs.{NumberLaws.numbers}
use Rattle.axislog_lexer.proofs.number.number.Goals as goal

pub returns-in_err-get : goal.returns-in_err-get
returns-in_err-get c = search (rules, numbers)

pub returns-in_err-first : goal.returns-in_err-first
returns-in_err-first c = search (rules, numbers)

pub returns : goal.returns
returns c = search (rules, numbers)
