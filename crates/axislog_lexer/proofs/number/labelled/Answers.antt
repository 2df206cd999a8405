use Rattle.std.proofs.Common.{rules}
use Rattle.axislog_lexer.specs.{labelled}
use Rattle.axislog_lexer.proofs.number.labelled.Goals as goal

pub returns-in_err-past : goal.returns-in_err-past
unfolding labelled
returns-in_err-past c = search rules

pub returns : goal.returns
unfolding labelled
returns c = search rules
