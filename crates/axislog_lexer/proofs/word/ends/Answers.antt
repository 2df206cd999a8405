use Rattle.std.proofs.Common.{rules}
use Rattle.axislog_lexer.specs.{ends}
use Rattle.axislog_lexer.proofs.word.ends.Goals as goal

pub returns : goal.returns
unfolding ends
returns c = search rules
