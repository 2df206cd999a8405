use Rattle.std.proofs.Common.{rules}
use Rattle.axislog_lexer.specs.{last}
use Rattle.axislog_lexer.proofs.number.last.Goals as goal

pub returns : goal.returns
unfolding last
returns c = search rules
