use Rattle.std.proofs.Common.{rules}
use Rattle.axislog_lexer.proofs.WordLaws.{rest-is, words}
use Rattle.axislog_lexer.proofs.word.past.Goals as goal

pub returns-then-stands : goal.returns-then-stands
returns-then-stands c = search (rules, words, rest-is)

pub returns-else-stands : goal.returns-else-stands
returns-else-stands c = search (rules, words, rest-is)
