use Rattle.std.proofs.Common.{rules}
use Rattle.axislog_lexer.specs.{digit_of}
use Rattle.axislog_lexer.proofs.number.digit.Goals as goal

pub returns-then-is_ascii_digit : goal.returns-then-is_ascii_digit
unfolding digit_of
returns-then-is_ascii_digit c = search rules

pub returns-else-is_ascii_digit : goal.returns-else-is_ascii_digit
unfolding digit_of
returns-else-is_ascii_digit c = search rules
