-- The invariant: the definition from here on equals the definition from the start.
use Rattle.std.specs.Prelude.{◌≡◌, drop}
use Rattle.axislog_lexer.specs.{digits}
use Rattle.axislog_lexer.proofs.number.digits.Given as goal

abbrev pub invariant-loop-k : goal.invariant-loop-k
invariant-loop-k l = digits l.n l.k (drop l.k l.line) ≡ digits l.value l.at (drop l.at l.line)
