-- The loop keeps what is still to be written in front of what is written.
use Rattle.std.specs.Prelude.{◌≡◌, ◌++◌, length, drop}
use Rattle.integer.specs.{octets}
use Rattle.octets.proofs.put_number.Given as goal

abbrev pub invariant-loop-i : goal.invariant-loop-i
invariant-loop-i l = octets l.i l.rest ++ drop l.i l.part ≡ octets (length l.initial.part) l.n
