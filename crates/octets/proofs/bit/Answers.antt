-- A bit past the word is 0, and a mask of one bit is a remainder.
use Rattle.std.proofs.Common.{rules}
use Rattle.octets.proofs.{OctetLaws.bit_past}
use Rattle.octets.proofs.bit.Goals as goal

pub returns-then-n-ge32 : goal.returns-then-n-ge32
returns-then-n-ge32 c = search (rules, bit_past)
