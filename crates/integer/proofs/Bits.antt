-- A flag as a number, 0 or 1, and as one bit of a word.
use Rattle.std.specs.Prelude.{◌≡◌, refl, Bool, true, false, cond, ℕ, ◌*◌, ◌^◌, ◌<◌}
use Rattle.std.proofs.Common.{arith}
use mir.Val.{bool_byte}
use Rattle.integer.specs.{at}

pub flag : (b : Bool) → bool_byte b ≡ cond b 1 0
flag true = refl
flag false = refl

pub flag-lt : (b : Bool) → bool_byte b < 2
flag-lt true = omega arith
flag-lt false = omega arith

pub at-is : (b : Bool) (n : ℕ) → at b n ≡ bool_byte b * 2 ^ n
at-is true n = omega arith
at-is false n = omega arith
