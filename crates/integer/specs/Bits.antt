-- Bits of a word, bit 0 the least significant (document 01, its opening lines).
use Rattle.std.specs.Prelude.{ℕ, ◌/◌, ◌%◌, ◌^◌, Bool, cond, eqb}

-- bit n of w is 1
abbrev pub bit : ℕ → ℕ → Bool
bit n w = eqb (w / 2 ^ n % 2) 1

-- 2 ^ n where the bit is 1, else 0
abbrev pub at : Bool → ℕ → ℕ
at b n = cond b (2 ^ n) 0
