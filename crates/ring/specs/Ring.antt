-- A ring of n places, and numbers within it (document 01: "modulo L", "modulo C", "modulo R × L"; "strictly between −L and L";
-- "two's complement").
use Rattle.std.specs.Prelude.{ℕ, ◌^◌, Bool, cond, eqb, ltb, ℤ, nat_abs}
use Rattle.integer.specs.{◌modulo◌}

-- z counted around a ring of n places; a ring of none has only 0
unfoldable pub on_ring : ℤ → ℕ → ℕ
on_ring z n = cond (eqb n 0) 0 (z modulo n)

-- two's complement, in 32 bits: of the diagnosis and, by request 1, of NIST_B
unfoldable pub complement : ℤ → ℕ
complement z = z modulo 2 ^ 32

-- z lies strictly between −n and n
unfoldable pub in_range : ℤ → ℕ → Bool
in_range z n = ltb (nat_abs z) n
