-- The remainder and the quotient of an integer, rounded down (document 01: "modulo", "towards minus infinity").
use Rattle.std.specs.Prelude.{ℕ, suc, ◌-◌, ◌/◌, ◌%◌, ℤ, pos, negsuc}

-- z modulo n: from 0 to n - 1, for either sign of z
infixl 70 ◌modulo◌
unfoldable pub ◌modulo◌ : ℤ → ℕ → ℕ
pos a modulo n = a % n
negsuc a modulo n = n - suc (a % n)

-- z / n rounded down, for either sign of z; `z modulo n` is what it leaves
infixl 70 ◌quotient◌
unfoldable pub ◌quotient◌ : ℤ → ℕ → ℤ
pos a quotient n = pos (a / n)
negsuc a quotient n = negsuc (a / n)
