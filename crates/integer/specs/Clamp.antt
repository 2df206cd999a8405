-- A number limited at both ends (document 01: "limited to signed 32 bits").
use Rattle.std.specs.Prelude.{cond, ℤ}
use Rattle.std.specs.Int.Signed.{lt_z}

-- the number from low to high that is nearest to z
unfoldable pub clamp : ℤ → ℤ → ℤ → ℤ
clamp low high z = cond (lt_z z low) low (cond (lt_z high z) high z)
