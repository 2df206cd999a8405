-- The phase: whole units and what is left of the next one as one number, units × R + rest. R parts are a unit, M parts are a step, and R × L parts are
-- the total range. So a phase goes around a ring of R × L, a step moves it by M, and no step is rounded.
use Rattle.std.specs.Prelude.{ℕ, ◌*◌, ◌/◌, ℤ, pos, neg_ℤ, ◌+ℤ◌, ◌-ℤ◌, ◌*ℤ◌, ◌<ℤ◌}
use Rattle.integer.specs.{◌modulo◌}

-- the phase d steps after the phase x
unfoldable pub stepped : (R M L x : ℕ) (d : ℤ) → ℕ
stepped R M L x d = (pos x +ℤ d *ℤ pos M) modulo (R * L)

-- the position, rounded down, that phase x and offset o had g steps ago: a ledger counts from there
unfoldable pub origin : (R M L x : ℕ) (o g : ℤ) → ℕ
origin R M L x o g = (pos x +ℤ (pos R *ℤ o -ℤ g *ℤ pos M)) modulo (R * L) / R

-- position n lies less than one unit from b + g × M / R around L: for some whole w, −R < R × (n − b − w × L) − g × M < R
abbrev pub off : (R M L n : ℕ) (b g w : ℤ) → ℤ
off R M L n b g w = pos R *ℤ (pos n -ℤ b -ℤ w *ℤ pos L) -ℤ g *ℤ pos M

pub record Near (R M L n : ℕ) (b g : ℤ) : Type 0 where
  pub w : ℤ
  pub low : neg_ℤ (pos R) <ℤ off R M L n b g w
  pub high : off R M L n b g w <ℤ pos R
