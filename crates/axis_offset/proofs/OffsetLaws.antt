-- The new offset. A place on a ring of 32 bits fits its word, and so does its difference to a number of 32 bits.
use Rattle.std.specs.Prelude.{◌≡◌, refl, Bool, true, false, ℕ, zero, suc, ◌≤◌, ◌<◌, ◌^◌, ℤ, pos, ◌+ℤ◌, ◌-ℤ◌}
use Rattle.std.proofs.Common.{◌∙◌, arith}
use Rattle.std.proofs.Math.IntN.{+ℤ_idl}
use Rattle.std.specs.Int.{w64, w32}
use mir.Val.{Fits, SFits, to_z, of_z}
use Rattle.integer.proofs.{reads, fits-abs, diff-fits, diff-reads, modulo-lt}
use Rattle.ring.specs.{on_ring}
use Rattle.ring.proofs.{on-ring, on_none}
use Rattle.axis_offset.specs.{offset_by}

-- ---- the offset
on-ring-most : (z : ℤ) (n : ℕ) → on_ring z n ≤ n
on-ring-most z zero = omega (arith, on_none z 0 refl)
on-ring-most z (suc n) = let h : 0 < suc n = omega arith in omega (arith, on-ring z (suc n) h, modulo-lt z h)

module _ (n r : ℕ) (z : ℤ) (e : r ≡ on_ring z n) (n-fits : Fits w32 n) where
  place-most : r ≤ 2 ^ 32
  place-most = omega (arith, on-ring-most z n, n-fits.fits)

  pub place-fits : SFits w64 (pos r)
  place-fits = fits-abs (pos r) (omega (arith, place-most))

  pub offset-fits : (u : ℕ) → Fits w32 u → SFits w64 (to_z w64 r -ℤ to_z w64 u)
  offset-fits u k = diff-fits r u place-most (omega (arith, k.fits))

module _ (n p u r : ℕ) (v : ℤ) (relative : Bool) (fits : SFits w64 v) (n-fits : Fits w32 n) (u-fits : Fits w32 u) where
  pub offset-relative : relative ≡ true → r ≡ on_ring (pos p +ℤ to_z w64 (of_z w64 v)) n
      → to_z w64 (of_z w64 (to_z w64 r -ℤ to_z w64 u)) ≡ offset_by n p u v relative
  unfolding offset_by
  offset-relative t e = diff-reads r u (place-most n r _ e n-fits) (omega (arith, u-fits.fits)) ∙ rw (e, t, reads fits)

  pub offset-absolute : relative ≡ false → r ≡ on_ring (pos 0 +ℤ to_z w64 (of_z w64 v)) n
      → to_z w64 (of_z w64 (to_z w64 r -ℤ to_z w64 u)) ≡ offset_by n p u v relative
  unfolding offset_by
  offset-absolute t e = diff-reads r u (place-most n r _ e n-fits) (omega (arith, u-fits.fits)) ∙ rw (e, t, reads fits, +ℤ_idl v)

pub ruleset offsets = (place-fits, offset-fits, offset-relative, offset-absolute)
