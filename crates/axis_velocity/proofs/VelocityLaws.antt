-- The rate of a move. Products and quotient fit their words, since their factors are small.
use Rattle.std.specs.Prelude.{◌≡◌, ℕ, ◌*◌, ◌^◌, ◌≤◌, ◌<◌, ℤ, pos, negsuc, nat_abs, ◌*ℤ◌, ◌≤ℤ◌}
use Rattle.std.proofs.Common.{◌∙◌, arith, eq-eqb, ne_eqb}
use Rattle.std.specs.Int.Signed.{quot_z}
use Rattle.std.specs.Int.{int_max, int_min}
use Rattle.std.specs.Int.{w64, w32}
use mir.Val.{Fits}
use mir.Val.{SFits, to_z, of_z}
use Rattle.std.proofs.lemmas.Int.{to_z_pos}
use Rattle.integer.specs.{clamp}
use Rattle.integer.proofs.{signed, clamp-within, reads, fits-abs, mul-le, quot_le}
use Rattle.encoder.specs.{InForce, Sound}
use Rattle.axis_velocity.specs.{factor_of, least, greatest, rate_of}
use lib.{IntN.*ℤ_comm}
use mir.{Syntax.w16}
use native.Mathlib.Nat as N

-- ---- what the move is multiplied by
module _ (f : InForce) where
  pub factor-0 : f.speed ≡ 0 → f.scale.0 * 1000 ≡ factor_of f
  unfolding factor_of
  factor-0 e = rw (eq-eqb f.speed 0 e)

  module _ (n0 : f.speed ≡ 0 → ⊥) where
    pub factor-1 : f.speed ≡ 1 → f.scale.0 * 100 ≡ factor_of f
    unfolding factor_of
    factor-1 e = rw (ne_eqb f.speed 0 n0, eq-eqb f.speed 1 e)

    module _ (n1 : f.speed ≡ 1 → ⊥) where
      pub factor-2 : f.speed ≡ 2 → f.scale.0 * 10 ≡ factor_of f
      unfolding factor_of
      factor-2 e = rw (ne_eqb f.speed 0 n0, ne_eqb f.speed 1 n1, eq-eqb f.speed 2 e)

      pub factor-3 : (f.speed ≡ 2 → ⊥) → 60000 ≡ factor_of f
      unfolding factor_of
      factor-3 n2 = rw (ne_eqb f.speed 0 n0, ne_eqb f.speed 1 n1, ne_eqb f.speed 2 n2)

  module _ (s : Sound f) where
    pub most-0 : f.scale.0 * 1000 ≤ 65536000
    most-0 = omega (arith, s.scale-most)

    pub most-1 : f.scale.0 * 100 ≤ 65536000
    most-1 = omega (arith, s.scale-most)

    pub most-2 : f.scale.0 * 10 ≤ 65536000
    most-2 = omega (arith, s.scale-most)

pub ruleset factors = (factor-0, factor-1, factor-2, factor-3, most-0, most-1, most-2)

-- ---- limited at both ends
within-fits : (z : ℤ) → least ≤ℤ z → z ≤ℤ greatest → SFits w32 z
within-fits (pos a) l g = record { sfits = omega signed }
within-fits (negsuc a) l g = record { sfits = omega signed }

within-wide : (z : ℤ) → least ≤ℤ z → z ≤ℤ greatest → SFits w64 z
within-wide (pos a) l g = record { sfits = omega signed }
within-wide (negsuc a) l g = record { sfits = omega signed }

-- the library's clamp is document 01's
max-min : (l g z : ℤ) → l ≤ℤ g → int_max l (int_min z g) ≡ clamp l g z
unfolding clamp
max-min l g z h = grind arith

module _ (q r : ℤ) (fits : SFits w64 q) (r-is : r ≡ int_max least (int_min (to_z w64 (of_z w64 q)) greatest)) where
  clamped : r ≡ clamp least greatest q
  clamped = r-is ∙ rw (reads fits) (max-min least greatest q (omega signed))

  narrow : SFits w32 r
  narrow = let c = clamp-within least greatest q (omega signed) in rw clamped (within-fits (clamp least greatest q) c.0 c.1)

  wide : SFits w64 r
  wide = let c = clamp-within least greatest q (omega signed) in rw clamped (within-wide (clamp least greatest q) c.0 c.1)

  pub limited-cast : SFits w32 (to_z w64 (of_z w64 r))
  limited-cast = rw (reads wide) narrow

  pub limited-is : to_z w32 (of_z w32 (to_z w64 (of_z w64 r))) ≡ clamp least greatest q
  limited-is = rw (reads wide, reads narrow) clamped

-- ---- d × factor / (R × e)
module _ (d : ℤ) (k : ℕ) (fits : SFits w64 d) (d-most : nat_abs d ≤ 2 ^ 31) (k-most : k ≤ 65536000) where
  top-most : nat_abs (d *ℤ pos k) ≤ 2 ^ 31 * 65536000
  top-most = mul-le d (pos k) d-most k-most

  top-is : to_z w64 (of_z w64 d) *ℤ to_z w64 k ≡ d *ℤ pos k
  top-is = rw (reads fits, to_z_pos w64 k (omega arith))

  pub top-fits : SFits w64 (to_z w64 (of_z w64 d) *ℤ to_z w64 k)
  top-fits = rw top-is (fits-abs _ (omega (arith, top-most)))

module _ (f : InForce) (e : ℕ) (s : Sound f) (e-fits : Fits w16 e) where
  divisor-most : f.steps.0 * e ≤ 65536 * 65535
  divisor-most = let h : e ≤ 65535 = omega (arith, e-fits.fits) in N.mul-le-mul s.steps-most h

  pub divisor-fits : Fits w64 (f.steps.0 * e)
  divisor-fits = record { fits = omega (arith, divisor-most) }

  pub divisor-signed : SFits w64 (pos (f.steps.0 * e))
  divisor-signed = record { sfits = omega (arith, divisor-most) }

  pub divisor-least : 0 < e → 0 < f.steps.0 * e
  divisor-least h = let k : 1 * 1 ≤ f.steps.0 * e = N.mul-le-mul s.steps-least h in omega arith

  module _ (d : ℤ) (k : ℕ) (fits : SFits w64 d) (d-most : nat_abs d ≤ 2 ^ 31) (k-most : k ≤ 65536000) where
    quot_is : quot_z (to_z w64 (of_z w64 (to_z w64 (of_z w64 d) *ℤ to_z w64 k))) (to_z w64 (f.steps.0 * e)) ≡ quot_z (d *ℤ pos k) (pos (f.steps.0 * e))
    quot_is = rw (reads (top-fits d k fits d-most k-most), top-is d k fits d-most k-most, to_z_pos w64 (f.steps.0 * e) (omega (arith, divisor-most)))

    pub quot_fits : SFits w64 (quot_z (to_z w64 (of_z w64 (to_z w64 (of_z w64 d) *ℤ to_z w64 k))) (to_z w64 (f.steps.0 * e)))
    quot_fits = rw quot_is (fits-abs _ (omega (arith, quot_le (d *ℤ pos k) (f.steps.0 * e), top-most d k fits d-most k-most)))

    pub rate-is : (r : ℤ) → k ≡ factor_of f
        → r ≡ clamp least greatest (to_z w64 (of_z w64 (quot_z (to_z w64 (of_z w64 (to_z w64 (of_z w64 d) *ℤ to_z w64 k))) (to_z w64 (f.steps.0 * e)))))
        → to_z w32 (of_z w32 r) ≡ rate_of f d e
    unfolding rate_of
    rate-is r k-is r-is =
        let n = f.steps.0 * e in
        let c = clamp-within least greatest (quot_z (d *ℤ pos k) (pos n)) (omega signed) in
        let i : r ≡ clamp least greatest (quot_z (d *ℤ pos k) (pos n)) = r-is ∙ rw (reads quot_fits, quot_is) in
        rw (i, reads (within-fits _ c.0 c.1), k-is)
        (search (*ℤ_comm d (pos (factor_of f))))

pub rate-fits : (f : InForce) (d : ℤ) (e : ℕ) → SFits w32 (rate_of f d e)
unfolding rate_of
rate-fits f d e = let c = clamp-within least greatest _ (omega signed) in within-fits _ c.0 c.1

pub ruleset rates = (divisor-fits, divisor-signed, divisor-least, top-fits, quot_fits, rate-is)
