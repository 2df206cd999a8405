-- A ledger beside the phase. Its p is a function of phase, offset and g (`origin`), so that what is kept is one equation. A move changes phase and g
-- alike and keeps p; a start makes p 0, a preset the new position. The position is always near p + g × M / R: it is off by one remainder below R less
-- another.
use Rattle.std.specs.Prelude.{◌≡◌, ℕ, ◌+◌, ◌*◌, ◌/◌, ◌%◌, ◌<◌, ℤ, pos, ◌+ℤ◌, ◌-ℤ◌, ◌*ℤ◌}
use Rattle.std.proofs.Common.{ap, arith}
use Rattle.std.proofs.Math.Arith.{digits_div}
use Rattle.integer.specs.{◌modulo◌}
use Rattle.integer.proofs.{above, below, signed, neg_is, add_is, diff_is, mul_is, modulo-has, modulo-is, modulo-alike}
use Rattle.phase.specs.{stepped, origin, off, Near}
use lib.{Arith.digits_lt}
use native.Mathlib.Nat as N

-- what a position is off by, in natural numbers
pub off-is : (R M L n : ℕ) (b g w : ℤ)
    → above (off R M L n b g w) + (R * (above b + above w * L) + above g * M) ≡ R * (n + below b + below w * L) + below g * M + below (off R M L n b g w)
off-is R M L n b g w =
    let y = pos n -ℤ b -ℤ w *ℤ pos L in
    let e : above y + (above b + above w * L) ≡ n + below b + below w * L + below y
    = omega (arith, diff_is (pos n -ℤ b) (w *ℤ pos L), diff_is (pos n) b, mul_is w (pos L)) in
    omega (arith, diff_is (pos R *ℤ y) (g *ℤ pos M), mul_is (pos R) y, mul_is g (pos M), ap (λ (k : ℕ). R * k) e)

module _ (R M L : ℕ) (h : 0 < R) (l : 0 < L) where
  -- a move goes into the phase, and out again with g
  cancels : (x : ℕ) (y g m : ℤ) → (pos (stepped R M L x m) +ℤ (y -ℤ (g +ℤ m) *ℤ pos M)) modulo (R * L) ≡ (pos x +ℤ (y -ℤ g *ℤ pos M)) modulo (R * L)
  unfolding stepped
  cancels x y g m =
      let z = pos x +ℤ m *ℤ pos M in
      let before = y -ℤ g *ℤ pos M in
      let after = y -ℤ (g +ℤ m) *ℤ pos M in
      let t = modulo-has z (N.mul-pos h l) in
      let sum = ap (λ (k : ℕ). k * M) (add_is g m) in
      let products : above ((g +ℤ m) *ℤ pos M) + (below (g *ℤ pos M) + below (m *ℤ pos M)) ≡ above (g *ℤ pos M) + above (m *ℤ pos M) + below ((g +ℤ m) *ℤ pos M)
      = omega (arith, mul_is (g +ℤ m) (pos M), mul_is g (pos M), mul_is m (pos M)) in
      let moved = add_is (pos (z modulo (R * L))) after in
      modulo-alike (pos (z modulo (R * L)) +ℤ after) (pos x +ℤ before) t.1 t.0 (N.mul-pos h l)
      (omega (arith, t.2, add_is (pos x) before, add_is (pos x) (m *ℤ pos M), diff_is y (g *ℤ pos M), diff_is y ((g +ℤ m) *ℤ pos M)))

  pub kept_move : (x : ℕ) (o g m : ℤ) → origin R M L (stepped R M L x m) o (g +ℤ m) ≡ origin R M L x o g
  unfolding origin
  kept_move x o g m = rw cancels

  -- a start is a move from 0
  pub kept-start : (n : ℕ) → origin R M L (n * M % (R * L)) (pos 0) (pos n) ≡ 0
  unfolding origin stepped ◌modulo◌
  kept-start n = simp N.mul-zero (simp (N.zero-add, N.mul-zero, N.zero-mul, N.zero-mod, N.zero-div) at (kept_move 0 (pos 0) (pos 0) (pos n)))

  pub kept-preset : (x p : ℕ) → p < L → origin R M L x (pos p -ℤ pos (x / R)) (pos 0) ≡ p
  unfolding origin
  kept-preset x p k =
      let o = pos p -ℤ pos (x / R) in
      let z = pos R *ℤ o -ℤ pos 0 *ℤ pos M in
      let e : (pos x +ℤ z) modulo (R * L) ≡ p * R + x % R
      = modulo-is _ 0 0 (omega (arith, digits_lt k (N.mod-lt x h)))
      (omega (arith, add_is (pos x) z, diff_is (pos R *ℤ o) (pos 0 *ℤ pos M), mul_is (pos R) o, ap (λ (n : ℕ). R * n) (diff_is (pos p) (pos (x / R))), N.div-add-mod' x R)) in
      rw e (digits_div p (N.mod-lt x h))

  pub kept_near : (x : ℕ) (o g : ℤ) → Near R M L ((pos (x / R) +ℤ o) modulo L) (pos (origin R M L x o g)) g
  unfolding origin
  kept_near x o g =
      let y = pos R *ℤ o -ℤ g *ℤ pos M in
      let v = (pos x +ℤ y) modulo (R * L) in
      let n = (pos (x / R) +ℤ o) modulo L in
      let s = modulo-has (pos x +ℤ y) (N.mul-pos h l) in
      let t = modulo-has (pos (x / R) +ℤ o) l in
      let w = pos (s.1 + t.0) -ℤ pos (s.0 + t.1) in
      let steps : x + R * above o + below g * M + s.0 * (R * L) ≡ v + R * below o + above g * M + s.1 * (R * L)
      = omega (arith, s.2, add_is (pos x) y, diff_is (pos R *ℤ o) (g *ℤ pos M), mul_is (pos R) o, mul_is g (pos M)) in
      let units : x / R + above o + t.0 * L ≡ n + below o + t.1 * L = omega (arith, t.2, add_is (pos (x / R)) o) in
      let z = off R M L n (pos (v / R)) g w in
      let around = ap (λ (k : ℕ). k * (R * L)) (diff_is (pos (s.1 + t.0)) (pos (s.0 + t.1))) in
      -- off by the rest of v less that of x
      let e : above z + x % R ≡ v % R + below z
      = omega (arith, off-is R M L n (pos (v / R)) g w, ap (λ (k : ℕ). R * k) units, N.div-add-mod' v R, N.div-add-mod' x R) in
      let x-rest = N.mod-lt x h in
      let v-rest = N.mod-lt v h in
      record { w = w; low = omega (signed, neg_is (pos R)); high = omega signed }
