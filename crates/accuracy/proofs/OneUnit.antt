-- What `Agrees` says, in natural numbers. Two positions that agree with one ledger are at most one unit apart around the total range, so that the claim
-- pins a position down.
use Rattle.std.specs.Prelude.{ℕ, ◌+◌, ◌*◌, ◌<◌, ℤ, pos, nat_abs, ◌-ℤ◌, ◌*ℤ◌}
use Rattle.std.proofs.Common.{ap, arith}
use Rattle.integer.proofs.{above, below, signed, apart, neg_is, diff_is, mul_is, abs_is}
use Rattle.phase.proofs.{off-is}
use Rattle.accuracy.specs.{Device, force, Ledger.Ledger, Agrees}
use native.Mathlib.Nat as N

-- R × (p + w × L) + g × M and R × x lie less than R apart
pub told : (d : Device) (l : Ledger) (x : ℕ) (a : Agrees d l x)
    → ((force d).steps.0 * (l.base + above a.w * (force d).span.0) + above l.travel * (force d).scale.0
    < (force d).steps.0 * (x + below a.w * (force d).span.0) + below l.travel * (force d).scale.0 + (force d).steps.0)
    × ((force d).steps.0 * (x + below a.w * (force d).span.0) + below l.travel * (force d).scale.0
    < (force d).steps.0 * (l.base + above a.w * (force d).span.0) + above l.travel * (force d).scale.0 + (force d).steps.0)
told d l x a =
    let f = force d in
    omega (signed, off-is f.steps.0 f.scale.0 f.span.0 x (pos l.base) l.travel a.w, neg_is (pos f.steps.0), a.low, a.high)

closer : (R L p x y xa xb ya yb t u : ℕ)
    → R * (x + xb * L) + t < R * (p + xa * L) + u + R → R * (p + ya * L) + u < R * (y + yb * L) + t + R
    → x + (xb + ya) * L < y + (xa + yb) * L + 2
closer R L p x y xa xb ya yb t u h k = N.lt_of_mul-lt-mul_left R (omega arith)

pub one_unit : (d : Device) (l : Ledger) (x y : ℕ) → Agrees d l x → Agrees d l y
    → (w : ℤ) × (nat_abs (pos x -ℤ pos y -ℤ w *ℤ pos (force d).span.0) < 2)
one_unit d l x y a b =
    let R = (force d).steps.0 in
    let L = (force d).span.0 in
    let v = a.w in
    let w = b.w in
    let p = told d l x a in
    let q = told d l y b in
    let h = closer R L l.base x y (above v) (below v) (above w) (below w) _ _ p.1 q.0 in
    let k = closer R L l.base y x (above w) (below w) (above v) (below v) _ _ q.1 p.0 in
    let z = pos x -ℤ pos y -ℤ (v -ℤ w) *ℤ pos L in
    let e = mul_is (v -ℤ w) (pos L) in
    let i = ap (λ (n : ℕ). n * L) (diff_is v w) in
    (v -ℤ w, omega (arith, abs_is z, apart z, diff_is (pos x -ℤ pos y) ((v -ℤ w) *ℤ pos L), diff_is (pos x) (pos y)))
