-- The move of a reading that is taken is document 01's d (rule 3): −C/2 < d < C/2, and d is the difference of the oriented numbers up to a
-- multiple of C. Ahead by less than half the range, or back by what is left of it.
use Rattle.std.specs.Prelude.{◌≡◌, refl, Bool, true, false, ℕ, suc, ◌-◌, ◌*◌, ◌<◌, eqb, ltb, leb, ℤ, pos, negsuc, nat_abs, ◌-ℤ◌, None}
use Rattle.std.proofs.Common.{arith, ltb-true, ltb-false}
use Rattle.std.proofs.lemmas.Bool.{eqb-false}
use Rattle.integer.specs.{◌modulo◌}
use Rattle.integer.proofs.{signed, apart, diff_is, abs_is, modulo-is}
use Rattle.encoder.specs.{InForce, WrongTurn, HalfRange, when, Sound}
use Rattle.encoder.proofs.{before-none, when-not}
use Rattle.axis_shaft.specs.{difference, shorter, move_of, move_refusal}
use Rattle.axis_shaft.proofs.SensorLaws.{difference-lt, shorter-ahead, shorter_back}

by-half : (n c : ℕ) (b : Bool) → ltb (2 * n) c ≡ b → n < c → (2 * n ≡ c → ⊥)
    → (2 * nat_abs (shorter n c) < c) × (shorter n c modulo c ≡ n)
by-half n c true t lt h =
    rw (shorter-ahead n c lt (ltb-true _ _ t)) (omega (arith, ltb-true (2 * n) c t), modulo-is (pos n) 0 0 lt (omega arith))
by-half n c false t lt h =
    let z = pos n -ℤ pos c in
    let k = ltb-false (2 * n) c t in
    rw (shorter_back n c lt k)
    (omega (arith, diff_is (pos n) (pos c), abs_is z, apart z), modulo-is z 1 0 lt (omega (arith, diff_is (pos n) (pos c))))

pub shorter-way : (f : InForce) (last raw : ℕ) → Sound f → move_refusal f last raw ≡ None
    → (2 * nat_abs (move_of f last raw) < f.capacity.0) × (move_of f last raw modulo f.capacity.0 ≡ difference f last raw)
unfolding move_refusal move_of
shorter-way f last raw s e =
    let n = difference f last raw in
    let c = f.capacity.0 in
    let z = (before-none (when (leb c raw) WrongTurn) (when (eqb (2 * n) c) HalfRange) e).1 in
    by-half n c (ltb (2 * n) c) refl (difference-lt f last raw s) (eqb-false _ _ (when-not (eqb (2 * n) c) _ z))

-- no other number is: a move below half the range that equals the difference modulo C is this move
only : (m : ℤ) (c : ℕ) → 2 * nat_abs m < c → shorter (m modulo c) c ≡ m
only (pos a) c h =
    let e : pos a modulo c ≡ a = modulo-is (pos a) 0 0 (omega arith) (omega arith) in
    rw e (shorter-ahead a c (omega arith) h)
only (negsuc a) c h =
    let n = c - suc a in
    let e : negsuc a modulo c ≡ n = modulo-is (negsuc a) 1 0 (omega arith) (omega arith) in
    rw (e, shorter_back n c (omega arith) (omega arith)) (omega (signed, diff_is (pos n) (pos c)))

pub shorter-only : (f : InForce) (last raw : ℕ) (m : ℤ) → 2 * nat_abs m < f.capacity.0 → difference f last raw ≡ m modulo f.capacity.0
    → move_of f last raw ≡ m
unfolding move_of
shorter-only f last raw m h e = rw e (only m f.capacity.0 h)
