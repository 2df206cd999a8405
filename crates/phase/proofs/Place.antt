-- The phase of an axis that keeps its place: place × M around R × L. Its units are rule 4's, and start and move of the place are those of the phase.
use Rattle.std.specs.Prelude.{◌≡◌, ℕ, ◌+◌, ◌*◌, ◌/◌, ◌%◌, ◌<◌, ℤ, pos, ◌+ℤ◌, ◌*ℤ◌}
use Rattle.std.proofs.Common.{ap, arith}
use Rattle.std.proofs.Math.Arith.{digits_div}
use Rattle.integer.specs.{◌modulo◌}
use Rattle.integer.proofs.{add_is, mul_is, modulo-has, modulo-alike}
use Rattle.phase.specs.{stepped}
use lib.{Arith.mod-mul}
use native.Mathlib.Nat as N

module _ (R M L : ℕ) (h : 0 < R) (l : 0 < L) where
  pub place-units : (place : ℕ) → place * M % (R * L) / R ≡ place * M / R % L
  place-units place = rw (N.mul_comm R L, mod-mul (place * M) l h) (digits_div _ (N.mod-lt (place * M) h))

  pub place-move : (place : ℕ) (d : ℤ) → (pos place +ℤ d) modulo (R * L) * M % (R * L) ≡ stepped R M L (place * M % (R * L)) d
  unfolding ◌modulo◌ stepped
  place-move place d =
      let n = R * L in
      let x = place * M % n in
      let t = modulo-has (pos place +ℤ d) (N.mul-pos h l) in
      modulo-alike (pos ((pos place +ℤ d) modulo n * M)) (pos x +ℤ d *ℤ pos M) (t.1 * M) (t.0 * M + place * M / n) (N.mul-pos h l)
      (omega (arith, ap (λ (k : ℕ). k * M) t.2, ap (λ (k : ℕ). k * M) (add_is (pos place) d), add_is (pos x) (d *ℤ pos M), mul_is d (pos M), N.div-add-mod' (place * M) n))

  pub place-start : (o : ℕ) → o % (R * L) * M % (R * L) ≡ o * M % (R * L)
  unfolding ◌modulo◌ stepped
  place-start o = simp (N.zero-add, N.zero-mul, N.zero-mod) at (place-move 0 (pos o))
