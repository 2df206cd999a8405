-- What is supposed of the true steps says just this: they are the d of rule 3. So an accepted reading moves the axis by the true steps; and what is
-- supposed can be met, for every raw number that is accepted.
use Rattle.std.specs.Prelude.{◌≡◌, List, [], ◌∷◌, ℕ, zero, suc, ◌+◌, ◌*◌, ℤ, pos, ◌-ℤ◌, ◌*ℤ◌, None}
use Rattle.std.proofs.Common.{ap}
use Rattle.integer.proofs.{above, below, signed, add_is, diff_is, mul_is, of_eq, modulo-has, modulo-alike}
use Rattle.encoder.specs.{Sound}
use Rattle.encoder.proofs.{before-none}
use Rattle.axis_shaft.specs.{oriented, difference, move_of, move_refusal, refusal_in}
use Rattle.axis_shaft.proofs.{shorter-way, shorter-only}
use Rattle.accuracy.specs.{Device, force, TrueSteps, Supposed}

-- rule 3's d, for raw numbers one after the other
abbrev pub steps : Device → ℕ → List ℕ → ℕ → ℤ
steps d last [] i = pos 0
steps d last (raw ∷ raws) zero = move_of (force d) last raw
steps d last (raw ∷ raws) (suc i) = steps d raw raws i

module _ (d : Device) (s : Sound (force d)) where
  -- the shorter way is the way that the shaft went
  pub went : (last raw : ℕ) (m : ℤ) → TrueSteps d last raw m → move_of (force d) last raw ≡ m
  unfolding difference
  went last raw m h =
      let f = force d in
      let c = f.capacity.0 in
      let y = pos (oriented f raw) -ℤ pos (oriented f last) in
      let t = h.times in
      let e = modulo-alike y m {n = c} (above t) (below t) s.capacity-least
      (omega (signed, add_is y (t *ℤ pos c), mul_is t (pos c), of_eq h.same)) in
      shorter-only f last raw m (omega (signed, h.small)) e

  -- and the shorter way is as supposed
  found : (last raw : ℕ) → move_refusal (force d) last raw ≡ None → TrueSteps d last raw (move_of (force d) last raw)
  unfolding difference
  found last raw e =
      let f = force d in
      let c = f.capacity.0 in
      let m = move_of f last raw in
      let y = pos (oriented f raw) -ℤ pos (oriented f last) in
      let w = shorter-way f last raw s e in
      let p = modulo-has m {n = c} s.capacity-least in
      let q = modulo-has y {n = c} s.capacity-least in
      let t = pos (p.1 + q.0) -ℤ pos (p.0 + q.1) in
      let i = ap (λ (k : ℕ). k * c) (diff_is (pos (p.1 + q.0)) (pos (p.0 + q.1))) in
      record { small = omega (signed, w.0); times = t; same = omega (signed, add_is y (t *ℤ pos c), mul_is t (pos c), p.2, q.2, w.1) }

  pub met : (last : ℕ) (raws : List ℕ) → refusal_in (force d) last raws ≡ None → Supposed d last raws (steps d last raws)
  unfolding refusal_in Supposed
  met last [] none = tt
  met last (raw ∷ raws) none =
      let both = before-none (move_refusal (force d) last raw) (refusal_in (force d) raw raws) none in
      (found last raw both.0, met raw raws both.1)
