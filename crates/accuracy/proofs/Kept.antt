-- The invariant of an axis beside its ledger: the ledger's p is the origin of phase, offset and true travel. So the position agrees with the ledger.
-- Start, accepted reading and preset keep it.
use Rattle.std.specs.Prelude.{◌≡◌, ℕ, ◌*◌, ◌%◌, ◌<◌, ℤ, pos, ◌+ℤ◌, ◌-ℤ◌}
use Rattle.std.proofs.Common.{◌∙◌}
use Rattle.phase.specs.{origin}
use Rattle.phase.proofs.{place-units, place-start, place-move}
use Rattle.encoder.specs.{InForce, Sound}
use Rattle.axis_shaft.specs.{Shaft, period, oriented, started, move_of, moved_to, unshifted, position_at}
use Rattle.accuracy.specs.{Device, force, Ledger.Ledger, Agrees}
use Rattle.phase.proofs.Kept as K

-- the phase of the record
abbrev pub phase_of : InForce → Shaft → ℕ
phase_of f t = t.place.0 * f.scale.0 % period f

abbrev pub Kept : InForce → ℕ → ℤ → Shaft → ℤ → Type 0
Kept f base travel t offset = origin f.steps.0 f.scale.0 f.span.0 (phase_of f t) offset travel ≡ base

module _ (f : InForce) (s : Sound f) where
  pub kept-start : (raw : ℕ) → Kept f 0 (pos (oriented f raw)) (started f raw) (pos 0)
  unfolding started
  kept-start raw =
      rw (place-start f.steps.0 f.scale.0 f.span.0 s.steps-least s.span-least (oriented f raw))
      (K.kept-start f.steps.0 f.scale.0 f.span.0 s.steps-least s.span-least (oriented f raw))

  pub kept_move : (base : ℕ) (travel : ℤ) (t : Shaft) (offset : ℤ) (raw : ℕ) → Kept f base travel t offset
      → Kept f base (travel +ℤ move_of f t.last.0 raw) (moved_to f t raw) offset
  unfolding moved_to
  kept_move base travel t offset raw k =
      let d = move_of f t.last.0 raw in
      rw (place-move f.steps.0 f.scale.0 f.span.0 s.steps-least s.span-least t.place.0 d)
      (K.kept_move f.steps.0 f.scale.0 f.span.0 s.steps-least s.span-least (phase_of f t) offset travel d ∙ k)

  pub kept-preset : (t : Shaft) (to : ℕ) → to < f.span.0 → Kept f to (pos 0) t (pos to -ℤ pos (unshifted f t))
  unfolding unshifted
  kept-preset t to lt =
      rw (← place-units f.steps.0 f.scale.0 f.span.0 s.steps-least s.span-least t.place.0)
      (K.kept-preset f.steps.0 f.scale.0 f.span.0 s.steps-least s.span-least (phase_of f t) to lt)

-- ---- the position agrees
pub agrees : (d : Device) → Sound (force d) → (l : Ledger) (t : Shaft) (offset : ℤ) → Kept (force d) l.base l.travel t offset
    → Agrees d l (position_at (force d) offset t)
unfolding position_at unshifted
agrees d s l t offset k =
    let f = force d in
    let n = rw (place-units f.steps.0 f.scale.0 f.span.0 s.steps-least s.span-least t.place.0, k)
    at (K.kept_near f.steps.0 f.scale.0 f.span.0 s.steps-least s.span-least (phase_of f t) offset l.travel) in
    record { w = n.w; low = n.low; high = n.high }
