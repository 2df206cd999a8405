-- Every call on an acceptable axis leaves an acceptable one, and the link stays within its limits on it (request 3). So 16 never comes of records of our own
-- making: a start gives the first ones, with a link of zeros.
use Rattle.std.specs.Prelude.{◌≡◌, refl, true, List, [], ◌∷◌, ℕ, Option, None, Some}
use Rattle.std.proofs.Common.{◌∙◌}
use Rattle.sensor.specs.{raw_of}
use Rattle.encoder.specs.{Refusal}
use Rattle.axis.specs.{Axis, acceptable, next, at_raw, read_raw_refusal, read_raw, read_refusal, read, preset_refusal, presetted, preset, holding, store}
use Rattle.axis.proofs.{Limits, limits_of, accepts, raw-kept, read_kept, preset-kept, store_kept}
use Rattle.axis_batch.specs.{after, batch_refusal, batch}
use Rattle.axis_batch.proofs.{batch-kept}
use Rattle.cyclic_link.specs.{Link, quiet}
use Rattle.cyclic_link.proofs.{quiet-kept}
use Rattle.cyclic.specs.{life}
use Rattle.cyclic.proofs.{Linked, read_same, cycle-kept, cycle83-kept, cycle-linked, cycle83-linked}
use Rattle.accuracy.specs.{Call, reading, raw_reading, batching, presetting, storing, cycling, measuring, State, yields}

pub record Within (s : State) : Type 0 where
  pub axis : Limits s.axis
  pub link : Linked s.axis s.link

-- ---- a call without the link keeps the parameters, and so the limits of the link
next-linked : (a b : Axis) (k : Link) (n : Option Refusal) → b.parameters ≡ a.parameters → Linked a k → Linked (next a n b).axis k
next-linked a b k None e h = rw e h
next-linked a b k (Some r) e h = h

after_same : (a : Axis) (raws : List ℕ) → (after a raws).parameters ≡ a.parameters
unfolding after
after_same a [] = refl
after_same a (raw ∷ raws) = after_same (read_raw a raw).axis raws ∙ (read_same a raw).1

-- ---- one case for each kind of call
axis-kept : (s : State) (c : Call) → Limits s.axis → Limits (yields s c).axis
axis-kept s (reading step turn) l = read_kept s.axis l step turn
axis-kept s (raw_reading raw) l = raw-kept s.axis l raw
axis-kept s (batching raws positions) l = batch-kept s.axis raws positions l
axis-kept s (presetting v relative) l = preset-kept s.axis l v relative
axis-kept s (storing v) l = store_kept s.axis l v
axis-kept s (cycling raw output input) l = cycle-kept s.axis s.link raw output input l
axis-kept s (measuring raw elapsed output input) l = cycle83-kept s.axis s.link raw elapsed output input l

link-kept : (s : State) (c : Call) → Linked s.axis s.link → Linked (yields s c).axis (yields s c).link
unfolding at_raw read read_raw batch presetted preset store
link-kept s (reading step turn) h =
    let a = s.axis in
    next-linked a (at_raw a (raw_of a.nameplate step turn)) s.link (read_refusal a step turn) refl h
link-kept s (raw_reading raw) h = next-linked s.axis (at_raw s.axis raw) s.link (read_raw_refusal s.axis raw) refl h
link-kept s (batching raws positions) h =
    next-linked s.axis (after s.axis raws) s.link (batch_refusal s.axis raws positions) (after_same s.axis raws) h
link-kept s (presetting v relative) h = next-linked s.axis (presetted s.axis v relative) s.link (preset_refusal s.axis v) refl h
link-kept s (storing v) h = next-linked s.axis (holding s.axis v) s.link (preset_refusal s.axis v) refl h
link-kept s (cycling raw output input) h = cycle-linked s.axis s.link raw output input h
link-kept s (measuring raw elapsed output input) h = cycle83-linked s.axis s.link raw elapsed output input h

pub call_kept : (s : State) (c : Call) → Within s → Within (yields s c)
call_kept s c h = record { axis = axis-kept s c h.axis; link = link-kept s c h.link }

-- ---- the two limits, as tests
pub limits-kept : (s : State) (c : Call) → acceptable s.axis ≡ true → Linked s.axis s.link
    → (acceptable (yields s c).axis ≡ true) × Linked (yields s c).axis (yields s c).link
limits-kept s c h k = (accepts (yields s c).axis (axis-kept s c (limits_of s.axis h)), link-kept s c k)

-- at the start the link is 0
pub start-linked : (a : Axis) → Linked a quiet
start-linked a = quiet-kept (life a.parameters)
