-- The first reading of an axis that waits: where the table takes it, it is a start of the library's run.
use Rattle.std.specs.Prelude.{◌≡◌, refl, ℕ, ℤ, None, Some}
use Rattle.axis_shaft.specs.{nowhere, started}
use Rattle.axis.specs.{Axis, fresh, start_raw}
use Rattle.axis.proofs.{first as first_at}
use Rattle.accuracy.specs.{first_number, Device, start_by, opened}
use Rattle.accuracy.proofs.{accuracy}
use Rattle.axislog_forms.specs.{Read}
use Rattle.axislog_state.specs.{Waiting, after}
use Rattle.axislog_accuracy.specs.{waiting, first, due}
use Rattle.axislog_accuracy.proofs.Beside.{device_of, Going, Done, stands, by_next}

module _ (d : Device) (raw : ℕ) where
  abbrev begun : Axis
  begun = first_at d.plate d.parameters raw

  going : start_by d (first_number raw) ≡ None → Going d (opened d raw) begun
  unfolding start_raw started
  going z = record { is = refl; last = refl; accurate = λ es. rw z at (accuracy d (first_number raw) z es) }

pub first_done : (a : Axis) (m : ℤ) (raw : ℕ)
    → let d = device_of a in
    Done (due (Some (Read raw)) (waiting d)) (waiting d) m (after (record { stage = Waiting; axis = a }) (start_raw a.nameplate a.parameters raw))
unfolding start_raw
first_done a m raw =
    let d = device_of a in
    by_next (record { stage = Waiting; axis = a }) (waiting d) (refl, refl) m (first d raw)
    (fresh a.nameplate a.parameters nowhere) (begun d raw) (start_by d (first_number raw))
    (λ z. stands d (opened d raw) (begun d raw) (going d raw z))
