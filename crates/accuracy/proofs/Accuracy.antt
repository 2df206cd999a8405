-- THE THEOREM (document 01, "The distance rule", demand 3): the claim of specs/Claim.antt holds of the library. By induction on the calls: the start
-- matches the opened ledger, and each call keeps the match.
use Rattle.std.specs.Prelude.{◌≡◌, List, [], ◌∷◌, ℕ, ◌<◌, leb, ℤ, None}
use Rattle.encoder.specs.{capacity_of, WrongTurn, when, refusal_on}
use Rattle.encoder.proofs.{before-none}
use Rattle.sensor.specs.{step_refusal}
use Rattle.sensor.proofs.{reading-lt}
use Rattle.axis_shaft.specs.{started}
use Rattle.axis.specs.{Axis, rules_on, fresh, start_refusal, start, start_raw_refusal, start_raw}
use Rattle.axis.proofs.{reported-is, begun_kept, number_lt}
use Rattle.cyclic_link.specs.{quiet}
use Rattle.accuracy.specs.{First, first_reading, first_number, Device, force, start_by, first_raw, Event, Accurate, Claim.Claim, State, begin, yields, ours}
use Rattle.accuracy.proofs.{Kept.kept-start, LimitsKept.Within, LimitsKept.call_kept, LimitsKept.start-linked, Standing.device_of, Standing.ledger_of, Standing.Keeps, Standing.stands-agrees, Steps.done}
use Rattle.accuracy.proofs.{Steps.lent}

-- ---- the start, by step and turn or by raw number: a raw number below C, and the axis at it
abbrev at : Device → First → Axis
at d first = fresh d.plate d.parameters (started (force d) (first_raw d first))

abbrev Begun : Device → First → Type 0
Begun d first = (refusal_on d.plate d.parameters ≡ None) × (first_raw d first < capacity_of d.plate) × ((begin d.plate d.parameters first).axis ≡ at d first)

begun : (d : Device) (first : First) → start_by d first ≡ None → Begun d first
unfolding start_refusal start start_raw_refusal start_raw
begun d (first_reading step turn) none =
    let n = d.plate in
    let h = before-none (refusal_on n d.parameters) (step_refusal n step turn) none in
    (h.0, reading-lt n step turn h.1, rw none)
begun d (first_number raw) none =
    let n = d.plate in
    let h = before-none (refusal_on n d.parameters) (when (leb (capacity_of n) raw) WrongTurn) none in
    (h.0, number_lt n d.parameters raw h.1, rw none)

-- ---- the list
accurate : (es : List Event) (s : State) (p : ℕ) (g : ℤ) → Within s → Keeps s p g → Accurate (device_of s.axis) ours s (ledger_of s p g) es
unfolding Accurate
accurate [] s p g limits k = rw (reported-is s.axis limits.axis) (stands-agrees s p g limits.axis k)
accurate (e ∷ es) s p g limits k = (
  rw (reported-is s.axis limits.axis) (stands-agrees s p g limits.axis k),
  λ h.
      let c = e.call in
      let b-limits = call_kept s c limits in
      let t = done s p g limits k e.steps c h in
      let rest = rw (t.stands.device, t.stands.ledger) at (accurate es (yields s c) _ _ b-limits t.stands.kept) in
      rw (reported-is (yields s c).axis b-limits.axis) (t.puts, lent s p g limits k e.steps c h, rest),
)

pub accuracy : Claim ours
unfolding started rules_on
accuracy d first none es =
    let h = begun d first none in
    let lim = begun_kept d.plate d.parameters (first_raw d first) h.0 h.1 in
    let s : State = record { axis = at d first; link = quiet } in
    let limits : Within s = record { axis = lim; link = start-linked (at d first) } in
    rw h.2 (accurate es s 0 _ limits (kept-start (force d) lim.shaft.sound (first_raw d first)))
