-- A state of the library beside a ledger. The state holds the device and all of the ledger but p and g, so that what is kept is one equation. Accepted
-- raw numbers keep it, one or many.
use Rattle.std.specs.Prelude.{◌≡◌, refl, List, [], ◌∷◌, ℕ, suc, ℤ, ◌+ℤ◌, None}
use Rattle.encoder.proofs.{before-none}
use Rattle.axis_shaft.specs.{move_refusal, moved_to, refusal_in}
use Rattle.axis.specs.{Axis, rules_on, position_of, reported, at_raw}
use Rattle.axis.proofs.{Limits, singly, raw-kept}
use Rattle.axis_batch.specs.{after, positions_of}
use Rattle.accuracy.specs.{Device, force, Ledger.Ledger, Deed, with_readings, noted, TrueSteps, Supposed, Agrees, Entries, number, Rule6, read_singly, State, ours}
use Rattle.accuracy.proofs.{Kept.Kept, Kept.agrees, Kept.kept_move, Supposed.went}

-- the device and the ledger of a state, p and g
abbrev pub device_of : Axis → Device
device_of a = record { plate = a.nameplate; parameters = a.parameters }

abbrev pub ledger_of : State → ℕ → ℤ → Ledger
ledger_of s p g = record { base = p; travel = g; last = s.axis.shaft.last.0; stored = s.axis.stored; link = s.link }

-- what is kept: p is the origin of the state and g
abbrev pub Keeps : State → ℕ → ℤ → Type 0
Keeps s p g = Kept (rules_on s.axis) p g s.axis.shaft s.axis.offset

pub record Matches (d : Device) (s : State) (l : Ledger) : Type 0 where
  pub device : device_of s.axis ≡ d
  pub ledger : ledger_of s l.base l.travel ≡ l
  pub kept : Keeps s l.base l.travel

-- the state with another axis
abbrev pub onward : State → Axis → State
onward s a = record { axis = a; link = s.link }

module _ (s : State) (p : ℕ) (g : ℤ) (lim : Limits s.axis) (k : Keeps s p g) where
  -- so the position agrees
  pub stands-agrees : Agrees (device_of s.axis) (ledger_of s p g) (position_of s.axis)
  unfolding position_of rules_on
  stands-agrees = agrees (device_of s.axis) lim.shaft.sound (ledger_of s p g) s.axis.shaft s.axis.offset k

  -- ---- a raw number that is accepted
  pub stands-moved : (raw : ℕ) (m : ℕ → ℤ) → TrueSteps (device_of s.axis) s.axis.shaft.last.0 raw (m 0)
      → Matches (device_of s.axis) (onward s (at_raw s.axis raw)) (with_readings (ledger_of s p g) (raw ∷ []) m)
  unfolding at_raw moved_to with_readings rules_on
  stands-moved raw m h =
      let d = device_of s.axis in
      let t = s.axis.shaft in
      record {
        device = refl;
        ledger = refl;
        kept = rw (← went d lim.shaft.sound t.last.0 raw (m 0) h) (kept_move (force d) lim.shaft.sound p g t s.axis.offset raw k);
      }

-- what a call leaves, by what the ledger says that it does
pub record Done (s : State) (l : Ledger) (m : ℕ → ℤ) (did : Deed) (b : State) : Type 0 where
  pub stands : Matches (device_of s.axis) b (noted l did m (position_of b.axis))
  pub puts : Rule6 (device_of s.axis) did.preset (number (reported (read_singly ours s did.numbers).axis)) (position_of b.axis)

-- ---- raw numbers one after the other: where they lead, and the position at each
pub walked : (s : State) (p : ℕ) (g : ℤ) (raws : List ℕ) (m : ℕ → ℤ) → Limits s.axis → Keeps s p g
    → let d = device_of s.axis in let l = ledger_of s p g in
    refusal_in (force d) l.last raws ≡ None → Supposed d l.last raws m
    → Matches d (onward s (after s.axis raws)) (with_readings l raws m) × Entries d l raws m (positions_of s.axis raws)
unfolding refusal_in Supposed after positions_of with_readings Entries rules_on at_raw moved_to
walked s p g [] m lim k none h = (record { device = refl; ledger = refl; kept = k }, tt)
walked s p g (raw ∷ raws) m lim k none h =
    let a = s.axis in
    let both = before-none (move_refusal (rules_on a) a.shaft.last.0 raw) (refusal_in (rules_on a) raw raws) none in
    let t = singly a lim raw None both.0 in
    let b = onward s (at_raw a raw) in
    let b-limits : Limits (at_raw a raw) = rw t at (raw-kept a lim raw) in
    let b-kept = (stands-moved s p g lim k raw m h.0).kept in
    let rest = walked b p (g +ℤ m 0) raws (λ i. m (suc i)) b-limits b-kept both.1 h.1 in
    rw t (rest.0, (stands-agrees b p (g +ℤ m 0) b-limits b-kept, rest.1))
