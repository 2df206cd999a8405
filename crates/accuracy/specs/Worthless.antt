-- Programs that document 01 would send back ("Programs we would send back", "Traps on the bench"), each as ours but for one thing. Each breaks the
-- claim: proofs/Worthless.antt, for the octets of telegram 83 proofs/Telegram83.antt, and for the sign of life proofs/SignOfLife.antt.
use Rattle.std.specs.Prelude.{Bool, false, cond, List, ◌++◌, ℕ, ◌*◌, ◌/◌, ◌%◌, eqb, pos, ◌+ℤ◌, ◌-ℤ◌, ◌*ℤ◌, length, get_or, take, drop, replicate, Result, Ok}
use Rattle.std.specs.Int.Signed.{quot_z}
use Rattle.integer.specs.{◌modulo◌}
use Rattle.axis_shaft.specs.{oriented, move_of, Reported}
use Rattle.encoder.specs.{Refusal}
use Rattle.axis.specs.{Axis, rules_on, unshifted_of, position_of, reported, with_shaft}
use Rattle.cyclic_link.specs.{Link, counting, quiet}
use Rattle.cyclic.specs.{faulty_at}
use Rattle.accuracy.specs.{Calls.Call, Calls.reading, Calls.raw_reading, Calls.batching, Calls.presetting, Calls.storing, Calls.cycling, Calls.measuring, Ledger.with_due, Claim.Program}
use Rattle.accuracy.specs.{Run.State, Run.begin, Run.yields, Run.lent_by}

-- ---- another answer for the position
abbrev pub at : ℕ → ℕ → Result Reported Refusal
at position unshifted = Ok (record { position = record { 0 = position }; unshifted = record { 0 = unshifted } })

abbrev pub answers : (Axis → Result Reported Refusal) → Program
answers position = record { State = State; start = begin; call = yields; position = λ s. position s.axis; lent = lent_by }

abbrev pub always0 : Program
always0 = answers (λ a. at 0 0)

abbrev pub ignores_presets : Program
ignores_presets = answers (λ a. at (unshifted_of a) (unshifted_of a))

-- ---- another axis after each call, from the one before it and from ours
abbrev pub leaves : (Axis → Axis → Axis) → Program
leaves f =
    record {
      State = State;
      start = begin;
      call = λ s c. record { axis = f s.axis (yields s c).axis; link = (yields s c).link };
      position = λ s. reported s.axis;
      lent = lent_by;
    }

abbrev pub placed : Axis → ℕ → Axis
placed a place = with_shaft a (record { place = record { 0 = place }; last = a.shaft.last })

abbrev pub turns_away : Program
turns_away = leaves (λ a b. a)

abbrev pub claims_half_range : Program
claims_half_range = leaves (λ a b. with_shaft b a.shaft)

abbrev pub ignores_readings : Program
ignores_readings = leaves (λ a b. placed b a.shaft.place.0)

abbrev pub scales_afresh : Program
scales_afresh = leaves (λ a b. placed b (oriented (rules_on b) b.shaft.last.0))

-- keeps the place modulo C, and not modulo R × L
abbrev pub wraps_at_c : Program
wraps_at_c = leaves (λ a b. placed b (b.shaft.place.0 % (rules_on b).capacity.0))

-- cuts the place to whole units, so that the next move is added to a rounded position
abbrev pub cuts_place : Program
cuts_place =
    leaves (λ a b. placed b (b.shaft.place.0 * (rules_on b).scale.0 / (rules_on b).steps.0 * (rules_on b).steps.0 / (rules_on b).scale.0))

-- ---- another call in the place of the one that came: other raw numbers of a batch, another kind of preset, another raw number of a cycle
abbrev pub instead : (List ℕ → List ℕ) → (Bool → Bool) → (ℕ → ℕ) → Call → Call
instead raws kind number (reading step turn) = reading step turn
instead raws kind number (raw_reading raw) = raw_reading raw
instead raws kind number (batching numbers positions) = batching (raws numbers) positions
instead raws kind number (presetting v relative) = presetting v (kind relative)
instead raws kind number (storing v) = storing v
instead raws kind number (cycling raw output input) = cycling (number raw) output input
instead raws kind number (measuring raw elapsed output input) = measuring (number raw) elapsed output input

abbrev pub takes : (Axis → Call → Call) → Program
takes f =
    record {
      State = State;
      start = begin;
      call = λ s c. yields s (f s.axis c);
      position = λ s. reported s.axis;
      lent = λ s c. lent_by s (f s.axis c);
    }

-- moves for a pass's first entry, copies that position on
abbrev pub copies_first : Program
copies_first = takes (λ a c. instead (λ raws. replicate (length raws) (get_or raws 0 0)) (λ relative. relative) (λ raw. raw) c)

-- takes a relative preset as absolute
abbrev pub always_absolute : Program
always_absolute = takes (λ a c. instead (λ raws. raws) (λ relative. false) (λ raw. raw) c)

-- takes the last raw number for one that would be refused, and so makes a preset in a faulty cycle
abbrev pub presets_when_faulty : Program
presets_when_faulty =
    takes (λ a c. instead (λ raws. raws) (λ relative. relative) (λ raw. cond (faulty_at a raw) a.shaft.last.0 raw) c)

-- ---- another link after each call
abbrev pub links : (Link → Link) → State → State
links f s = record { axis = s.axis; link = f s.link }

abbrev pub keeps : (Link → Link) → Program
keeps f = record { State = State; start = begin; call = λ s c. links f (yields s c); position = λ s. reported s.axis; lent = lent_by }

-- no link goes from cycle to cycle
abbrev pub forgets_link : Program
forgets_link = keeps (λ k. quiet)

-- makes a preset in the cycle of the rise or never, as before request 2
abbrev pub forgets_due : Program
forgets_due = keeps (λ k. with_due k false)

-- forgets the sign of life from cycle to cycle, and so never holds 0F02h (request 3)
abbrev pub forgets_life : Program
forgets_life = keeps (λ k. counting k 0 0)

-- the input octets are those of a cycle with a fresh link
abbrev pub shows_fresh : Program
shows_fresh =
    record { State = State; start = begin; call = yields; position = λ s. reported s.axis; lent = λ s c. lent_by (links (λ k. quiet) s) c }

-- ---- the sixteen octets of telegram 83 in another order: NIST_B in front of the twelve
abbrev pub shifted : List ℕ → List ℕ
shifted octets = cond (eqb (length octets) 16) (drop 12 octets ++ take 12 octets) octets

abbrev pub shifts_octets : Program
shifts_octets = record { State = State; start = begin; call = yields; position = λ s. reported s.axis; lent = λ s c. shifted (lent_by s c) }

-- ---- adds a rounded move to the last position, and a preset's change of the offset
pub record Adding : Type 0 where
  pub state : State
  pub position : ℕ

abbrev pub added : Adding → Call → Adding
added s c =
    let a = s.state.axis in
    let b = (yields s.state c).axis in
    let f = rules_on a in
    let move = quot_z (move_of f a.shaft.last.0 b.shaft.last.0 *ℤ pos f.scale.0) (pos f.steps.0) in
    record { state = yields s.state c; position = (pos s.position +ℤ move +ℤ (b.offset -ℤ a.offset)) modulo f.span.0 }

abbrev pub adds_rounded : Program
adds_rounded =
    record {
      State = Adding;
      start = λ n p first. record { state = begin n p first; position = position_of (begin n p first).axis };
      call = added;
      position = λ s. at s.position s.position;
      lent = λ s c. lent_by s.state c;
    }
