-- The ledger (document 01, "The distance rule", its second paragraph). It is fed the arguments of the calls, the true steps m beside each
-- accepted raw number, and one answer, the position just after a preset. By the table of refusals and the rules it settles what is accepted and whether a
-- preset is made: it keeps the last accepted raw number, the held preset value and the link state itself, and never looks at an axis record.
use Rattle.std.specs.Prelude.{Bool, true, false, cond, not, ◌&&◌, ◌||◌, List, [], ◌∷◌, ℕ, suc, eqb, ltb, ℤ, pos, ◌+ℤ◌, length, Option, is_some}
use Rattle.encoder.specs.{Nameplate, Parameters, InForce, Refusal, WrongBuffer, when, ◌before◌, answer, fields_of, rules_of}
use Rattle.sensor.specs.{raw_of, step_refusal}
use Rattle.axis_shaft.specs.{oriented, move_refusal, refusal_in}
use Rattle.axis_offset.specs.{value_refusal}
use Rattle.axis.specs.{start_refusal, start_raw_refusal}
use Rattle.cyclic_link.specs.{Link, quiet}
use Rattle.cyclic.specs.{word_of, counted, heard_in, stopped_in, class4, life, length_refusal, link_after, refusal83}
use Rattle.accuracy.specs.Calls.{First, first_reading, first_number, Call, reading, raw_reading, batching, presetting, storing, cycling, measuring}
use Rattle.cyclic_link.specs.Class2 as Class2
use Rattle.cyclic_link.specs.Class4 as Class4

-- what the axis was started with, and what that puts in force
pub record Device : Type 0 where
  pub plate : Nameplate
  pub parameters : Parameters

abbrev pub force : Device → InForce
force d = rules_of d.plate (fields_of d.parameters)

pub record Ledger : Type 0 where
  -- p, and g
  pub base : ℕ
  pub travel : ℤ
  -- the last accepted raw number, the held preset value and the link state
  pub last : ℕ
  pub stored : ℤ
  pub link : Link

-- the refusal of a start; and its raw number
abbrev pub start_by : Device → First → Option Refusal
start_by d (first_reading step turn) = start_refusal d.plate d.parameters step turn
start_by d (first_number raw) = start_raw_refusal d.plate d.parameters raw

abbrev pub first_raw : Device → First → ℕ
first_raw d (first_reading step turn) = raw_of d.plate step turn
first_raw d (first_number raw) = raw

-- start: p = 0, g = the oriented number
abbrev pub opened : Device → ℕ → Ledger
opened d raw = record { base = 0; travel = pos (oriented (force d) raw); last = raw; stored = pos 0; link = quiet }

-- ---- by the table: the refusal of a call. There is no row 16: the axis was started, its link was 0 then, and
-- nothing but its own calls writes the two
abbrev pub refusal_by : Device → Ledger → Call → Option Refusal
refusal_by d l (reading step turn) =
    step_refusal d.plate step turn before move_refusal (force d) l.last (raw_of d.plate step turn)
refusal_by d l (raw_reading raw) = move_refusal (force d) l.last raw
refusal_by d l (batching raws positions) =
    when (not (eqb (length raws) (length positions))) WrongBuffer before refusal_in (force d) l.last raws
refusal_by d l (presetting v relative) = value_refusal (force d) v
refusal_by d l (storing v) = value_refusal (force d) v
refusal_by d l (cycling raw output input) = length_refusal (class4 d.parameters) (length output) (length input)
refusal_by d l (measuring raw elapsed output input) = refusal83 (class4 d.parameters) (length output) (length input) elapsed

-- ---- by the rules: what a call does
pub data Preset : Type 0 where
  none : Preset
  made : (v : ℤ) (relative : Bool) → Preset

-- the raw numbers that it accepts, the preset made after them, the held value and the link that it leaves
pub record Deed : Type 0 where
  pub numbers : List ℕ
  pub preset : Preset
  pub stored : ℤ
  pub link : Link

abbrev pub moves : Ledger → List ℕ → Deed
moves l raws = record { numbers = raws; preset = none; stored = l.stored; link = l.link }

-- a cycle that is not faulty makes a preset with the class on. In class 2 (request 2) one is due when bit 31 rises, 1 now and 0 as last counted, or was
-- due and the bit is still 1; it is made of a value below L
abbrev pub due2 : Link → ℕ → Bool
due2 k word = Class2.asked word && (not k.requested || k.due)

abbrev pub preset2 : Device → Ledger → ℕ → Preset
preset2 d l word =
    cond (due2 l.link word && (force d).enabled && ltb (Class2.value word) (force d).span.0) (made (pos (Class2.value word)) false) none

-- in class 4 of the held preset value, on a rise of bit 12 while no error is held, neither 0001h nor 0F02h (request 3): so the ledger counts the master's sign of
-- life, and asks whether the counter then stands at its stop
abbrev pub rises : Device → Ledger → Bool → Bool
rises d l bit = not l.link.requested && bit && (force d).enabled

abbrev pub preset4 : Device → Ledger → List ℕ → Preset
preset4 d l output =
    let word = counted output in
    let w = life d.parameters in
    cond (rises d l (Class4.asked word) && not (Class4.held (heard_in w l.link output) (stopped_in w l.link output) false word)) (made l.stored (Class4.relative word)) none

abbrev pub cycle_preset : Device → Ledger → List ℕ → Preset
cycle_preset d l output = cond (class4 d.parameters) (preset4 d l output) (preset2 d l (word_of output))

-- the preset is due no more once made or once the bit is 0; class 4 leaves it as it was. The ledger says this itself, since it decides which presets are
-- made; the rest of the link goes by the rules of the cycle
abbrev pub unmade : Preset → Bool
unmade none = true
unmade (made v relative) = false

abbrev pub due_after : Bool → Link → List ℕ → Preset → Bool
due_after class k output o = cond class k.due (due2 k (word_of output) && unmade o)

abbrev pub with_due : Link → Bool → Link
with_due k due =
    record {
      faulty = k.faulty;
      requested = k.requested;
      error = k.error;
      acknowledged = k.acknowledged;
      executed = k.executed;
      due = due;
      counter = k.counter;
      expected = k.expected;
      code = k.code;
    }

-- a cycle, of telegram 83 as of telegram 81 and of class 2, by what would refuse its raw number: a faulty one accepts none and makes no preset
abbrev pub exchanged_by : Device → Ledger → ℕ → List ℕ → Option Refusal → Deed
exchanged_by d l raw output refusal =
    let o = answer (λ _. none) (cycle_preset d l output) refusal in
    record {
      numbers = answer (λ _. []) (raw ∷ []) refusal;
      preset = o;
      stored = l.stored;
      link = with_due (link_after (force d) d.parameters l.link (is_some refusal) output) (due_after (class4 d.parameters) l.link output o);
    }

abbrev pub exchanges : Device → Ledger → ℕ → List ℕ → Deed
exchanges d l raw output = exchanged_by d l raw output (move_refusal (force d) l.last raw)

abbrev pub does : Device → Ledger → Call → Deed
does d l (reading step turn) = moves l (raw_of d.plate step turn ∷ [])
does d l (raw_reading raw) = moves l (raw ∷ [])
does d l (batching raws positions) = moves l raws
does d l (presetting v relative) = record { numbers = []; preset = made v relative; stored = l.stored; link = l.link }
does d l (storing v) = record { numbers = []; preset = none; stored = v; link = l.link }
does d l (cycling raw output input) = exchanges d l raw output
does d l (measuring raw elapsed output input) = exchanges d l raw output

-- a refused call does nothing
abbrev pub deed : Device → Ledger → Call → Deed
deed d l c = answer (λ _. moves l []) (does d l c) (refusal_by d l c)

-- ---- the entries
-- raw number accepted: g grows by m. The true steps before the i-th raw number of a call are m i, counted from 0
unfoldable pub with_readings : Ledger → List ℕ → (ℕ → ℤ) → Ledger
with_readings l [] m = l
with_readings l (raw ∷ raws) m =
    with_readings (record { base = l.base; travel = l.travel +ℤ m 0; last = raw; stored = l.stored; link = l.link }) raws (λ i. m (suc i))

-- preset made: p = the position just after it, and g = 0; else no change
abbrev pub put : Preset → Ledger → ℕ → Ledger
put none l reported = l
put (made v relative) l reported = record { base = reported; travel = pos 0; last = l.last; stored = l.stored; link = l.link }

-- after a call, with the position reported then: held value and link first, then the raw numbers, then the preset
abbrev pub keeping : Ledger → ℤ → Link → Ledger
keeping l stored link = record { base = l.base; travel = l.travel; last = l.last; stored = stored; link = link }

abbrev pub noted : Ledger → Deed → (ℕ → ℤ) → ℕ → Ledger
noted l e m reported = put e.preset (with_readings (keeping l e.stored e.link) e.numbers m) reported
