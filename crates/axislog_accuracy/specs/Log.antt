-- THE CLAIM for a log (document 01, "The program axislog" and "The distance rule"): whatever the lines are, each is answered as the table says, every
-- position that is printed is less than one unit away from the exact one, and each preset puts the position where rule 6 says.
--
-- A book is kept beside the log. It gets the lines, the true steps m and what is printed, and nothing else of the program. It keeps what the last
-- accepted axis form has set up and, from the first accepted reading after it, the ledger of the distance rule; of what is printed it notes the position
-- just after a preset. Table and book settle the answer to each line, all but the position itself: (axis ready) to an accepted axis form, (at n) to an
-- accepted read or preset, and (refused n) with the table's number to any other line. So a refusal in place of a position breaks the claim, and so does
-- a position in place of a refusal.
--
-- It supposes, as the distance rule does, of each raw number taken after the first: the shaft has truly moved by m steps since the one before, by less
-- than half the sensor's range either way, and the sensor shows where it came to.
--
-- The claim is of any log program, and sees only its answer to each line. Log.antt in proofs/ proves it of axislog; Worthless.antt
-- there refutes it of a program that refuses every line, of one that always shows 0, and of one that ignores presets.
use Rattle.std.specs.Prelude.{◌≡◌, false, List, [], ◌∷◌, ℕ, ℤ, Option, Some, None}
use Rattle.integer.specs.{◌modulo◌}
use Rattle.encoder.specs.{Refusal, NoForm, NoAxis, number, answer, refusal_on}
use Rattle.accuracy.specs.{first_number, raw_reading, presetting, Device, force, Ledger.Ledger, start_by, opened, refusal_by, made, with_readings, put, TrueSteps, Agrees}
use Rattle.axislog_forms.specs.{Setup, Form, Axis, Read, Preset, form}
use Rattle.axislog_answers.specs.{Answer, Ready, At, Refused}
use Rattle.axislog_state.specs.{plate_of, parameters_of}

-- any log program: its state before the first line, its answer to a line, and its state after the line. A line is its octets without the newline
pub record Program : Type 1 where
  pub State : Type 0
  pub empty : State
  pub answer : State → List ℕ → Answer
  pub after : State → List ℕ → State

-- a line of the log, and the true steps since the last accepted raw number, which the program is not told
pub record Heard : Type 0 where
  pub line : List ℕ
  pub steps : ℤ

-- ---- the book: none before an axis form is taken, then the axis that awaits its first reading, then its ledger
pub data Book : Type 0 where
  none : Book
  waiting : (d : Device) → Book
  kept : (d : Device) (l : Ledger) → Book

abbrev pub device : Setup → Device
device f = record { plate = plate_of f; parameters = parameters_of f }

-- ---- what a line is due: a refusal, (axis ready), or the position after a first reading, a further one or a preset
pub data Due : Type 0 where
  refusal : (r : Refusal) → Due
  ready : (d : Device) → Due
  first : (d : Device) (raw : ℕ) → Due
  reading : (d : Device) (l : Ledger) (raw : ℕ) → Due
  preset : (d : Device) (l : Ledger) (v : ℤ) → Due

-- by the table. An axis that waits has plate and parameters that were taken, so that a start on it is refused only by 9
abbrev pub due : Option Form → Book → Due
due None b = refusal NoForm
due (Some (Axis f)) b = answer refusal (ready (device f)) (refusal_on (plate_of f) (parameters_of f))
due (Some (Read raw)) none = refusal NoAxis
due (Some (Read raw)) (waiting d) = answer refusal (first d raw) (start_by d (first_number raw))
due (Some (Read raw)) (kept d l) = answer refusal (reading d l raw) (refusal_by d l (raw_reading raw))
due (Some (Preset v)) none = refusal NoAxis
due (Some (Preset v)) (waiting d) = refusal NoAxis
due (Some (Preset v)) (kept d l) = answer refusal (preset d l v) (refusal_by d l (presetting v false))

-- ---- supposed of m, where a raw number is taken after the first
abbrev pub Moves : Due → ℤ → Type 0
Moves (reading d l raw) m = TrueSteps d l.last raw m
Moves (refusal r) m = Unit
Moves (ready d) m = Unit
Moves (first d raw) m = Unit
Moves (preset d l v) m = Unit

-- ---- the book after a line that was answered a: what is refused changes nothing, and after a preset p is the position printed
abbrev pub told : Answer → ℕ
told (At n) = n
told Ready = 0
told (Refused n) = 0

abbrev pub booked : Due → Book → ℤ → Answer → Book
booked (refusal r) b m a = b
booked (ready d) b m a = waiting d
booked (first d raw) b m a = kept d (opened d raw)
booked (reading d l raw) b m a = kept d (with_readings l (raw ∷ []) (λ i. m))
booked (preset d l v) b m a = kept d (put (made v false) l (told a))

-- ---- claimed of the answer, beside the book after it: where a position is due, one is printed, and it is less than one unit from the exact one
abbrev pub Locates : Book → Answer → Type 0
Locates (kept d l) (At n) = Agrees d l n
Locates (kept d l) Ready = ⊥
Locates (kept d l) (Refused n) = ⊥
Locates none a = ⊥
Locates (waiting d) a = ⊥

-- a refusal and (axis ready) are answered as due, and after a preset the position is the one that rule 6 gives
abbrev pub Meets : Due → Book → Answer → Type 0
Meets (refusal r) after a = a ≡ Refused (number r)
Meets (ready d) after a = a ≡ Ready
Meets (first d raw) after a = Locates after a
Meets (reading d l raw) after a = Locates after a
Meets (preset d l v) after a = Locates after a × (told a ≡ v modulo (force d).span.0)

-- ---- the claim: of a program in state s beside book b, and of all that follows
unfoldable pub Printed : (p : Program) → p.State → Book → List Heard → Type 0
Printed p s b [] = Unit
Printed p s b (e ∷ es) =
    let x = due (form e.line) b in
    let a = p.answer s e.line in
    let after = booked x b e.steps a in
    Moves x e.steps → Meets x after a × Printed p (p.after s e.line) after es

-- of every log
abbrev pub Claim : Program → Type 0
Claim p = (es : List Heard) → Printed p p.empty none es
