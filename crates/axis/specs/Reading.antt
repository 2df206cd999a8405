-- Start and reading: each yields the next axis, or the axis as it was beside the refusal (document 01, "The axis", rules 2 and 3).
use Rattle.std.specs.Prelude.{ℕ, leb, pos, Option, None, Some, Result, Ok, Err}
use Rattle.encoder.specs.{Nameplate, Parameters, Refusal, WrongTurn, when, ◌before◌, answer, capacity_of, fields_of, refusal_on, rules_of}
use Rattle.sensor.specs.{raw_of, step_refusal}
use Rattle.axis_shaft.specs.{Shaft, nowhere, started, shaft_refusal, moved_to}
use Rattle.axis.specs.{declared.Axis.Axis, declared.Next.Next, Limits.rules_on, Limits.axis_refusal}

abbrev pub accepted : Axis → Next
accepted a = record { axis = a; refusal = None }

abbrev pub refused : Axis → Refusal → Next
refused a r = record { axis = a; refusal = Some r }

-- the answer to a call on axis a by its refusal: axis b where there is none
abbrev pub next : Axis → Option Refusal → Axis → Next
next a n b = answer (refused a) (accepted b) n

-- what a call yields by its refusal, and the answer on axis a by what it yields
abbrev pub yielded : {A : Type 0} → Option Refusal → A → Result A Refusal
yielded n b = answer Err (Ok b) n

abbrev pub next_by : Axis → Result Axis Refusal → Next
next_by a (Ok b) = accepted b
next_by a (Err r) = refused a r

-- 2. an axis of a plate and parameters: no offset yet, and no preset
abbrev pub fresh : Nameplate → Parameters → Shaft → Axis
fresh n p k = record { nameplate = n; parameters = p; shaft = k; offset = pos 0; preset = pos 0; stored = pos 0 }

-- the axis at its first reading; a refused start leaves a record that gets 16 from every call
abbrev pub begun_by : Nameplate → Parameters → Result Shaft Refusal → Next
begun_by n p (Ok k) = accepted (fresh n p k)
begun_by n p (Err r) = refused (fresh n p nowhere) r

-- 7, 3, 4, 5, 6, 17, 8, 9
unfoldable pub start_refusal : Nameplate → Parameters → ℕ → ℕ → Option Refusal
start_refusal n p s t = refusal_on n p before step_refusal n s t

unfoldable pub start : Nameplate → Parameters → ℕ → ℕ → Next
start n p s t = next (fresh n p nowhere) (start_refusal n p s t) (fresh n p (started (rules_of n (fields_of p)) (raw_of n s t)))

-- the same from a raw number: 7, 3, 4, 5, 6, 17, then 9 where it is C or above
unfoldable pub start_raw_refusal : Nameplate → Parameters → ℕ → Option Refusal
start_raw_refusal n p raw = refusal_on n p before when (leb (capacity_of n) raw) WrongTurn

unfoldable pub start_raw : Nameplate → Parameters → ℕ → Next
start_raw n p raw = next (fresh n p nowhere) (start_raw_refusal n p raw) (fresh n p (started (rules_of n (fields_of p)) raw))

-- 3. an axis that has moved
abbrev pub with_shaft : Axis → Shaft → Axis
with_shaft a k =
    record { nameplate = a.nameplate; parameters = a.parameters; shaft = k; offset = a.offset; preset = a.preset; stored = a.stored }

unfoldable pub at_raw : Axis → ℕ → Axis
at_raw a raw = with_shaft a (moved_to (rules_on a) a.shaft raw)

-- a raw number: 16, 9, 10 (the shaft's own 16 never comes: the limits of the axis hold those of the shaft)
unfoldable pub read_raw_refusal : Axis → ℕ → Option Refusal
read_raw_refusal a raw = axis_refusal a before shaft_refusal (rules_on a) a.shaft raw

unfoldable pub read_raw : Axis → ℕ → Next
read_raw a raw = next a (read_raw_refusal a raw) (at_raw a raw)

-- step s and turn t: 16, 8, 9, 10
unfoldable pub read_refusal : Axis → ℕ → ℕ → Option Refusal
read_refusal a s t =
    axis_refusal a before step_refusal a.nameplate s t before shaft_refusal (rules_on a) a.shaft (raw_of a.nameplate s t)

unfoldable pub read : Axis → ℕ → ℕ → Next
read a s t = next a (read_refusal a s t) (at_raw a (raw_of a.nameplate s t))
