-- The axis of a log, and what a form does to it (document 01, "The program axislog").
use Rattle.std.specs.Prelude.{ℕ, ◌+◌, false, true, ℤ, Option, Some, None, Result, Ok, Err}
use Rattle.integer.specs.{at}
use Rattle.encoder.specs.{Nameplate, Parameters, Class2, Refusal, NoForm, NoAxis, number, answer, plain_plate, refusal_on}
use Rattle.axis_shaft.specs.{nowhere, Reported}
use Rattle.axis.specs.{Axis, Next, reported, fresh, start_raw, read_raw, preset as preset_on}
use Rattle.axislog_forms.specs.{Setup, Form, Axis as AxisForm, Read, Preset}
use Rattle.axislog_answers.specs.{Answer, Ready, At, Refused}
use Rattle.axislog_state.specs.{declared.Stage.Stage, declared.Stage.TheVariants.NoAxis, declared.Stage.TheVariants.Waiting}
use Rattle.axislog_state.specs.{declared.Stage.TheVariants.Started, declared.State.State, declared.Reply.Reply}

-- the plate's other fields are zero
abbrev pub plate_of : Setup → Nameplate
plate_of s = plain_plate s.steps s.turns 0

-- octet 9: bit 3 scaling on, bit 1 class 2 on, bit 0 code sequence
abbrev pub parameters_of : Setup → Parameters
parameters_of s =
    Class2 (at s.scaling 3 + at true 1 + at s.reversed 0) (record { 0 = s.units }) (record { 0 = s.range })

-- an axis without a reading
unfoldable pub unstarted : Stage → Setup → State
unstarted stage s = record { stage = stage; axis = fresh (plate_of s) (parameters_of s) nowhere }

-- before the first line
abbrev pub empty : State
empty = unstarted NoAxis (record { steps = 0; turns = 0; reversed = false; scaling = false; units = 0; range = 0 })

-- (at n) shows the position
abbrev pub position : Result Reported Refusal → Answer
position (Ok p) = At p.position.0
position (Err r) = Refused (number r)

unfoldable pub position_answer : Axis → Answer
position_answer a = position (reported a)

-- (refused n) shows the number; the axis stays as it was
abbrev pub refused : State → Refusal → Reply
refused s r = record { state = s; answer = Refused (number r) }

-- the reply to an accepted form, or to a refused one
abbrev pub reply_by : State → Result Reply Refusal → Reply
reply_by s (Ok r) = r
reply_by s (Err r) = refused s r

-- an accepted call leaves a started axis and shows its position
abbrev pub taken : Axis → Reply
taken a = record { state = record { stage = Started; axis = a }; answer = position_answer a }

-- after a call on the axis
unfoldable pub after : State → Next → Reply
after s x = answer (refused s) (taken x.axis) x.refusal

-- after an accepted axis form the axis waits for its first reading; a refused one keeps the former axis
abbrev pub ready : Setup → Reply
ready f = record { state = unstarted Waiting f; answer = Ready }

unfoldable pub set_up : State → Setup → Reply
set_up s f = answer (refused s) (ready f) (refusal_on (plate_of f) (parameters_of f))

-- the first accepted read starts the axis
abbrev pub read_at : Stage → State → ℕ → Reply
read_at NoAxis s raw = refused s NoAxis
read_at Waiting s raw = after s (start_raw s.axis.nameplate s.axis.parameters raw)
read_at Started s raw = after s (read_raw s.axis raw)

unfoldable pub read : State → ℕ → Reply
read s raw = read_at s.stage s raw

-- presets are absolute; one before the first accepted read gets 16
abbrev pub preset_at : Stage → State → ℤ → Reply
preset_at NoAxis s v = refused s NoAxis
preset_at Waiting s v = refused s NoAxis
preset_at Started s v = after s (preset_on s.axis v false)

unfoldable pub preset : State → ℤ → Reply
preset s v = preset_at s.stage s v

-- 15 comes before all others
unfoldable pub reply : State → Option Form → Reply
reply s (Some (AxisForm f)) = set_up s f
reply s (Some (Read raw)) = read s raw
reply s (Some (Preset v)) = preset s v
reply s None = refused s NoForm
