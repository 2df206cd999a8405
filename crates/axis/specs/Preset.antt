-- Presets, and the held preset value (document 01, "The axis", rule 6; "One cycle" on the held preset value).
use Rattle.std.specs.Prelude.{Bool, cond, ℕ, ℤ, pos, ◌+ℤ◌, ◌-ℤ◌, Option}
use Rattle.integer.specs.{◌modulo◌}
use Rattle.encoder.specs.{Refusal, ◌before◌}
use Rattle.axis_offset.specs.{value_refusal}
use Rattle.axis.specs.{declared.Axis.Axis, declared.Next.Next, Limits.rules_on, Limits.axis_refusal, Limits.unshifted_of, Limits.position_of, Reading.next}

-- 16, 12, 11
unfoldable pub preset_refusal : Axis → ℤ → Option Refusal
preset_refusal a v = axis_refusal a before value_refusal (rules_on a) v

-- 6. absolute: the position becomes v modulo L. Relative: it becomes position + v, modulo L
unfoldable pub asked : Axis → ℤ → Bool → ℕ
asked a v relative = cond relative ((pos (position_of a) +ℤ v) modulo (rules_on a).span.0) (v modulo (rules_on a).span.0)

-- the offset becomes new position − unshifted; the last v is remembered
abbrev pub shifted : Axis → ℤ → ℤ → Axis
shifted a offset v =
    record { nameplate = a.nameplate; parameters = a.parameters; shaft = a.shaft; offset = offset; preset = v; stored = a.stored }

unfoldable pub presetted : Axis → ℤ → Bool → Axis
presetted a v relative = shifted a (pos (asked a v relative) -ℤ pos (unshifted_of a)) v

unfoldable pub preset : Axis → ℤ → Bool → Next
preset a v relative = next a (preset_refusal a v) (presetted a v relative)

-- the held preset value is set by a call that makes no preset
abbrev pub holding : Axis → ℤ → Axis
holding a v =
    record { nameplate = a.nameplate; parameters = a.parameters; shaft = a.shaft; offset = a.offset; preset = a.preset; stored = v }

unfoldable pub store : Axis → ℤ → Next
store a v = next a (preset_refusal a v) (holding a v)
