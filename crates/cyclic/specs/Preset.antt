-- The preset of a cycle, and the positions of the axis after it (document 01, "One cycle").
use Rattle.std.specs.Prelude.{Option, None, Some}
use Rattle.axis.specs.{Axis, unshifted_of, position_of, presetted}
use Rattle.cyclic_link.specs.{Preset}
use Rattle.cyclic.specs.declared.standing.Standing.{Standing}

-- the axis after the raw number, with the preset if one is made
abbrev pub preset_by : Axis → Option Preset → Axis
preset_by a None = a
preset_by a (Some o) = presetted a o.value o.relative

-- an axis and its positions
abbrev pub standing : Axis → Standing
standing a = record { axis = a; position = record { 0 = position_of a }; unshifted = record { 0 = unshifted_of a } }
