use Rattle.std.proofs.Common.{refl, rules, ◌∙◌}
use Rattle.std.specs.Int.{w64}
use mir.Val.{SFits}
use Rattle.integer.proofs.{reads}
use Rattle.axis.specs.{preset_refusal}
use Rattle.axis.proofs.AxisLaws.{outside-answer, ready_of}
use Rattle.axis.proofs.PresetLaws.{value-no, preset-never, preset-on}
use Rattle.axis.proofs.Axis.presetted.Goals as goal

pub returns-in_err-rules : goal.returns-in_err-rules
unfolding preset_refusal
returns-in_err-rules c = outside-answer _ _ _ _ _ c.in_err-rules.ensures (search rules) _

pub returns-in_err-check_value : goal.returns-in_err-check_value
returns-in_err-check_value c = value-no _ _ (ready_of _ _ c.in_ok-rules.ensures) _ c.ranges.value _ _ _ c.in_err-check_value.ensures (search rules)

pub returns-in_err-at : goal.returns-in_err-at
returns-in_err-at c = preset-never _ _ (ready_of _ _ c.in_ok-rules.ensures) _ c.ranges.value _ _ _ c.in_err-at.ensures

pub returns : goal.returns
returns c =
    let fits : SFits w64 c.offset_by-offset.result = record { sfits = c.offset_by-offset.type_inv } in
    let i =
    preset-on _ _ (ready_of _ _ c.in_ok-rules.ensures) _ c.ranges.value _ c.in_ok-check_value.ensures _ _ _ c.in_ok-at.ensures
    (reads fits ∙ c.offset_by-offset.ensures) refl in search rules
