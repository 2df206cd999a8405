use Rattle.std.proofs.Common.{refl, rules}
use Rattle.axis.specs.{preset_refusal}
use Rattle.axis.proofs.AxisLaws.{outside-answer, ready_of}
use Rattle.axis.proofs.PresetLaws.{value-no, holding-on}
use Rattle.axis.proofs.Axis.holding.Goals as goal

pub returns-in_err-rules : goal.returns-in_err-rules
unfolding preset_refusal
returns-in_err-rules c = outside-answer _ _ _ _ _ c.in_err-rules.ensures (search rules) _

pub returns-in_err-check_value : goal.returns-in_err-check_value
returns-in_err-check_value c = value-no _ _ (ready_of _ _ c.in_ok-rules.ensures) _ c.ranges.value _ _ _ c.in_err-check_value.ensures (search rules)

pub returns : goal.returns
returns c = let i = holding-on _ _ (ready_of _ _ c.in_ok-rules.ensures) _ c.ranges.value _ c.in_ok-check_value.ensures refl in search rules
