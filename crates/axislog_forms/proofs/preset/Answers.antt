use Rattle.std.proofs.Common.{rules}
use Rattle.axislog_forms.specs.{preset}
use Rattle.axislog_forms.proofs.preset.Goals as goal

pub returns-in_err-value : goal.returns-in_err-value
unfolding preset
returns-in_err-value c = search rules

pub returns-then-value-eq0 : goal.returns-then-value-eq0
unfolding preset
returns-then-value-eq0 c = search rules

pub returns-in-Some : goal.returns-in-Some
unfolding preset
returns-in-Some c = search rules

pub returns-in_err-number : goal.returns-in_err-number
unfolding preset
returns-in_err-number c = search rules

pub returns : goal.returns
unfolding preset
returns c = search rules
