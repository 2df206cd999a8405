use Rattle.std.proofs.Common.{rules}
use Rattle.axislog_forms.specs.{scale}
use Rattle.axislog_forms.proofs.scale.Goals as goal

pub returns-then-ends : goal.returns-then-ends
unfolding scale
returns-then-ends c = search rules

pub returns-in_err-units : goal.returns-in_err-units
unfolding scale
returns-in_err-units c = search rules

pub returns-in_err-behind : goal.returns-in_err-behind
unfolding scale
returns-in_err-behind c = search rules

pub returns-in_err-range : goal.returns-in_err-range
unfolding scale
returns-in_err-range c = search rules

pub returns : goal.returns
unfolding scale
returns c = search rules
