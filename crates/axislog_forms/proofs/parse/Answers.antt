use Rattle.std.proofs.Common.{rules}
use Rattle.axislog_forms.specs.{form}
use Rattle.axislog_forms.proofs.parse.Goals as goal

pub returns-in-Some : goal.returns-in-Some
unfolding form
returns-in-Some c = search rules

pub returns-in-Some-past : goal.returns-in-Some-past
unfolding form
returns-in-Some-past c = search rules

pub returns : goal.returns
unfolding form
returns c = search rules
