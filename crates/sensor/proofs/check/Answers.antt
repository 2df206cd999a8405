use Rattle.std.proofs.Common.{rules}
use Rattle.sensor.specs.{step_refusal}
use Rattle.sensor.proofs.check.Goals as goal

pub returns-in_err-check : goal.returns-in_err-check
unfolding step_refusal
returns-in_err-check c = search rules

pub returns-in_err-refuse : goal.returns-in_err-refuse
unfolding step_refusal
returns-in_err-refuse c = search rules

pub returns : goal.returns
unfolding step_refusal
returns c = search rules
