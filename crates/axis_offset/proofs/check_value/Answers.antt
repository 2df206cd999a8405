use Rattle.std.proofs.Common.{rules}
use Rattle.axis_offset.specs.{value_refusal}
use Rattle.axis_offset.proofs.check_value.Goals as goal

pub returns-in_err-refuse : goal.returns-in_err-refuse
unfolding value_refusal
returns-in_err-refuse c = search rules

pub returns : goal.returns
unfolding value_refusal
returns c = search rules
