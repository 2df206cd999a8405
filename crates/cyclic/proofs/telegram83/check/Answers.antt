use Rattle.std.proofs.Common.{rules}
use Rattle.cyclic.specs.{refusal83}
use Rattle.cyclic.proofs.telegram83.check.Goals as goal

pub returns-in_err-refuse : goal.returns-in_err-refuse
unfolding refusal83
returns-in_err-refuse c = search rules

pub returns : goal.returns
unfolding refusal83
returns c = search rules
