use Rattle.std.proofs.Common.{rules}
use Rattle.axislog_forms.specs.{sequence}
use Rattle.axislog_forms.proofs.sequence.Goals as goal

pub returns-in_err-word : goal.returns-in_err-word
unfolding sequence
returns-in_err-word c = search rules

pub returns-in-Some : goal.returns-in-Some
unfolding sequence
returns-in-Some c = search rules

pub returns-in_err-next : goal.returns-in_err-next
unfolding sequence
returns-in_err-next c = search rules

pub returns : goal.returns
unfolding sequence
returns c = search rules
