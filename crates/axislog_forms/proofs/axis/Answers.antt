use Rattle.axislog_forms.specs.{axis}
use Rattle.axislog_forms.proofs.axis.Goals as goal

pub returns-in_err-steps : goal.returns-in_err-steps
unfolding axis
returns-in_err-steps c = rw (c.from_residual.ensures, ← c.labelled.ensures, c.in_err-steps.was)

pub returns-in_err-turns : goal.returns-in_err-turns
unfolding axis
returns-in_err-turns c = rw (c.from_residual-in_err-turns.ensures, ← c.labelled.ensures, c.in_ok-steps.was, ← c.labelled-2.ensures, c.in_err-turns.was)

pub returns : goal.returns
unfolding axis
returns c = rw (c.sequence.ensures, ← c.labelled.ensures, c.in_ok-steps.was, ← c.labelled-2.ensures, c.in_ok-turns.was)
