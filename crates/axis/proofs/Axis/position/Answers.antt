use Rattle.std.proofs.Common.{rules}
use Rattle.axis.specs.{reported}
use Rattle.axis.proofs.{AxisLaws.outside_alone, AxisLaws.ready_of, PositionLaws.ready-reported}
use Rattle.axis.proofs.Axis.position.Goals as goal

pub returns-in_err-rules : goal.returns-in_err-rules
unfolding reported
returns-in_err-rules c = outside_alone _ _ _ _ _ c.in_err-rules.ensures (search rules)

pub returns : goal.returns
returns c = ready-reported _ _ _ (ready_of _ _ c.in_ok-rules.ensures) c.reported.ensures
