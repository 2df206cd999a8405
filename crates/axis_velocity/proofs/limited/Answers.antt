use Rattle.axis_velocity.proofs.VelocityLaws.{limited-cast, limited-is}
use Rattle.axis_velocity.proofs.limited.Goals as goal

pub overflow_cast-result : goal.overflow_cast-result
overflow_cast-result c = limited-cast _ _ c.ranges.q c.clamp.ensures.value

pub returns : goal.returns
returns c = limited-is _ _ c.ranges.q c.clamp.ensures.value
