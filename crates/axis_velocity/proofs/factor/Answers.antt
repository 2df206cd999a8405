use Rattle.std.proofs.Common.{rules}
use Rattle.axis_velocity.proofs.{VelocityLaws.factors}
use Rattle.axis_velocity.proofs.factor.Goals as goal

pub returns-in-0 : goal.returns-in-0
returns-in-0 c = search (rules, factors)

pub returns-in-1 : goal.returns-in-1
returns-in-1 c = search (rules, factors)

pub returns-in-2 : goal.returns-in-2
returns-in-2 c = search (rules, factors)

pub returns-in_default : goal.returns-in_default
returns-in_default c = search (rules, factors)
