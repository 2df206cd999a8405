use Rattle.std.proofs.Common.{rules}
use Rattle.axis_velocity.proofs.{VelocityLaws.rates}
use Rattle.axis_velocity.proofs.rate.Goals as goal

pub returns : goal.returns
returns c = search (rules, rates)
