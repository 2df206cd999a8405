use Rattle.std.proofs.Common.{rules}
use Rattle.axis_shaft.proofs.{ShaftLaws.limits}
use Rattle.axis_shaft.proofs.Shaft.inside.Goals as goal

pub returns-then-not-sound : goal.returns-then-not-sound
returns-then-not-sound c = search (rules, limits)

pub period-requires : goal.period-requires
period-requires c = search (rules, limits)

pub returns : goal.returns
returns c = search (rules, limits)
