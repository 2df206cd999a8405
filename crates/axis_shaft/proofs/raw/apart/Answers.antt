use Rattle.std.proofs.Common.{rules}
use Rattle.axis_shaft.proofs.{SensorLaws.orients}
use Rattle.axis_shaft.proofs.raw.apart.Goals as goal

pub returns-then-from-to : goal.returns-then-from-to
returns-then-from-to c = search (rules, orients)

pub returns : goal.returns
returns c = search (rules, orients)
