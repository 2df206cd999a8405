use Rattle.std.proofs.Common.{rules}
use Rattle.axis_shaft.proofs.{SensorLaws.ways}
use Rattle.axis_shaft.proofs.raw.shorter.Goals as goal

pub returns-then-n-capacity : goal.returns-then-n-capacity
returns-then-n-capacity c = search (rules, ways)

pub returns : goal.returns
returns c = search (rules, ways)
