use Rattle.std.proofs.Common.{rules}
use Rattle.axis_shaft.proofs.{SensorLaws.ways}
use Rattle.axis_shaft.proofs.raw.move_to.Goals as goal

pub returns : goal.returns
returns c = search (rules, ways)
