use Rattle.std.proofs.Common.{rules}
use Rattle.axis_shaft.proofs.{SensorLaws.orients}
use Rattle.axis_shaft.proofs.raw.difference.Goals as goal

pub returns-then-rules : goal.returns-then-rules
returns-then-rules c = search (rules, orients)

pub returns : goal.returns
returns c = search (rules, orients)
