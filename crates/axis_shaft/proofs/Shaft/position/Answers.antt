use Rattle.std.proofs.Common.{rules}
use Rattle.axis_shaft.proofs.{PlaceLaws.places}
use Rattle.axis_shaft.proofs.Shaft.position.Goals as goal

pub overflow_cast-result : goal.overflow_cast-result
overflow_cast-result c = search (rules, places)

pub returns : goal.returns
returns c = search (rules, places)
