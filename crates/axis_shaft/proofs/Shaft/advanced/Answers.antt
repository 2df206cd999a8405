use Rattle.std.proofs.Common.{rules}
use Rattle.axis_shaft.proofs.{PlaceLaws.places}
use Rattle.axis_shaft.proofs.Shaft.advanced.Goals as goal

pub returns : goal.returns
returns c = search (rules, places)
