use Rattle.std.proofs.Common.{rules}
use Rattle.axis_shaft.proofs.{RunningLaws.running-is, PlaceLaws.places}
use Rattle.axis_shaft.proofs.Shaft.running.Goals as goal

pub returns : goal.returns
returns c = search (rules, places, running-is)
