use Rattle.std.proofs.Common.{rules}
use Rattle.axis_shaft.proofs.{RunningLaws.moves}
use Rattle.axis_shaft.proofs.running.Running.moved.Goals as goal

pub share_of-by-requires : goal.share_of-by-requires
share_of-by-requires c = search (rules, moves)

pub carried-requires : goal.carried-requires
carried-requires c = search (rules, moves)

pub onward-next-requires : goal.onward-next-requires
onward-next-requires c = search (rules, moves)

pub returns : goal.returns
returns c = search (rules, moves)
