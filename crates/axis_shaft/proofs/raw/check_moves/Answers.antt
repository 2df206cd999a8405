use Rattle.std.proofs.Common.{rules}
use Rattle.axis_shaft.proofs.{BatchLaws.among}
use Rattle.axis_shaft.proofs.raw.check_moves.Goals as goal

pub returns : goal.returns
returns c = search (rules, among)
