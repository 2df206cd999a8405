use Rattle.std.proofs.Common.{rules}
use Rattle.axis_shaft.proofs.{BatchLaws.looks}
use Rattle.axis_shaft.proofs.raw.doubtful.Goals as goal

pub loop-raw-preserved : goal.loop-raw-preserved
loop-raw-preserved c = search (rules, looks)

pub returns : goal.returns
returns c = search (rules, looks)
