use Rattle.std.proofs.Common.{rules}
use Rattle.axis_shaft.proofs.{RunningLaws.tells}
use Rattle.axis_shaft.proofs.running.Running.shaft.Goals as goal

pub returns : goal.returns
returns c = search (rules, tells)
