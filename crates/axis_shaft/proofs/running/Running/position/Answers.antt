use Rattle.std.proofs.Common.{rules}
use Rattle.axis_shaft.proofs.{RunningLaws.positions}
use Rattle.axis_shaft.proofs.running.Running.position.Goals as goal

pub returns-then-at-rules : goal.returns-then-at-rules
returns-then-at-rules c = search (rules, positions)

pub overflow_cast-result-2 : goal.overflow_cast-result-2
overflow_cast-result-2 c = search (rules, positions)

pub returns : goal.returns
returns c = search (rules, positions)
