use Rattle.std.proofs.Common.{rules}
use Rattle.axis_shaft.proofs.{RunningLaws.onwards}
use Rattle.axis_shaft.proofs.running.Running.onward.Goals as goal

pub returns-then-to-span : goal.returns-then-to-span
returns-then-to-span c = search (rules, onwards)

pub overflow_cast-ahead : goal.overflow_cast-ahead
overflow_cast-ahead c = search (rules, onwards)

pub overflow_add-ahead : goal.overflow_add-ahead
overflow_add-ahead c = search (rules, onwards)

pub overflow_cast-ahead-2 : goal.overflow_cast-ahead-2
overflow_cast-ahead-2 c = search (rules, onwards)

pub returns : goal.returns
returns c = search (rules, onwards)
