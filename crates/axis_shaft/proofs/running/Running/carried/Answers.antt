use Rattle.std.proofs.Common.{rules}
use Rattle.axis_shaft.proofs.{ShareLaws.carries}
use Rattle.axis_shaft.proofs.running.Running.carried.Goals as goal

pub returns-then-rest-steps : goal.returns-then-rest-steps
returns-then-rest-steps c = search (rules, carries)

pub returns : goal.returns
returns c = search (rules, carries)
