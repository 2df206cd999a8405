use Rattle.std.proofs.Common.{rules}
use Rattle.axis_shaft.proofs.{ShareLaws.leads}
use Rattle.axis_shaft.proofs.running.lead_of.Goals as goal

pub returns : goal.returns
returns c = search (rules, leads)
