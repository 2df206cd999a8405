use Rattle.std.proofs.Common.{rules}
use Rattle.axis_shaft.proofs.{ShaftLaws.readings}
use Rattle.axis_shaft.proofs.Shaft.approach.Goals as goal

pub returns-in_err-refuse : goal.returns-in_err-refuse
returns-in_err-refuse c = search (rules, readings)

pub approach-requires : goal.approach-requires
approach-requires c = search (rules, readings)

pub returns : goal.returns
returns c = search (rules, readings)
