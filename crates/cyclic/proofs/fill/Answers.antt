use Rattle.std.proofs.Common.{rules}
use Rattle.cyclic.proofs.{CycleLaws.input-two}
use Rattle.cyclic.proofs.fill.Goals as goal

pub returns-else-fields : goal.returns-else-fields
returns-else-fields c = search (rules, input-two)
