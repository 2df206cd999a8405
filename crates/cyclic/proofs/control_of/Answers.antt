use Rattle.std.proofs.Common.{rules}
use Rattle.cyclic.proofs.{CycleLaws.control-two}
use Rattle.cyclic.proofs.control_of.Goals as goal

pub returns : goal.returns
returns c = search (rules, control-two)
