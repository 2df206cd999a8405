use Rattle.std.proofs.Common.{rules}
use Rattle.cyclic_link.proofs.{Class2Laws.reaction-is}
use Rattle.cyclic_link.proofs.class2.react.Goals as goal

pub returns : goal.returns
returns c = search (rules, reaction-is)
