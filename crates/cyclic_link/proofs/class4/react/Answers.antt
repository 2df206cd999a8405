use Rattle.std.proofs.Common.{rules}
use Rattle.cyclic_link.proofs.{Class4Laws.reaction-is}
use Rattle.cyclic_link.proofs.class4.react.Goals as goal

pub returns : goal.returns
returns c = search (rules, reaction-is)
