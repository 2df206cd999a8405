use Rattle.std.proofs.Common.{rules}
use Rattle.cyclic_link.proofs.{Class4Laws.zsw-is}
use Rattle.cyclic_link.proofs.class4.zsw.Goals as goal

pub returns : goal.returns
returns c = search (rules, zsw-is)
