use Rattle.std.proofs.Common.{rules}
use Rattle.ring.proofs.{RingLaws.rings}
use Rattle.ring.proofs.between.Goals as goal

pub returns : goal.returns
returns c = search (rules, rings)
