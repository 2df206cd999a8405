use Rattle.std.proofs.Common.{rules}
use Rattle.ring.proofs.{RingLaws.rings}
use Rattle.ring.proofs.add.Goals as goal

pub returns-then-n-eq0 : goal.returns-then-n-eq0
returns-then-n-eq0 c = search (rules, rings)

pub returns : goal.returns
returns c = search (rules, rings)
