use Rattle.std.proofs.Common.{rules}
use Rattle.ring.proofs.{RingLaws.rings}
use Rattle.ring.proofs.complement.Goals as goal

pub overflow_cast-result : goal.overflow_cast-result
overflow_cast-result c = search (rules, rings)

pub returns : goal.returns
returns c = search (rules, rings)
