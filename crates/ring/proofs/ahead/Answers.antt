use Rattle.std.proofs.Common.{rules}
use Rattle.ring.proofs.{RingLaws.rings}
use Rattle.ring.proofs.ahead.Goals as goal

pub returns-then-by-room : goal.returns-then-by-room
returns-then-by-room c = search (rules, rings)

pub returns-else-by-room : goal.returns-else-by-room
returns-else-by-room c = search (rules, rings)
