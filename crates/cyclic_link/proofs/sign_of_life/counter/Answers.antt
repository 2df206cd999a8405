use Rattle.std.proofs.Common.{rules}
use Rattle.cyclic_link.proofs.{SignOfLifeLaws.counts}
use Rattle.cyclic_link.proofs.sign_of_life.counter.Goals as goal

pub returns-then-link-eq0 : goal.returns-then-link-eq0
returns-then-link-eq0 c = search (rules, counts)

pub returns-then-sign-link : goal.returns-then-sign-link
returns-then-sign-link c = search (rules, counts)

pub returns-then-failures-eq0 : goal.returns-then-failures-eq0
returns-then-failures-eq0 c = search (rules, counts)

pub returns-else-failures-eq0 : goal.returns-else-failures-eq0
returns-else-failures-eq0 c = search (rules, counts)
