use Rattle.std.proofs.Common.{rules}
use Rattle.cyclic.proofs.{Class4Laws.words4}
use Rattle.cyclic.proofs.class4.fill.Goals as goal

pub returns-then-link : goal.returns-then-link
returns-then-link c = search (rules, words4)

pub returns-else-link : goal.returns-else-link
returns-else-link c = search (rules, words4)
