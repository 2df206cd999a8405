use Rattle.std.proofs.Common.{rules}
use Rattle.cyclic_link.proofs.{SignOfLifeLaws.counts}
use Rattle.cyclic_link.proofs.sign_of_life.expected.Goals as goal

pub returns-then-link-sign : goal.returns-then-link-sign
returns-then-link-sign c = search (rules, counts)

pub returns : goal.returns
returns c = search (rules, counts)
