use Rattle.std.proofs.Common.{rules}
use Rattle.cyclic.proofs.{Class4Laws.words4}
use Rattle.cyclic.proofs.class4.control.Goals as goal

pub returns-then-bit : goal.returns-then-bit
returns-then-bit c = search (rules, words4)

pub returns : goal.returns
returns c = search (rules, words4)
