-- Four numbers, of two, two, four and four octets, fill the input.
use Rattle.std.proofs.Common.{rules}
use Rattle.integer.proofs.{four-numbers}
use Rattle.cyclic.proofs.class4.put.Goals as goal

pub returns : goal.returns
returns c = search (rules, four-numbers 2 2 4 4)
