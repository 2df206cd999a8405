-- Four numbers of four octets fill the part.
use Rattle.std.proofs.Common.{rules}
use Rattle.integer.proofs.{four-numbers}
use Rattle.diagnosis.proofs.part.put_four.Goals as goal

pub returns : goal.returns
returns c = search (rules, four-numbers 4 4 4 4)
