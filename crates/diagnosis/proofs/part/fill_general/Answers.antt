use Rattle.std.proofs.Common.{rules}
use Rattle.diagnosis.proofs.{PartLaws.parts}
use Rattle.diagnosis.proofs.part.fill_general.Goals as goal

pub overflow_cast-steps : goal.overflow_cast-steps
overflow_cast-steps c = search (rules, parts)

pub returns : goal.returns
returns c = search (rules, parts)
