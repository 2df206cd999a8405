use Rattle.std.proofs.Common.{rules}
use Rattle.diagnosis.proofs.{PartLaws.parts}
use Rattle.diagnosis.proofs.part.fill_identity.Goals as goal

pub returns : goal.returns
returns c = search (rules, parts)
