use Rattle.std.proofs.Common.{rules}
use Rattle.diagnosis.proofs.{DiagnosisLaws.all-filled}
use Rattle.diagnosis.proofs.fill_all.Goals as goal

pub returns : goal.returns
returns c = search (rules, all-filled)
