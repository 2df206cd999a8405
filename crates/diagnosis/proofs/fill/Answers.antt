-- All parts, or the first alone.
use Rattle.std.proofs.Common.{rules}
use Rattle.diagnosis.specs.{report}
use Rattle.diagnosis.proofs.fill.Goals as goal

pub returns-else-rules : goal.returns-else-rules
unfolding report
returns-else-rules c = search rules
