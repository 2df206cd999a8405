use Rattle.std.proofs.Common.{rules}
use Rattle.encoder.specs.{in_force}
use Rattle.encoder.proofs.{stepwise}
use Rattle.axis.specs.{start_raw_refusal}
use Rattle.axis.proofs.{ReadingLaws.first-raw-on}
use Rattle.axis.proofs.reading.first_raw.Goals as goal

pub returns-in_err-rules : goal.returns-in_err-rules
unfolding in_force start_raw_refusal
returns-in_err-rules c = search (rules, stepwise)

pub returns : goal.returns
returns c = first-raw-on _ _ _ c.in_ok-rules.ensures _ _ c.begin.ensures
