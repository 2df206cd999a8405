use Rattle.std.proofs.Common.{rules}
use Rattle.encoder.specs.{in_force}
use Rattle.encoder.proofs.{stepwise}
use Rattle.axis.specs.{start_refusal}
use Rattle.axis.proofs.ReadingLaws.{first-no-number, first-on}
use Rattle.axis.proofs.reading.first.Goals as goal

pub returns-in_err-rules : goal.returns-in_err-rules
unfolding in_force start_refusal
returns-in_err-rules c = search (rules, stepwise)

pub returns-in_err-raw : goal.returns-in_err-raw
returns-in_err-raw c = first-no-number _ _ _ c.in_ok-rules.ensures _ _ _ _ _ c.in_err-raw.ensures (search rules)

pub returns : goal.returns
returns c = first-on _ _ _ c.in_ok-rules.ensures _ _ _ _ c.in_ok-raw.ensures c.begin.ensures
