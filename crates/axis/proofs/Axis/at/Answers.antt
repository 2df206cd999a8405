use Rattle.std.proofs.Common.{rules}
use Rattle.axis.specs.{read_refusal}
use Rattle.axis.proofs.{AxisLaws.outside-answer, AxisLaws.ready_of, ReadingLaws.read-no, ReadingLaws.read-on}
use Rattle.axis.proofs.Axis.at.Goals as goal

pub returns-in_err-rules : goal.returns-in_err-rules
unfolding read_refusal
returns-in_err-rules c = outside-answer _ _ _ _ _ c.in_err-rules.ensures (search rules) _

pub returns-in_err-raw : goal.returns-in_err-raw
returns-in_err-raw c = read-no _ _ _ _ _ _ _ c.in_ok-rules.ensures c.in_err-raw.ensures (search rules)

pub moved-requires : goal.moved-requires
moved-requires c = ready_of _ _ c.in_ok-rules.ensures

pub returns : goal.returns
returns c = read-on _ _ _ _ _ _ c.in_ok-rules.ensures c.moved.ensures c.in_ok-raw.ensures
