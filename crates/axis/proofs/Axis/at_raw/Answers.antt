use Rattle.std.proofs.Common.{rules}
use Rattle.axis.specs.{read_raw_refusal}
use Rattle.axis.proofs.{AxisLaws.outside-answer, AxisLaws.ready_of, ReadingLaws.raw-on}
use Rattle.axis.proofs.Axis.at_raw.Goals as goal

pub returns-in_err-rules : goal.returns-in_err-rules
unfolding read_raw_refusal
returns-in_err-rules c = outside-answer _ _ _ _ _ c.in_err-rules.ensures (search rules) _

pub moved-requires : goal.moved-requires
moved-requires c = ready_of _ _ c.in_ok-rules.ensures

pub returns : goal.returns
returns c = raw-on _ _ _ _ c.in_ok-rules.ensures c.moved.ensures
