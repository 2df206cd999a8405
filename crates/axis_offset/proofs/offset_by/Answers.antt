use Rattle.std.proofs.Common.{rules}
use Rattle.axis_offset.proofs.{OffsetLaws.offsets}
use Rattle.axis_offset.proofs.offset_by.Goals as goal

pub overflow_cast-result : goal.overflow_cast-result
overflow_cast-result c = search (rules, offsets)

pub overflow_sub-result : goal.overflow_sub-result
overflow_sub-result c = search (rules, offsets)

pub returns-then-relative : goal.returns-then-relative
returns-then-relative c = search (rules, offsets)

pub overflow_cast-result-2 : goal.overflow_cast-result-2
overflow_cast-result-2 c = search (rules, offsets)

pub overflow_sub-result-2 : goal.overflow_sub-result-2
overflow_sub-result-2 c = search (rules, offsets)

pub returns : goal.returns
returns c = search (rules, offsets)
