use Rattle.std.proofs.Common.{rules}
use Rattle.axislog_core.proofs.{LogLaws.logs}
use Rattle.axislog_core.proofs.put.Goals as goal

pub overflow_add-end : goal.overflow_add-end
overflow_add-end c = search (rules, logs)

pub slice_bounds-copy_from_slice-end : goal.slice_bounds-copy_from_slice-end
slice_bounds-copy_from_slice-end c = search (rules, logs)

pub shared_ref_as_front-copy_from_slice : goal.shared_ref_as_front-copy_from_slice
shared_ref_as_front-copy_from_slice c = search (rules, logs)

pub returns : goal.returns
returns c = search (rules, logs)
