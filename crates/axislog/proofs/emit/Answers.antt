-- The answers stand within their buffer.
use Rattle.axislog_core.proofs.{answers-cut, answers-in}
use Rattle.axislog.proofs.emit.Goals as goal

pub slice_bounds-write_all-end : goal.slice_bounds-write_all-end
slice_bounds-write_all-end g c = answers-in _ _ _ _ c.in-Ok.ensures.0 c.answer.auto.output

pub slice_bounds-write_all-end-in-Ok : goal.slice_bounds-write_all-end-in-Ok
slice_bounds-write_all-end-in-Ok g c = answers-cut _ _ _ _ c.in-Ok.ensures.0 c.answer.auto.output
