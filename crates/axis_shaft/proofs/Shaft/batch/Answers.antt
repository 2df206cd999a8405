-- The refusal decides; the offset is passed on as the machine reads it back.
use Rattle.std.proofs.Common.{rules}
use Rattle.integer.proofs.{reads}
use Rattle.encoder.proofs.{exits, unrefused}
use Rattle.axis_shaft.specs.{batched, batched_list}
use Rattle.axis_shaft.proofs.BatchLaws.{batch-taken}
use Rattle.axis_shaft.proofs.Shaft.batch.Goals as goal

pub returns-in_err-check_batch : goal.returns-in_err-check_batch
unfolding batched batched_list
returns-in_err-check_batch c =
    let refused = rw (reads c.ranges.offset) at c.in_err-check_batch.ensures in
    search (rules, exits)

pub follow-requires : goal.follow-requires
follow-requires c = batch-taken _ _ _ _ _ (unrefused _ _ _ c.in_ok-check_batch.ensures)

pub returns : goal.returns
unfolding batched batched_list
returns c =
    let fits = c.ranges.offset in
    let none = rw (reads fits) at c.in_ok-check_batch.ensures in
    let p = rw (reads fits) at c.follow.ensures.1 in
    search (rules, exits)
