use Rattle.axis.proofs.{next-is}
use Rattle.axis_batch.specs.{batch}
use Rattle.axis_batch.proofs.batch.Goals as goal

pub returns : goal.returns
unfolding batch
returns c = (next-is _ _ _ _ _ c.after.ensures.0 c.of.ensures, c.after.ensures.1)
