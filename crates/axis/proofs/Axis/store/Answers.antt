-- The value is passed on as the machine reads it back.
use Rattle.integer.proofs.{reads}
use Rattle.axis.specs.{store}
use Rattle.axis.proofs.{ReadingLaws.next-is}
use Rattle.axis.proofs.Axis.store.Goals as goal

pub returns : goal.returns
unfolding store
returns c = next-is _ _ _ _ _ (rw (reads c.ranges.value) at c.holding.ensures) c.of.ensures
