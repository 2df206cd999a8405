-- The value is passed on as the machine reads it back.
use Rattle.integer.proofs.{reads}
use Rattle.axis.specs.{preset}
use Rattle.axis.proofs.{ReadingLaws.next-is}
use Rattle.axis.proofs.Axis.preset.Goals as goal

pub returns : goal.returns
unfolding preset
returns c = next-is _ _ _ _ _ (rw (reads c.ranges.value) at c.presetted.ensures) c.of.ensures
