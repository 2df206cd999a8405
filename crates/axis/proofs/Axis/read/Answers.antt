use Rattle.axis.specs.{read}
use Rattle.axis.proofs.{ReadingLaws.next-is}
use Rattle.axis.proofs.Axis.read.Goals as goal

pub returns : goal.returns
unfolding read
returns c = next-is _ _ _ _ _ c.at.ensures c.of.ensures
