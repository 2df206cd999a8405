use Rattle.axis.specs.{read_raw}
use Rattle.axis.proofs.{ReadingLaws.next-is}
use Rattle.axis.proofs.Axis.read_raw.Goals as goal

pub returns : goal.returns
unfolding read_raw
returns c = next-is _ _ _ _ _ c.at_raw.ensures c.of.ensures
