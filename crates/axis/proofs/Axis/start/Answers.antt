use Rattle.axis.specs.{start}
use Rattle.axis.proofs.{ReadingLaws.begun-is}
use Rattle.axis.proofs.Axis.start.Goals as goal

pub returns : goal.returns
unfolding start
returns c = begun-is _ _ _ _ _ _ c.first.ensures c.begun.ensures
