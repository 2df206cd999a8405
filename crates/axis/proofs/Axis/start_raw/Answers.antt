use Rattle.axis.specs.{start_raw}
use Rattle.axis.proofs.{ReadingLaws.begun-is}
use Rattle.axis.proofs.Axis.start_raw.Goals as goal

pub returns : goal.returns
unfolding start_raw
returns c = begun-is _ _ _ _ _ _ c.first_raw.ensures c.begun.ensures
