use Rattle.cyclic.specs.{cycle83}
use Rattle.cyclic.proofs.{CycleLaws.cycled-is}
use Rattle.cyclic.proofs.telegram83.cycle_83.Goals as goal

pub returns : goal.returns
unfolding cycle83
returns c = (cycled-is _ _ _ _ _ _ _ c.run.ensures.0 c.of.ensures, c.run.ensures.1)
