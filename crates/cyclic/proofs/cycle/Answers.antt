use Rattle.cyclic.specs.{cycle}
use Rattle.cyclic.proofs.{CycleLaws.cycled-is}
use Rattle.cyclic.proofs.cycle.Goals as goal

pub returns : goal.returns
unfolding cycle
returns c = (cycled-is _ _ _ _ _ _ _ c.run.ensures.0 c.of.ensures, c.run.ensures.1)
