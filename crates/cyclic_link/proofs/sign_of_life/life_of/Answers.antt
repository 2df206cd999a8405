use Rattle.std.proofs.Common.{rules}
use Rattle.cyclic_link.specs.{life_of}
use Rattle.cyclic_link.proofs.sign_of_life.life_of.Goals as goal

pub returns : goal.returns
unfolding life_of
returns c = search rules
