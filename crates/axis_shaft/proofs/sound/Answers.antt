-- The tests are those of the definition.
use Rattle.std.specs.Prelude.{refl}
use Rattle.encoder.specs.{rules_fit}
use Rattle.axis_shaft.proofs.sound.Goals as goal

pub returns : goal.returns
unfolding rules_fit
returns c = refl
