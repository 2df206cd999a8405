use Rattle.std.proofs.Common.{◌∙◌}
use Rattle.cyclic.specs.{length_refusal}
use Rattle.cyclic.proofs.check_lengths.Goals as goal

pub returns : goal.returns
unfolding length_refusal
returns c = c.refuse.ensures ∙ rw c.input_octets.ensures
