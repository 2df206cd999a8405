use Rattle.std.proofs.Common.{rules}
use Rattle.cyclic_link.specs.{within, link_refusal}
use Rattle.cyclic_link.proofs.Link.check.Goals as goal

pub returns : goal.returns
unfolding within link_refusal
returns c = search rules
