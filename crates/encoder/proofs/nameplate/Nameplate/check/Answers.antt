use Rattle.std.proofs.Common.{rules}
use Rattle.encoder.specs.{plate_refusal}
use Rattle.encoder.proofs.nameplate.Nameplate.check.Goals as goal

pub returns : goal.returns
unfolding plate_refusal
returns c = search (rules)
