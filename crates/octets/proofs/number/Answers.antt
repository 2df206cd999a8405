-- The fold keeps the number of the octets that it has passed.
use Rattle.std.specs.Prelude.{◌≡◌, ◌+◌, ◌*◌, ◌%◌, fold}
use Rattle.std.proofs.Common.{rules, ◌∙◌}
use Rattle.octets.proofs.OctetLaws.{number-fold}
use Rattle.octets.proofs.number.Goals as goal

pub returns : goal.returns
returns c =
    let folded : c.fold.result ≡ fold (λ n o. n % 16777216 * 256 + o) 0 c.args.part.now = search rules in
    folded ∙ number-fold c.args.part.now c.type_inv.part
