use Rattle.std.proofs.Common.{rules}
use Rattle.encoder.specs.{refusal_on}
use Rattle.encoder.proofs.parameters.Parameters.check.Goals as goal

pub returns-in_err-check : goal.returns-in_err-check
unfolding refusal_on
returns-in_err-check c = search (rules)

pub returns : goal.returns
unfolding refusal_on
returns c = search (rules)
