use Rattle.std.proofs.Common.{rules}
use Rattle.encoder.specs.{fields_refusal}
use Rattle.encoder.proofs.{PlateLaws.fits-product}
use Rattle.encoder.proofs.parameters.Fields.check.Goals as goal

pub returns-in_err-refuse : goal.returns-in_err-refuse
unfolding fields_refusal
returns-in_err-refuse c = search (rules)

pub returns-in_err-refuse-2 : goal.returns-in_err-refuse-2
unfolding fields_refusal
returns-in_err-refuse-2 c = search (rules)

pub returns-in_err-refuse-3 : goal.returns-in_err-refuse-3
unfolding fields_refusal
returns-in_err-refuse-3 c = search (rules)

pub returns-in_err-refuse-4 : goal.returns-in_err-refuse-4
unfolding fields_refusal
returns-in_err-refuse-4 c = search (rules)

pub returns : goal.returns
unfolding fields_refusal
returns c = search (rules, fits-product)
