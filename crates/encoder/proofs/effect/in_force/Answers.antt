use Rattle.std.proofs.Common.{rules}
use Rattle.encoder.specs.{in_force, rules_of}
use Rattle.encoder.proofs.{ForceLaws.force}
use Rattle.encoder.proofs.effect.in_force.Goals as goal

pub returns-in_err-check : goal.returns-in_err-check
unfolding in_force
returns-in_err-check c = search (rules)

pub capacity-capacity-requires : goal.capacity-capacity-requires
capacity-capacity-requires c = search (rules, force)

pub overflow_cast-steps : goal.overflow_cast-steps
overflow_cast-steps c = search (rules, force)

pub returns : goal.returns
unfolding in_force rules_of
returns c = search (rules, force)
