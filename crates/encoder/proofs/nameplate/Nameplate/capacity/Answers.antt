-- A nameplate within its limits has at most 2 ^ 31 steps.
use Rattle.std.proofs.Common.{rules}
use Rattle.encoder.proofs.{PlateLaws.capacity-fits, PlateLaws.capacity-most}
use Rattle.encoder.proofs.nameplate.Nameplate.capacity.Goals as goal

pub overflow_mul-result : goal.overflow_mul-result
overflow_mul-result c = search (rules, capacity-fits, capacity-most)

pub returns : goal.returns
returns c = search (rules, capacity-fits, capacity-most)
