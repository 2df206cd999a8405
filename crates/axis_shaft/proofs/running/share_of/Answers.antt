use Rattle.std.proofs.Common.{rules}
use Rattle.axis_shaft.proofs.{ShareLaws.shares}
use Rattle.axis_shaft.proofs.running.share_of.Goals as goal

pub overflow_cast-ahead : goal.overflow_cast-ahead
overflow_cast-ahead c = search (rules, shares)

pub overflow_add-ahead : goal.overflow_add-ahead
overflow_add-ahead c = search (rules, shares)

pub overflow_cast-ahead-2 : goal.overflow_cast-ahead-2
overflow_cast-ahead-2 c = search (rules, shares)

pub overflow_mul-parts : goal.overflow_mul-parts
overflow_mul-parts c = search (rules, shares)

pub overflow_cast-result : goal.overflow_cast-result
overflow_cast-result c = search (rules, shares)

pub overflow_cast-result-2 : goal.overflow_cast-result-2
overflow_cast-result-2 c = search (rules, shares)

pub overflow_sub-result : goal.overflow_sub-result
overflow_sub-result c = search (rules, shares)

pub returns : goal.returns
returns c = search (rules, shares)
