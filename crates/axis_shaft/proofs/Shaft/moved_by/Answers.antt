use Rattle.std.proofs.Common.{rules}
use Rattle.encoder.proofs.{exits}
use Rattle.axis_shaft.specs.{approached, moved_by}
use Rattle.axis_shaft.proofs.ShaftLaws.{moved-by-to, moves}
use Rattle.axis_shaft.proofs.Shaft.moved_by.Goals as goal

pub returns-in_err-d : goal.returns-in_err-d
unfolding approached moved_by
returns-in_err-d c = search (rules, exits)

pub advanced-shaft-requires : goal.advanced-shaft-requires
advanced-shaft-requires c = search (rules, moves)

pub returns : goal.returns
returns c = moved-by-to _ _ _ _ c.in_ok-d.ensures _ c.advanced-shaft.ensures
