use Rattle.std.proofs.Common.{rules}
use Rattle.encoder.proofs.{exits}
use Rattle.axis_shaft.specs.{moved, moved_by}
use Rattle.axis_shaft.proofs.{ShaftLaws.moved-shaft}
use Rattle.axis_shaft.proofs.Shaft.moved.Goals as goal

pub returns-in_err-moved : goal.returns-in_err-moved
unfolding moved moved_by
returns-in_err-moved c = search (rules, exits)

pub returns : goal.returns
returns c = moved-shaft _ _ _ _ c.in_ok-moved.ensures
