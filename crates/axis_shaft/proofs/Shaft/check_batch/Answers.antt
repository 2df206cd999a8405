use Rattle.std.proofs.Common.{rules}
use Rattle.encoder.proofs.{unrefused}
use Rattle.axis_shaft.proofs.BatchLaws.{tested, numbers}
use Rattle.axis_shaft.proofs.Shaft.check_batch.Goals as goal

pub returns-in_err-refuse : goal.returns-in_err-refuse
returns-in_err-refuse c = search (rules, numbers)

pub returns-in_err-refuse-2 : goal.returns-in_err-refuse-2
returns-in_err-refuse-2 c = search (rules, numbers)

pub check_moves-requires : goal.check_moves-requires
check_moves-requires c = let i = tested _ _ _ _ c.inside.ensures (unrefused _ _ _ c.in_ok-refuse.ensures) in (i.sound, i.last)

pub returns : goal.returns
returns c = search (rules, numbers)
