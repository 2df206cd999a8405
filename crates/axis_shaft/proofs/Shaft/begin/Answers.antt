use Rattle.std.proofs.Common.{rules}
use Rattle.encoder.proofs.{unrefused}
use Rattle.axis_shaft.proofs.ShaftLaws.{begun_to, starts}
use Rattle.axis_shaft.proofs.Shaft.begin.Goals as goal

pub returns-in_err-refuse : goal.returns-in_err-refuse
returns-in_err-refuse c = search (rules, starts)

pub returns-in_err-refuse-2 : goal.returns-in_err-refuse-2
returns-in_err-refuse-2 c = search (rules, starts)

pub oriented-first-requires : goal.oriented-first-requires
oriented-first-requires c = search (rules, starts)

pub period-requires : goal.period-requires
period-requires c = search (rules, starts)

pub returns : goal.returns
returns c = begun_to _ _ c.sound.ensures _ (unrefused _ _ _ c.in_ok-refuse.ensures) _ _ c.oriented-first.ensures.0 c.period.ensures.0 (unrefused _ _ _ c.in_ok-refuse-2.ensures)
