use Rattle.std.proofs.Common.{rules}
use Rattle.encoder.proofs.{unrefused}
use Rattle.axis_shaft.proofs.ShaftLaws.{inside-by, reported-at, readings}
use Rattle.axis_shaft.proofs.Shaft.reported.Goals as goal

pub returns-in_err-refuse : goal.returns-in_err-refuse
returns-in_err-refuse c = search (rules, readings)

pub position-requires : goal.position-requires
position-requires c = inside-by _ _ _ c.inside.ensures (unrefused _ _ _ c.in_ok-refuse.ensures)

pub units-requires : goal.units-requires
units-requires c = inside-by _ _ _ c.inside.ensures (unrefused _ _ _ c.in_ok-refuse.ensures)

pub returns : goal.returns
returns c = reported-at _ _ _ c.inside.ensures _ _ _ c.ranges.offset c.position.ensures c.units.ensures.0 (unrefused _ _ _ c.in_ok-refuse.ensures)
