-- The first refusal of the readings to come is the first refusal of all.
use Rattle.std.proofs.Common.{rules}
use Rattle.encoder.proofs.{exits, refused-by, unrefused}
use Rattle.axis_shaft.proofs.{BatchLaws.check-end, BatchLaws.check-more, BatchLaws.check-stop, SensorLaws.raw-lt}
use Rattle.axis_shaft.proofs.raw.check_each.Goals as goal

pub returns-in_err-check_move : goal.returns-in_err-check_move
returns-in_err-check_move c =
    let refused = check-stop _ _ _ _ _ c.loop-raw.invariant.2 c.loop-raw-test.true _ (refused-by _ _ _ c.in_err-check_move.ensures) in
    search (rules, exits)

pub loop-raw-preserved : goal.loop-raw-preserved
loop-raw-preserved c =
    let none = unrefused _ _ _ c.in_ok-check_move.ensures in
    (c.loop-raw.invariant.0, raw-lt _ _ _ none, check-more _ _ _ _ _ c.loop-raw.invariant.2 c.loop-raw-test.true none)

pub returns : goal.returns
returns c = search (rules, exits, check-end)
