use Rattle.std.proofs.Common.{arith, refl, rules}
use Rattle.encoder.proofs.{refused-by, unrefused}
use Rattle.axis_velocity.proofs.SpeedLaws.{at-sound, at_small, moved-at-14, moved-at-16, moved-at-no, moved-at-to}
use Rattle.axis_velocity.proofs.moved_at.Goals as goal

pub returns-in_err-refuse : goal.returns-in_err-refuse
returns-in_err-refuse c = moved-at-16 _ _ _ _ _ _ c.inside.ensures _ (refused-by _ _ _ c.in_err-refuse.ensures) (search rules)

pub returns-then-elapsed-eq0 : goal.returns-then-elapsed-eq0
returns-then-elapsed-eq0 c = moved-at-14 _ _ _ _ _ _ c.inside.ensures c.if-elapsed-eq0.true (unrefused _ _ _ c.in_ok-refuse.ensures) refl

pub returns-in_err-moved : goal.returns-in_err-moved
returns-in_err-moved c = moved-at-no _ _ _ _ _ c.if-elapsed-eq0.false _ c.in_err-moved.ensures (search rules)

pub rate-requires : goal.rate-requires
rate-requires c =
    let m = c.in_ok-moved.ensures in
    (at-sound _ _ _ _ m, omega (arith, at_small _ _ _ _ m), omega (arith, c.if-elapsed-eq0.false))

pub returns : goal.returns
returns c = moved-at-to _ _ _ _ _ c.if-elapsed-eq0.false _ _ c.in_ok-moved.ensures c.rate.ensures refl
