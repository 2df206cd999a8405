use Rattle.std.proofs.Common.{refl, rules}
use Rattle.encoder.proofs.{refused-by, unrefused}
use Rattle.axis.proofs.{outside-answer, ready_of}
use Rattle.axis_velocity.specs.{velocity_at, velocity_refusal}
use Rattle.axis_velocity.proofs.SpeedLaws.{elapsed-least, move-small, velocity-14, velocity-at, velocity-move, velocity-reading}
use Rattle.axis_velocity.proofs.velocity.Goals as goal

pub returns-in_err-rules : goal.returns-in_err-rules
unfolding velocity_at velocity_refusal
returns-in_err-rules c = outside-answer _ _ _ _ _ c.in_err-rules.ensures (search rules) _

pub returns-in_err-refuse : goal.returns-in_err-refuse
returns-in_err-refuse c = velocity-14 _ _ (ready_of _ _ c.in_ok-rules.ensures) _ _ _ _ _ (refused-by _ _ _ c.in_err-refuse.ensures) (search rules)

pub returns-in_err-raw : goal.returns-in_err-raw
returns-in_err-raw c =
    velocity-reading _ _ (ready_of _ _ c.in_ok-rules.ensures) _ _ _ _ (unrefused _ _ _ c.in_ok-refuse.ensures) _ c.in_err-raw.ensures (search rules)

pub returns-in_err-d : goal.returns-in_err-d
returns-in_err-d c =
    velocity-move _ _ (ready_of _ _ c.in_ok-rules.ensures) _ _ _ _ (unrefused _ _ _ c.in_ok-refuse.ensures) _ c.in_ok-raw.ensures _ c.in_err-d.ensures
    (search rules)

pub rate-requires : goal.rate-requires
rate-requires c =
    let r = ready_of _ _ c.in_ok-rules.ensures in
    (r.shaft.sound, move-small _ _ r _ _ c.in_ok-d.ensures, elapsed-least _ (unrefused _ _ _ c.in_ok-refuse.ensures))

pub returns : goal.returns
returns c =
    velocity-at _ _ (ready_of _ _ c.in_ok-rules.ensures) _ _ _ _ (unrefused _ _ _ c.in_ok-refuse.ensures) _ c.in_ok-raw.ensures _ _ c.in_ok-d.ensures
    c.rate.ensures refl
