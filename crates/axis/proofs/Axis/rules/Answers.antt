use Rattle.std.proofs.Common.{rules}
use Rattle.encoder.proofs.{refused-by}
use Rattle.axis.proofs.AxisLaws.{rules-out, rulings}
use Rattle.axis.proofs.Axis.rules.Goals as goal

pub returns : goal.returns
returns c = search (rules, rulings)

pub returns-in_default : goal.returns-in_default
returns-in_default c = search (rules, rulings)

pub returns-in_err-refuse : goal.returns-in_err-refuse
returns-in_err-refuse c =
    rules-out _ _ _ _ _ _ _ _ c.inside.ensures c.between-offset.ensures (search rules) c.between-preset.ensures (search rules) c.between-stored.ensures
    (search rules) c.in-Ok.is c.in_force.ensures _ (refused-by _ _ _ c.in_err-refuse.ensures) (search rules)
