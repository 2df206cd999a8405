-- The answer of `position`. An axis within its limits always has a position.
use Rattle.std.specs.Prelude.{◌≡◌, Result, Ok, Err}
use Rattle.std.proofs.Common.{◌∙◌}
use Rattle.std.specs.Int.{w64}
use mir.Val.{to_z, of_z}
use Rattle.integer.proofs.{reads}
use Rattle.encoder.specs.{InForce, Refusal}
use Rattle.axis_shaft.specs.{Reported, reported_at}
use Rattle.axis_shaft.proofs.{reported-is as at-is}
use Rattle.axis.specs.{Axis, Ready, unshifted_of, position_of, positions_of, reported}
use Rattle.axis.proofs.AxisLaws.{Limits, limits_of, limits-none, ready_of, outside_alone, stands-none, offset-fits}

-- ---- the shaft gives the answer; its limits are among those of the axis
pub ready-reported : (a : Axis) (f : InForce) (v : Result Reported Refusal) → Ready a f → v ≡ reported_at f (to_z w64 (of_z w64 a.offset)) a.shaft
    → v ≡ reported a
unfolding reported position_of unshifted_of
ready-reported a f v r v-is = v-is ∙ rw (reads (offset-fits a f r), at-is f a.shaft r.shaft a.offset, stands-none a f r, r.is)

-- on an axis within its limits it is a position
pub reported-is : (a : Axis) → Limits a → reported a ≡ Ok (positions_of a)
unfolding reported
reported-is a l = rw (limits-none a l)

module _ (a : Axis) (f : InForce) (r : Ready a f) where
  pub position-is : (v : Reported) → Ok v ≡ reported a → v ≡ positions_of a
  position-is v h = let s : Ok v ≡ Ok (positions_of a) = h ∙ reported-is a (limits_of a r.stands) in cc

  pub position-always : (n : Refusal) → Err n ≡ reported a → ⊥
  position-always n h = let s : Err n ≡ Ok (positions_of a) = h ∙ reported-is a (limits_of a r.stands) in cc

pub ruleset positions = (ready_of, ready-reported, outside_alone)
