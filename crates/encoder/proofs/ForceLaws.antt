-- What is in force, with scaling on and off. Accepted parameters have a plate within its limits, as the callees require.
use Rattle.std.specs.Prelude.{◌≡◌, None, Some, Result, Ok, Err}
use Rattle.std.proofs.Common.{arith}
use Rattle.std.specs.Int.{w32}
use mir.Val.{Fits}
use Rattle.encoder.specs.{Nameplate, Parameters, InForce, Refusal, plate_refusal, fields_of, refusal_on, rules_of, in_force}
use Rattle.encoder.proofs.{RefusalLaws.exits, RefusalLaws.passed, RefusalLaws.failed, RefusalLaws.before-none, PlateLaws.plated}

module _ (n : Nameplate) (p : Parameters) where
  -- accepted parameters have an accepted plate
  module _ (none : refusal_on n p ≡ None) where
    pub force-plate : plate_refusal n ≡ None
    unfolding refusal_on
    force-plate = (before-none (plate_refusal n) _ none).0

    pub force-steps : Fits w32 n.steps.0
    force-steps = record { fits = omega (arith, plated n force-plate) }

  -- from the answer back to the refusal
  module _ (e : Result InForce Refusal) where
    pub in-force-taken : (f : InForce) → e ≡ Ok f → e ≡ in_force n p → (refusal_on n p ≡ None) × (f ≡ rules_of n (fields_of p))
    unfolding in_force
    in-force-taken f t e-is = passed (rules_of n (fields_of p)) (refusal_on n p) e f t e-is

    pub in-force-refused : (r : Refusal) → e ≡ Err r → e ≡ in_force n p → refusal_on n p ≡ Some r
    unfolding in_force
    in-force-refused r t e-is = failed (rules_of n (fields_of p)) (refusal_on n p) e r t e-is

pub ruleset asks = (force-plate, force-steps)

pub ruleset force = (exits, asks)
