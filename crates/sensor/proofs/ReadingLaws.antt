-- An accepted reading has a raw number below C, which fits 32 bits.
use Rattle.std.specs.Prelude.{◌≡◌, ℕ, ◌+◌, ◌*◌, ◌≤◌, ◌<◌, ◌^◌, leb, None, Some, Result, Ok, Err}
use Rattle.std.proofs.Common.{arith, leb-false}
use Rattle.std.specs.Int.{w64, w32}
use mir.Val.{Fits}
use Rattle.encoder.specs.{Nameplate, Refusal, WrongStep, when, plate_refusal, capacity_of}
use Rattle.encoder.proofs.{before-none, failed, passed, when-not, capacity-most}
use Rattle.sensor.specs.{raw_of, step_refusal, numbered}
use native.Mathlib.Nat as N

module _ (n : Nameplate) (s t : ℕ) where
  within : step_refusal n s t ≡ None → (plate_refusal n ≡ None) × (s < n.steps.0) × (t < n.turns.0)
  unfolding step_refusal
  within e =
      let plate = before-none (plate_refusal n) _ e in
      let step = before-none (when (leb n.steps.0 s) WrongStep) _ plate.1 in
      (plate.0, leb-false _ _ (when-not _ _ step.0), leb-false _ _ (when-not (leb n.turns.0 t) _ step.1))

  -- a turn of the sensor and its steps are within C
  turn-most : t < n.turns.0 → t * n.steps.0 + n.steps.0 ≤ capacity_of n
  turn-most t-in =
      let h : (t + 1) * n.steps.0 ≤ n.turns.0 * n.steps.0 = N.mul-le-mul_right n.steps.0 (omega arith) in
      omega (arith, N.add-mul t 1 n.steps.0, N.mul_comm n.turns.0 n.steps.0)

  pub reading-lt : step_refusal n s t ≡ None → raw_of n s t < capacity_of n
  reading-lt e = let w = within e in omega (arith, turn-most w.2, w.1)

  -- and so they fit
  module _ (none : step_refusal n s t ≡ None) where
    pub step_in : s ≤ n.steps.0
    step_in = omega (arith, (within none).1)

    module _ (x : ℕ) (x-in : x ≤ n.steps.0) where
      most : t * n.steps.0 + x ≤ 2 ^ 31
      most = let w = within none in omega (arith, turn-most w.2, capacity-most n w.0)

      pub sum_fits : Fits w64 (t * n.steps.0 + x)
      sum_fits = record { fits = omega (arith, most) }

      pub sum-fits-32 : Fits w32 (t * n.steps.0 + x)
      sum-fits-32 = record { fits = omega (arith, most) }

    pub turns_fit : Fits w64 (t * n.steps.0)
    turns_fit = record { fits = omega (arith, most 0 (omega arith)) }

pub ruleset fitting = (N.le_refl, step_in, turns_fit, sum_fits, sum-fits-32)

-- ---- from the answer back to the refusal
module _ (n : Nameplate) (s t : ℕ) (q : Result ℕ Refusal) where
  pub reading-taken : (m : ℕ) → q ≡ Ok m → q ≡ numbered n s t → (step_refusal n s t ≡ None) × (m ≡ raw_of n s t)
  unfolding numbered
  reading-taken m h q-is = passed (raw_of n s t) (step_refusal n s t) q m h q-is

  pub reading-refused : (r : Refusal) → q ≡ Err r → q ≡ numbered n s t → step_refusal n s t ≡ Some r
  unfolding numbered
  reading-refused r h q-is = failed (raw_of n s t) (step_refusal n s t) q r h q-is
