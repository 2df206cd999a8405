-- A clamped number lies between the limits. By cases on the two tests.
use Rattle.std.specs.Prelude.{◌≡◌, refl, Bool, true, false, ℤ, ◌≤ℤ◌}
use Rattle.std.specs.Int.Signed.{lt_z}
use Rattle.integer.specs.{clamp}
use Rattle.integer.proofs.Signed.{signed}

clamp-by : (low high z : ℤ) (b c : Bool) → low ≤ℤ high → lt_z z low ≡ b → lt_z high z ≡ c
    → (low ≤ℤ clamp low high z) × (clamp low high z ≤ℤ high)
unfolding clamp
clamp-by low high z true c h p q = rw p (omega signed, omega signed)
clamp-by low high z false true h p q = rw (p, q) (omega signed, omega signed)
clamp-by low high z false false h p q = rw (p, q) (omega signed, omega signed)

pub clamp-within : (low high z : ℤ) → low ≤ℤ high → (low ≤ℤ clamp low high z) × (clamp low high z ≤ℤ high)
clamp-within low high z h = clamp-by low high z (lt_z z low) (lt_z high z) h refl refl
