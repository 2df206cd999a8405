-- The size |z| of differences, products and quotients. A number of small enough size fits its type.
use Rattle.std.specs.Prelude.{◌≡◌, refl, ℕ, suc, ◌+◌, ◌*◌, ◌/◌, ◌<◌, ◌≤◌, ◌^◌, T, ℤ, pos, negsuc, neg_ℤ, nat_abs, ◌+ℤ◌, ◌-ℤ◌, ◌*ℤ◌}
use Rattle.std.proofs.Common.{◌∙◌, arith}
use Rattle.std.specs.Int.Signed.{non_neg, quot_z}
use Rattle.std.specs.Int.{Width, w64}
use mir.Val.{Fits, SFits, to_z, of_z}
use Rattle.std.proofs.lemmas.Int.{to_z-of_z, to_z_pos}
use Rattle.integer.proofs.Signed.{above, below, apart, neg_is, add_is, diff_is}
use mir.{Val.bits, Val.hbits}
use native.Mathlib.Nat as N

pub abs_is : (z : ℤ) → nat_abs z ≡ above z + below z
abs_is (pos n) = omega arith
abs_is (negsuc n) = omega arith

pub abs-add : (x y : ℤ) → nat_abs (x +ℤ y) ≤ nat_abs x + nat_abs y
abs-add x y = omega (arith, abs_is x, abs_is y, abs_is (x +ℤ y), add_is x y, apart (x +ℤ y))

pub abs_diff : (x y : ℤ) → nat_abs (x -ℤ y) ≤ nat_abs x + nat_abs y
abs_diff x y = omega (arith, abs_is x, abs_is y, abs_is (x -ℤ y), diff_is x y, apart (x -ℤ y))

-- ---- in machine words
pub reads : {w : Width} {z : ℤ} → SFits w z → to_z w (of_z w z) ≡ z
reads {w} {z} f = to_z-of_z w z f

pub fits-abs : {w : Width} (z : ℤ) → nat_abs z < 2 ^ hbits w → SFits w z
fits-abs (pos n) h = record { sfits = h }
fits-abs (negsuc n) h = record { sfits = N.lt_trans (N.le_refl (suc n)) h }

-- a number that is not below 0 as an unsigned one
pub to-nat : {w : Width} (z : ℤ) → (below z ≡ 0) × (nat_abs z < 2 ^ bits w) → T (non_neg z) × Fits w (nat_abs z)
to-nat (pos n) h = (tt, record { fits = h.1 })
to-nat (negsuc n) h = absurd (omega arith)

-- the difference of two small natural numbers fits, and reads back unchanged
module _ (a b : ℕ) (a-most : a ≤ 2 ^ 32) (b-most : b ≤ 2 ^ 32) where
  read-both : to_z w64 a -ℤ to_z w64 b ≡ pos a -ℤ pos b
  read-both = rw (to_z_pos w64 a (omega arith), to_z_pos w64 b (omega arith))

  pub diff-fits : SFits w64 (to_z w64 a -ℤ to_z w64 b)
  diff-fits = rw read-both (fits-abs (pos a -ℤ pos b) (omega (arith, abs_diff (pos a) (pos b))))

  pub diff-reads : to_z w64 (of_z w64 (to_z w64 a -ℤ to_z w64 b)) ≡ pos a -ℤ pos b
  diff-reads = reads diff-fits ∙ read-both

-- ---- products and quotients
abs_neg : (z : ℤ) → nat_abs (neg_ℤ z) ≡ nat_abs z
abs_neg z = omega (arith, abs_is z, abs_is (neg_ℤ z), neg_is z)

abs-mul : (x y : ℤ) → nat_abs (x *ℤ y) ≡ nat_abs x * nat_abs y
abs-mul (pos a) (pos b) = refl
abs-mul (pos a) (negsuc b) = abs_neg (pos (a * suc b))
abs-mul (negsuc a) (pos b) = abs_neg (pos (suc a * b))
abs-mul (negsuc a) (negsuc b) = refl

pub mul-le : (x y : ℤ) {a b : ℕ} → nat_abs x ≤ a → nat_abs y ≤ b → nat_abs (x *ℤ y) ≤ a * b
mul-le x y h k = rw (abs-mul x y) (N.mul-le-mul h k)

-- divided by a natural number and cut towards zero
pub quot_le : (z : ℤ) (n : ℕ) → nat_abs (quot_z z (pos n)) ≤ nat_abs z
quot_le (pos a) n = N.div-le_self a n
quot_le (negsuc a) n = rw (abs_neg (pos (suc a / n))) (N.div-le_self (suc a) n)
