-- An integer counted ahead by a number as large as it is a natural number, in machine words too. So it is divided without a case for its sign.
use Rattle.std.specs.Prelude.{◌≡◌, ℕ, ◌+◌, ◌^◌, ◌≤◌, T, ℤ, pos, nat_abs, ◌+ℤ◌}
use Rattle.std.proofs.Common.{arith}
use Rattle.std.specs.Int.Signed.{non_neg}
use Rattle.std.specs.Int.{w64}
use mir.Val.{Fits, SFits, to_z, of_z}
use Rattle.std.proofs.lemmas.Int.{to_z_pos}
use Rattle.integer.proofs.{above, below, apart, add_is, reads, abs_is, fits-abs, to-nat}

module _ (z : ℤ) (n : ℕ) (fits : SFits w64 z) (small : nat_abs z ≤ n) (most : n ≤ 2 ^ 61) where
  abbrev sum : ℤ
  sum = to_z w64 (of_z w64 z) +ℤ to_z w64 n

  sum_is : sum ≡ z +ℤ pos n
  sum_is = rw (reads fits, to_z_pos w64 n (omega arith))

  sum-has : (below (z +ℤ pos n) ≡ 0) × (nat_abs (z +ℤ pos n) + below z ≡ above z + n) × (nat_abs (z +ℤ pos n) ≤ 2 ^ 62)
  sum-has =
      let y = z +ℤ pos n in
      let a = abs_is z in
      let b = abs_is y in
      let i = add_is z (pos n) in
      let j = apart y in
      let k : below y ≡ 0 = omega arith in
      (k, omega arith, omega arith)

  pub ahead-fits : SFits w64 sum
  ahead-fits = rw sum_is (fits-abs _ (omega (arith, sum-has)))

  sum-nat : T (non_neg (z +ℤ pos n)) × Fits w64 (nat_abs (z +ℤ pos n))
  sum-nat = to-nat {w = w64} (z +ℤ pos n) (sum-has.0, omega (arith, sum-has))

  pub ahead-above : T (non_neg (to_z w64 (of_z w64 sum)))
  ahead-above = rw (reads ahead-fits, sum_is) sum-nat.0

  pub ahead-cast : Fits w64 (nat_abs (to_z w64 (of_z w64 sum)))
  ahead-cast = rw (reads ahead-fits, sum_is) sum-nat.1

  pub ahead-is : nat_abs (to_z w64 (of_z w64 sum)) + below z ≡ above z + n
  ahead-is = rw (reads ahead-fits, sum_is) sum-has.1
