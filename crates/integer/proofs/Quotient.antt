-- Quotient and remainder rounded down: z is k × n and r, r below n, with one k and one r alone. So z around m × n is k around m, times n, and r.
use Rattle.std.specs.Prelude.{◌≡◌, ℕ, ◌+◌, ◌*◌, ◌≤◌, ◌<◌, ℤ, pos, negsuc, nat_abs}
use Rattle.std.proofs.Common.{ap, arith}
use Rattle.integer.specs.{◌modulo◌, ◌quotient◌}
use Rattle.integer.proofs.{Signed.above, Signed.below, Signed.signed, Modulus.modulo-lt, Modulus.modulo-has, Modulus.modulo-is}
use lib.{Arith.digits_lt}
use native.Mathlib.Nat as N

-- z is k × n and r
pub record Splits (z k : ℤ) (n r : ℕ) : Type 0 where
  pub is : above z + below k * n ≡ (r + below z) + above k * n

pub splits : (z : ℤ) {n : ℕ} → 0 < n → Splits z (z quotient n) n (z modulo n)
unfolding ◌quotient◌ ◌modulo◌
splits (pos a) {n} h = record { is = omega (arith, N.div-add-mod' a n) }
splits (negsuc a) {n} h = record { is = omega (arith, N.div-add-mod' a n, N.mod-lt a h) }

pub quotient-most : (z : ℤ) (n : ℕ) → nat_abs (z quotient n) ≤ nat_abs z
unfolding ◌quotient◌
quotient-most (pos a) n = N.div-le_self a n
quotient-most (negsuc a) n = omega (arith, N.div-le_self a n)

module _ {z k : ℤ} {n r : ℕ} (h : r < n) (s : Splits z k n r) where
  pub splits-rest : z modulo n ≡ r
  splits-rest = modulo-is z (below k) (above k) h s.is

  pub splits-whole : z quotient n ≡ k
  splits-whole =
      let i : 0 < n = omega arith in
      let q = z quotient n in
      let e : (above k + below q) * n ≡ (above q + below k) * n
      = omega (arith, s.is, (splits z i).is, splits-rest, N.add-mul (above k) (below q) n, N.add-mul (above q) (below k) n) in
      let f : above k + below q ≡ above q + below k = N.eq_of_mul-eq-mul_right n i _ _ e in
      omega signed

  -- around m × n
  pub around : {m : ℕ} → 0 < m → z modulo (n * m) ≡ k modulo m * n + r
  around {m} l =
      let t = modulo-has k l in
      modulo-is z t.0 t.1 (omega (arith, digits_lt (modulo-lt k l) h)) (omega (arith, s.is, ap (λ (x : ℕ). x * n) t.2))
