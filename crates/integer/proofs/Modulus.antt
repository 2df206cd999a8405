-- The remainder rounded down: z and z modulo n differ by a multiple of n, and no other number below n does.
use Rattle.std.specs.Prelude.{◌≡◌, ℕ, suc, ◌+◌, ◌*◌, ◌/◌, ◌%◌, ◌<◌, ℤ, pos, negsuc}
use Rattle.std.proofs.Common.{sym, ap, ◌∙◌, arith}
use Rattle.integer.specs.{◌modulo◌}
use Rattle.integer.proofs.Signed.{above, below}
use lib.{Arith.digits_mod}
use native.Mathlib.Nat as N

-- the multiples by which z and z modulo n differ
pub modulo-has : (z : ℤ) {n : ℕ} → 0 < n → (p : ℕ) × (q : ℕ) × (above z + p * n ≡ (z modulo n + below z) + q * n)
unfolding ◌modulo◌
modulo-has (pos a) {n} h = (0, a / n, omega (arith, N.div-add-mod' a n, N.zero-mul n))
modulo-has (negsuc a) {n} h = (suc (a / n), 0, omega (arith, N.div-add-mod' a n, N.zero-mul n, N.suc-mul (a / n) n, N.mod-lt a h))

pub modulo-lt : (z : ℤ) {n : ℕ} → 0 < n → z modulo n < n
unfolding ◌modulo◌
modulo-lt (pos a) h = N.mod-lt a h
modulo-lt (negsuc a) h = omega arith

pub modulo-is : (z : ℤ) {n r : ℕ} (p q : ℕ) → r < n → above z + p * n ≡ (r + below z) + q * n → z modulo n ≡ r
modulo-is z {n} {r} p q h e =
    let k : 0 < n = omega arith in
    let m = modulo-has z k in
    let l = modulo-lt z k in
    let f : (q + m.0) * n + r ≡ (m.1 + p) * n + z modulo n = omega (arith, m.2, N.add-mul q m.0 n, N.add-mul m.1 p n) in
    sym (digits_mod (m.1 + p) l) ∙ ap (λ (x : ℕ). x % n) (sym f) ∙ digits_mod (q + m.0) h

-- numbers that differ by a multiple of n are the same modulo n
pub modulo-alike : (x y : ℤ) {n : ℕ} (p q : ℕ) → 0 < n → (above x + below y) + p * n ≡ (above y + below x) + q * n → x modulo n ≡ y modulo n
modulo-alike x y {n} p q h e =
    let m = modulo-has y h in
    modulo-is x (p + m.0) (q + m.1) (modulo-lt y h) (omega (arith, m.2, N.add-mul p m.0 n, N.add-mul q m.1 n))
