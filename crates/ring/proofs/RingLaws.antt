-- The functions on a ring give the remainder by n: a number and its place differ by a multiple of n.
use Rattle.std.specs.Prelude.{◌≡◌, refl, Bool, true, false, cond, ◌&&◌, ℕ, zero, suc, ◌+◌, ◌-◌, ◌*◌, ◌/◌, ◌%◌, ◌≤◌, ◌<◌, ◌^◌}
use Rattle.std.proofs.Common.{sym, ◌∙◌, true≢false, arith}
use Rattle.std.proofs.Math.Bool.{and-true}
use Rattle.std.specs.Prelude.{T, ltb, leb, ℤ, pos, negsuc, nat_abs, ◌+ℤ◌, ◌-ℤ◌}
use Rattle.std.proofs.Common.{lt-ltb, le-ltb, ltb-true, ltb-false, leb-true, ne_eqb, eq-eqb}
use Rattle.std.proofs.Math.IntN.{+ℤ_idl}
use Rattle.std.specs.Int.Signed.{lt_z, non_neg}
use Rattle.std.specs.Int.{w64, w32}
use mir.Val.{Fits}
use mir.Val.{SFits, to_z, of_z}
use Rattle.std.proofs.lemmas.Int.{to_z_pos}
use Rattle.integer.specs.{◌modulo◌}
use Rattle.integer.proofs.{signed, above, below, apart, add_is, diff_is, abs_is, abs_diff, reads, fits-abs, to-nat, modulo-is, modulo-alike, modulo-lt}
use Rattle.ring.specs.{on_ring, in_range, complement}
use native.Mathlib.Nat as N

pub on-ring : (z : ℤ) (n : ℕ) → 0 < n → on_ring z n ≡ z modulo n
unfolding on_ring
on-ring z n h = rw (ne_eqb n 0 (λ e. omega arith))

pub on_none : (z : ℤ) (n : ℕ) → n ≡ 0 → 0 ≡ on_ring z n
unfolding on_ring
on_none z n e = rw (eq-eqb n 0 e)

-- ---- a place and a move, both below n
module _ (from by n : ℕ) (f : from < n) (b : by ≤ n) where
  pub ahead-on : by < n - from → from + by ≡ on_ring (pos from +ℤ pos by) n
  ahead-on h = rw (on-ring (pos from +ℤ pos by) n (omega arith)) (sym (modulo-is _ 0 0 (omega arith) (omega arith)))

  pub ahead-round : n - from ≤ by → by - (n - from) ≡ on_ring (pos from +ℤ pos by) n
  ahead-round h = rw (on-ring (pos from +ℤ pos by) n (omega arith)) (sym (modulo-is _ 0 1 (omega arith) (omega arith)))

-- ---- any place and any move: their remainders lead to the same place
module _ (place n from by m r : ℕ) (d : ℤ) (fits : SFits w64 d) (from_is : from ≡ place % n) (lt : from < n) (by-is : by ≡ m % n) where
  add_back : lt_z (to_z w64 (of_z w64 d)) (pos 0) ≡ true → r ≡ on_ring (pos from +ℤ pos (n - by)) n → m ≡ nat_abs (to_z w64 (of_z w64 d))
      → r ≡ on_ring (pos place +ℤ d) n
  add_back t r-is m-is =
      let h : 0 < n = omega arith in
      let x = pos place +ℤ d in
      let y = pos from +ℤ pos (n - by) in
      let i : m ≡ nat_abs d = rw (reads fits) at m-is in
      let j : lt_z d (pos 0) ≡ true = rw (reads fits) at t in
      let e : (above x + below y) + suc (m / n) * n ≡ (above y + below x) + place / n * n
      = omega (signed, add_is (pos place) d, abs_is d, apart d, N.div-add-mod' place n, N.div-add-mod' m n, N.suc-mul (m / n) n, N.mod-lt m h) in
      r-is ∙ rw (on-ring x n h, on-ring y n h) (sym (modulo-alike x y (suc (m / n)) (place / n) h e))

  add-ahead : lt_z (to_z w64 (of_z w64 d)) (pos 0) ≡ false → r ≡ on_ring (pos from +ℤ pos by) n → m ≡ nat_abs (to_z w64 (of_z w64 d))
      → r ≡ on_ring (pos place +ℤ d) n
  add-ahead t r-is m-is =
      let h : 0 < n = omega arith in
      let x = pos place +ℤ d in
      let y = pos from +ℤ pos by in
      let q = place / n + m / n in
      let i : m ≡ nat_abs d = rw (reads fits) at m-is in
      let j : lt_z d (pos 0) ≡ false = rw (reads fits) at t in
      let e : (above x + below y) + 0 * n ≡ (above y + below x) + q * n
      = omega (signed, add_is (pos place) d, abs_is d, apart d, N.div-add-mod' place n, N.div-add-mod' m n, N.add-mul (place / n) (m / n) n) in
      r-is ∙ rw (on-ring x n h, on-ring y n h) (sym (modulo-alike x y 0 q h e))

  by_way : (t : Bool) → lt_z (to_z w64 (of_z w64 d)) (pos 0) ≡ t → r ≡ on_ring (pos from +ℤ pos (cond t (n - by) by)) n
      → m ≡ nat_abs (to_z w64 (of_z w64 d)) → r ≡ on_ring (pos place +ℤ d) n
  by_way true e r-is m-is = add_back e r-is m-is
  by_way false e r-is m-is = add-ahead e r-is m-is

  pub add-on : (on : ℕ) → r ≡ on_ring (pos from +ℤ pos on) n → on ≡ cond (lt_z (to_z w64 (of_z w64 d)) (pos 0)) (n - by) by
      → m ≡ nat_abs (to_z w64 (of_z w64 d)) → r ≡ on_ring (pos place +ℤ d) n
  add-on on r-is on-is m-is = by_way (lt_z (to_z w64 (of_z w64 d)) (pos 0)) refl (rw on-is at r-is) m-is

-- ---- two's complement: a ring of 2^32 places, or of fewer, has places of 32 bits
pub complement-is : (z : ℤ) (n : ℕ) → SFits w64 z → n ≡ on_ring (pos 0 +ℤ to_z w64 (of_z w64 z)) (2 ^ 32) → n ≡ complement z
unfolding complement
complement-is z n fits n-is = n-is ∙ rw (on-ring (pos 0 +ℤ to_z w64 (of_z w64 z)) (2 ^ 32) (omega arith), reads fits, +ℤ_idl z)

pub complement-fits : (z : ℤ) (m n : ℕ) → ltb 0 m ≡ true → leb m (2 ^ 32) ≡ true → n ≡ on_ring z m → Fits w32 n
complement-fits z m n some most n-is =
    let h = ltb-true 0 m some in
    let lt : n < m = rw (n-is, on-ring z m h) (modulo-lt z h) in
    record { fits = omega (arith, leb-true m (2 ^ 32) most) }

-- ---- back by k is ahead by n − k
module _ (d : ℤ) (by n : ℕ) (fits : SFits w64 d) where
  pub forward-back : lt_z (to_z w64 (of_z w64 d)) (pos 0) ≡ true → n - by ≡ cond (lt_z d (pos 0)) (n - by) by
  forward-back t = let e : lt_z d (pos 0) ≡ true = rw (reads fits) at t in rw e

  pub forward-ahead : lt_z (to_z w64 (of_z w64 d)) (pos 0) ≡ false → by ≡ cond (lt_z d (pos 0)) (n - by) by
  forward-ahead t = let e : lt_z d (pos 0) ≡ false = rw (reads fits) at t in rw e

-- ---- the remainder
pub rest-is : (a n : ℕ) → a < n → a ≡ a % n
rest-is a n h = sym (N.mod-eq_of_lt h)

pub rest_lt : (a n : ℕ) → 0 < n → a % n < n
rest_lt a n h = N.mod-lt a h

-- ---- |d| for d < 0, as (−1 − d) + 1, which fits
module _ (d : ℤ) (f : SFits w64 d) where
  read-test : (b : Bool) → lt_z (to_z w64 (of_z w64 d)) (pos 0) ≡ b → lt_z d (pos 0) ≡ b
  read-test b t = rw (reads f) at t

  most : nat_abs d ≤ 2 ^ 63
  most = within d f
    where
      within : (z : ℤ) → SFits w64 z → nat_abs z ≤ 2 ^ 63
      within (pos a) g = omega (arith, g.sfits)
      within (negsuc a) g = omega (arith, g.sfits)

  module _ (t : lt_z (to_z w64 (of_z w64 d)) (pos 0) ≡ true) where
    turned : (below (negsuc 0 -ℤ d) ≡ 0) × (nat_abs (negsuc 0 -ℤ d) + 1 ≡ nat_abs d)
    turned =
        let z = negsuc 0 -ℤ d in
        let h = read-test true t in
        omega (signed, diff_is (negsuc 0) d, abs_is z, abs_is d, apart z, apart d)

    pub turned-fits : SFits w64 (negsuc 0 -ℤ to_z w64 (of_z w64 d))
    turned-fits = rw (reads f) (fits-abs _ (omega (arith, turned, most)))

    turned-read : to_z w64 (of_z w64 (negsuc 0 -ℤ to_z w64 (of_z w64 d))) ≡ negsuc 0 -ℤ d
    turned-read = reads turned-fits ∙ rw (reads f)

    pub turned-above : T (non_neg (to_z w64 (of_z w64 (negsuc 0 -ℤ to_z w64 (of_z w64 d)))))
    turned-above = rw turned-read (to-nat {w = w64} (negsuc 0 -ℤ d) (omega (arith, turned, most))).0

    pub turned-nat : Fits w64 (nat_abs (to_z w64 (of_z w64 (negsuc 0 -ℤ to_z w64 (of_z w64 d)))))
    turned-nat = rw turned-read (record { fits = omega (arith, turned, most) })

    pub turned-next : (n : ℕ) → n ≤ 2 → Fits w64 (nat_abs (to_z w64 (of_z w64 (negsuc 0 -ℤ to_z w64 (of_z w64 d)))) + n)
    turned-next n h = rw turned-read (record { fits = omega (arith, turned, most) })

    pub turned-is : nat_abs (to_z w64 (of_z w64 (negsuc 0 -ℤ to_z w64 (of_z w64 d)))) + 1 ≡ nat_abs d
    turned-is = rw turned-read turned.1

  module _ (t : lt_z (to_z w64 (of_z w64 d)) (pos 0) ≡ false) where
    pub kept_above : T (non_neg (to_z w64 (of_z w64 d)))
    kept_above = rw (reads f) (above-by d (read-test false t))
      where
        above-by : (z : ℤ) → lt_z z (pos 0) ≡ false → T (non_neg z)
        above-by (pos a) e = tt
        above-by (negsuc a) e = absurd (true≢false e)

    pub kept-nat : Fits w64 (nat_abs (to_z w64 (of_z w64 d)))
    kept-nat = rw (reads f) (record { fits = omega (arith, most) })

pub ruleset magnitudes = (turned-fits, turned-above, turned-nat, turned-next, turned-is, kept_above, kept-nat)

-- ---- strictly between −n and n
read-end : (n : ℕ) → Fits w32 n → to_z w64 n ≡ pos n
read-end n h = to_z_pos w64 n (omega (arith, h.fits))

pub end_fits : (z : ℤ) (n : ℕ) → nat_abs z ≤ 1 → Fits w32 n → SFits w64 (z -ℤ to_z w64 n)
end_fits z n k h = rw (read-end n h) (fits-abs _ (omega (arith, h.fits, abs_diff z (pos n))))

next-ltb : (a n : ℕ) (b : Bool) → ltb a n ≡ b → ltb a n ≡ ltb (suc a) (suc n)
next-ltb a n true e = e ∙ sym (lt-ltb (suc a) (suc n) (omega (arith, ltb-true a n e)))
next-ltb a n false e = e ∙ sym (le-ltb (suc a) (suc n) (omega (arith, ltb-false a n e)))

both_ends : (z : ℤ) (n : ℕ) → (lt_z z (pos n) && lt_z (pos 0 -ℤ pos n) z) ≡ ltb (nat_abs z) n
both_ends (pos a) zero = rw (le-ltb a 0 (omega arith))
both_ends (pos a) (suc n) = rw (+ℤ_idl (negsuc n)) (and-true (ltb a (suc n)))
both_ends (negsuc a) zero = rw (le-ltb (suc a) 0 (omega arith))
both_ends (negsuc a) (suc n) = rw (+ℤ_idl (negsuc n)) (next-ltb a n (ltb a n) refl)

pub between_is : (z : ℤ) (n : ℕ) → SFits w64 z → Fits w32 n
    → (lt_z (to_z w64 (of_z w64 z)) (to_z w64 n) && lt_z (to_z w64 (of_z w64 (pos 0 -ℤ to_z w64 n))) (to_z w64 (of_z w64 z))) ≡ in_range z n
unfolding in_range
between_is z n f h = rw (reads (end_fits (pos 0) n (omega arith) h), read-end n h, reads f) (both_ends z n)

pub ruleset rings = (on_none, ahead-on, ahead-round, forward-back, forward-ahead, add-on, rest-is, rest_lt, complement-is, complement-fits, end_fits, between_is)
