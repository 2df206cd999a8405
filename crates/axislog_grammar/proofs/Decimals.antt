-- Decimals, digit by digit: a further digit is appended, and its value determines its octet.
use Rattle.std.specs.Prelude.{◌≡◌, refl, [], ◌∷◌, ◌++◌, Bool, true, false, cond, ℕ, zero, suc, ◌+◌, ◌*◌, ◌/◌, ◌%◌, ◌^◌, ◌≤◌, ◌<◌, ◌-◌, ltb, Option, Some}
use Rattle.std.proofs.lemmas.Option.{none-some, same_Some}
use Rattle.std.proofs.Common.{arith, lt-ltb, le-ltb, ltb-false}
use Rattle.axislog_lexer.specs.{digit_of}
use Rattle.axislog_answers.specs.{decimal_below, decimal}

-- a test, by its two ways
pub choose : {A : Type 0} (P : A → Type 0) (t : Bool) {a b : A} → (t ≡ true → P a) → (t ≡ false → P b) → P (cond t a b)
choose P true f g = f refl
choose P false f g = g refl

-- fuel for more digits than there are changes nothing
fuel : (f n : ℕ) → n < 10 ^ suc f → decimal_below (suc (suc f)) n ≡ decimal_below (suc f) n
unfolding decimal_below
fuel zero n h = rw (lt-ltb n 10 h)
fuel (suc f) n h = rw (fuel f (n / 10) (omega arith))

below_more : (f m d : ℕ) → (m ≡ 0 → ⊥) → d ≤ 9 → decimal_below (suc f) (m * 10 + d) ≡ decimal_below f m ++ ((48 + d) ∷ [])
unfolding decimal_below
below_more f m d z l =
    let q : (m * 10 + d) / 10 ≡ m = omega arith in
    let r : (m * 10 + d) % 10 ≡ d = omega arith in
    rw (le-ltb (m * 10 + d) 10 (omega arith), q, r)

pub decimal-more : (m d : ℕ) → (m ≡ 0 → ⊥) → d ≤ 9 → m * 10 + d ≤ 4294967295 → decimal (m * 10 + d) ≡ decimal m ++ ((48 + d) ∷ [])
unfolding decimal
decimal-more m d z l h = rw (below_more 9 m d z l, fuel 8 m (omega arith))

pub decimal-one : (d : ℕ) → d ≤ 9 → decimal d ≡ (48 + d) ∷ []
unfolding decimal decimal_below
decimal-one d l = rw (lt-ltb d 10 (omega arith))

pub octet-is : (x d : ℕ) → digit_of x ≡ Some d → (d ≤ 9) × (48 + d ≡ x)
unfolding digit_of
octet-is x d =
    choose Of (ltb x 48) (λ i n. absurd (none-some d n)) (λ i.
    choose Of (ltb 57 x) (λ j n. absurd (none-some d n)) (λ j n.
    let e = same_Some (x - 48) d n in
    (omega (arith, ltb-false 57 x j), omega (arith, ltb-false x 48 i))))
  where
    Of : Option ℕ → Type 0
    Of o = o ≡ Some d → (d ≤ 9) × (48 + d ≡ x)
