-- The library's decimal of a number is its text, and its length. By induction: take off the last digit.
use Rattle.std.specs.Fmt.{decimal as library_decimal}
use Rattle.std.proofs.lemmas.Fmt.{decimal_digit, decimal_step}
use Rattle.std.specs.Prelude.{◌≡◌, refl, Bool, true, false, cond, [], ◌∷◌, ◌++◌, ℕ, zero, suc, ◌+◌, ◌/◌, ◌%◌, ◌^◌, ◌≤◌, ◌<◌, ltb, length}
use Rattle.std.proofs.Common.{arith, ltb-true, ltb-false, length-append, lt-ltb}
use Rattle.std.specs.Int.{w32}
use mir.Val.{Fits}
use Rattle.axislog_answers.specs.{decimal_below, decimal}

below-is : (f n : ℕ) → n < 10 ^ suc f → n < 2 ^ 64 → library_decimal n ≡ decimal_below (suc f) n
unfolding decimal_below
below-is zero n h small = rw (lt-ltb n 10 h, decimal_digit n h)
below-is (suc f) n h small = go (ltb n 10) (λ t. ltb-true n 10 t) (λ t. ltb-false n 10 t) (λ le. below-is f (n / 10) (omega arith) (omega arith))
  where
    go : (b : Bool) → (b ≡ true → n < 10) → (b ≡ false → 10 ≤ n) → (10 ≤ n → library_decimal (n / 10) ≡ decimal_below (suc f) (n / 10))
        → library_decimal n ≡ cond b ((48 + n) ∷ []) (decimal_below (suc f) (n / 10) ++ ((48 + n % 10) ∷ []))
    go true lt le rest = decimal_digit n (lt refl)
    go false lt le rest = rw (decimal_step n (le refl) small, rest (le refl))

pub decimal-is : (n : ℕ) → Fits w32 n → library_decimal n ≡ decimal n
unfolding decimal
decimal-is n fits = below-is 9 n (omega arith) (omega arith)

-- ---- how many there are
one_more : (f n : ℕ) → length (decimal_below (suc f) n) ≤ suc (length (decimal_below f (n / 10)))
unfolding decimal_below
one_more f n = go (ltb n 10)
  where
    go : (b : Bool) → length (cond b ((48 + n) ∷ []) (decimal_below f (n / 10) ++ ((48 + n % 10) ∷ []))) ≤ suc (length (decimal_below f (n / 10)))
    go true = omega arith
    go false = rw length-append (omega arith)

below-long : (f n : ℕ) → length (decimal_below f n) ≤ f
unfolding decimal_below
below-long zero n = omega arith
below-long (suc f) n = omega (arith, one_more f n, below-long f (n / 10))

below-short : (f k n : ℕ) → n < 10 ^ suc k → length (decimal_below f n) ≤ suc k
unfolding decimal_below
below-short zero k n h = omega arith
below-short (suc f) zero n h = rw (lt-ltb n 10 h) (omega arith)
below-short (suc f) (suc k) n h = omega (arith, one_more f n, below-short f k (n / 10) (omega arith))

pub decimal-long : (n : ℕ) → length (decimal n) ≤ 10
unfolding decimal
decimal-long n = below-long 10 n

pub decimal-short : (k n : ℕ) → n < 10 ^ suc k → length (decimal n) ≤ suc k
unfolding decimal
decimal-short k n h = below-short 10 k n h
