-- A number at a position of a line. The loop takes one step of `digits` at each digit.
use Rattle.std.specs.Prelude.{◌≡◌, List, ℕ, ◌+◌, ◌-◌, ◌*◌, ◌≤◌, ◌<◌, length, get_or, drop, Option, Some, None}
use Rattle.std.proofs.Common.{add-one, drop_of_length-le, drop-cons, lt-ltb, le-ltb}
use Rattle.std.proofs.Common.{eq-eqb, ne_eqb}
use Rattle.axislog_lexer.specs.{Decimal, digit_of, digits, found, number}

-- ---- the value of a digit
module _ (b : ℕ) where
  pub digit_low : b < 48 → None ≡ digit_of b
  unfolding digit_of
  digit_low l = rw (lt-ltb b 48 l)

  pub digit-is : 48 ≤ b → b ≤ 57 → Some (b - 48) ≡ digit_of b
  unfolding digit_of
  digit-is l h = rw (le-ltb b 48 l, le-ltb 57 b h)

-- ---- the digits of a number
pub digits-end : (line : List ℕ) (n k : ℕ) (r : Option Decimal) → digits n k (drop k line) ≡ r → length line ≤ k → found n k ≡ r
unfolding digits
digits-end line n k r inv h = rw (drop_of_length-le line h) at inv

module _ (line : List ℕ) (n k : ℕ) (r : Option Decimal) (inv : digits n k (drop k line) ≡ r) (h : k < length line) where
  pub digits-stop : digit_of (get_or line k 0) ≡ None → found n k ≡ r
  unfolding digits
  digits-stop e = rw (drop-cons line k 0 h, e) at inv

  module _ (d : ℕ) (e : digit_of (get_or line k 0) ≡ Some d) where
    pub digits-zero : n ≡ 0 → None ≡ r
    unfolding digits
    digits-zero z = rw (drop-cons line k 0 h, e, eq-eqb _ _ z) at inv

    pub digits-large : (n ≡ 0 → ⊥) → 4294967296 ≤ n * 10 + d → None ≡ r
    unfolding digits
    digits-large z l = rw (drop-cons line k 0 h, e, ne_eqb _ _ z, lt-ltb _ _ l) at inv

    pub digits_more : (n ≡ 0 → ⊥) → n * 10 + d ≤ 4294967295 → digits (n * 10 + d) (k + 1) (drop (k + 1) line) ≡ r
    unfolding digits
    digits_more z l = rw add-one (rw (drop-cons line k 0 h, e, ne_eqb _ _ z, le-ltb _ _ l, add-one) at inv)

-- ---- a number
pub number-end : (line : List ℕ) (k : ℕ) → length line ≤ k → None ≡ number k (drop k line)
unfolding number
number-end line k h = rw (drop_of_length-le line h)

module _ (line : List ℕ) (k : ℕ) (h : k < length line) where
  pub number-none : digit_of (get_or line k 0) ≡ None → None ≡ number k (drop k line)
  unfolding number
  number-none e = rw (drop-cons line k 0 h, e)

  pub number-some : (d : ℕ) (r : Option Decimal) → digit_of (get_or line k 0) ≡ Some d → r ≡ digits d (k + 1) (drop (k + 1) line)
      → r ≡ number k (drop k line)
  unfolding number
  number-some d r e i = rw (drop-cons line k 0 h, e, i, add-one)

pub ruleset digit-steps = (digits-end, digits-stop, digits-zero, digits-large, digits_more)

pub ruleset numbers = (number-end, number-none, number-some)
