-- Decimal numbers: no leading zero, at most 4294967295 (document 01, "The program axislog").
use Rattle.std.specs.Prelude.{◌+◌, ◌*◌, ◌-◌, ◌∷◌}
use Rattle.std.specs.Prelude.{ℕ, List, [], cond, ltb, eqb, drop, Option, Some, None}
use Rattle.std.specs.Option.{option_map_or}
use Rattle.axislog_lexer.specs.{declared.number.Decimal.Decimal, Word.◌>>=◌, Word.past, Word.ends}

-- the value of a digit; no other octet has one
unfoldable pub digit_of : ℕ → Option ℕ
digit_of octet = cond (ltb octet 48) None (cond (ltb 57 octet) None (Some (octet - 48)))

-- a number that ends at position p
abbrev pub found : ℕ → ℕ → Option Decimal
found n p = Some (record { value = n; next = p })

-- digits from position p on; the digits before them have the value n. No digit follows a leading 0
unfoldable pub digits : ℕ → ℕ → List ℕ → Option Decimal
digits n p [] = found n p
digits n p (x ∷ xs) =
    option_map_or (λ d.
    cond (eqb n 0) None
    (cond (ltb 4294967295 (n * 10 + d)) None
    (digits (n * 10 + d) (p + 1) xs)))
    (digit_of x) (found n p)

-- the number with which a text from position p on begins, and the position after it
unfoldable pub number : ℕ → List ℕ → Option Decimal
number p [] = None
number p (x ∷ xs) = do
  d ← digit_of x
  digits d (p + 1) xs

-- the number after a word that stands at position p
unfoldable pub labelled : List ℕ → ℕ → List ℕ → Option Decimal
labelled word p line = do
  q ← past word p (drop p line)
  number q (drop q line)

-- the number at position p, where a word behind it ends the line
unfoldable pub last : List ℕ → ℕ → List ℕ → Option Decimal
last word p line = do
  d ← number p (drop p line)
  cond (ends word d.next line) (Some d) None
