-- What each reader of words and numbers has found: it extends a front of the line by the word or the number. One law a reader, over any front.
use Rattle.std.specs.Prelude.{◌≡◌, refl, List, [], ◌∷◌, ◌++◌, true, cond, ℕ, ◌+◌, ◌*◌, ◌≤◌, ltb, eqb, length, drop, Option, Some, None}
use Rattle.std.proofs.Common.{◌∙◌, append_assoc, append-nil, arith}
use Rattle.std.proofs.lemmas.Bool.{false≢true}
use Rattle.std.proofs.Common.{length-append, drop_of_length-le, drop_at, ltb-false, eqb-true}
use Rattle.std.proofs.lemmas.Bool.{eqb-false}
use Rattle.axislog_lexer.specs.{Decimal, ◌>>=◌, past, is_at, ends, digit_of, digits, found, number, labelled, last}
use Rattle.std.specs.Option.{option_map_or}
use Rattle.axislog_answers.specs.{decimal}
use Rattle.axislog_grammar.proofs.Decimals.{choose, decimal-more, decimal-one, octet-is}

-- ---- fronts of a line
-- a line is a front and, from position p on, a text
pub record Cut (line front : List ℕ) (p : ℕ) (text : List ℕ) : Type 0 where
  pub is : line ≡ front ++ text
  pub long : length front ≡ p

abbrev pub Upto : List ℕ → List ℕ → ℕ → Type 0
Upto line front p = Cut line front p (drop p line)

pub start : (line : List ℕ) → Upto line [] 0
start line = record { is = refl; long = refl }

pub upto : {line front : List ℕ} {p : ℕ} {text : List ℕ} → Cut line front p text → Upto line front p
upto {front} {p} {text} c = record { is = rw (c.is, drop_at front text p c.long); long = c.long }

onward : {line front : List ℕ} {p : ℕ} (word text : List ℕ) → Cut line front p (word ++ text) → Cut line (front ++ word) (p + length word) text
onward word text c = record { is = rw append_assoc c.is; long = rw (length-append, c.long) }

-- ---- words
pub data Passed (line front : List ℕ) : Option ℕ → Type 0 where
  passed : {p : ℕ} → Upto line front p → Passed line front (Some p)
  missed : Passed line front None

pub past_is : (word : List ℕ) {line front : List ℕ} {p : ℕ} {text : List ℕ} → Cut line front p text → Passed line (front ++ word) (past word p text)
unfolding past
past_is [] c = rw append-nil (passed (upto c))
past_is (w ∷ ws) {text = []} c = missed
past_is (w ∷ ws) {text = x ∷ xs} c =
    choose (Passed _ _) (eqb x w) (λ e. rw (append_assoc, eqb-true x w e) at (past_is ws (onward (x ∷ []) xs c))) (λ e. missed)

-- a word that ends the line
is-at : {line front : List ℕ} {q : Option ℕ} → Passed line front q → is_at q (length line) ≡ true → line ≡ front
is-at {line} (passed {p} c) e = c.is ∙ rw (drop_of_length-le line {i = p} (omega (arith, eqb-true p (length line) e)), append-nil)
is-at missed e = absurd (false≢true e)

pub ends_is : (word : List ℕ) {line front : List ℕ} {p : ℕ} → Upto line front p → ends word p line ≡ true → line ≡ front ++ word
unfolding ends
ends_is word c = is-at (past_is word c)

-- ---- numbers
pub data Counted (P : ℕ → ℕ → Type 0) : Option Decimal → Type 0 where
  counted : {n p : ℕ} → n ≤ 4294967295 → P n p → Counted P (found n p)
  uncounted : Counted P None

-- an octet, by its digit: behind other digits, and as the first
by_digit : {A : Type 0} (P : A → Type 0) (o : Option ℕ) {f : ℕ → A} {b : A} → P b → ((d : ℕ) → o ≡ Some d → P (f d)) → P (option_map_or f o b)
by_digit P None n s = n
by_digit P (Some d) n s = s d refl

by_first : {A : Type 0} (P : Option A → Type 0) (o : Option ℕ) {f : ℕ → Option A} → P None → ((d : ℕ) → o ≡ Some d → P (f d)) → P (o >>= f)
by_first P None n s = n
by_first P (Some d) n s = s d refl

-- the number is what follows a front
abbrev pub Follows : List ℕ → List ℕ → Option Decimal → Type 0
Follows line front = Counted (λ n p. Upto line (front ++ decimal n) p)

digits-is : (front : List ℕ) (m : ℕ) {line : List ℕ} {p : ℕ} {text : List ℕ} → m ≤ 4294967295 → Cut line (front ++ decimal m) p text
    → Follows line front (digits m p text)
unfolding digits
digits-is front m {text = []} h c = counted h (upto c)
digits-is front m {text = x ∷ xs} h c =
    by_digit (Counted _) (digit_of x) (counted h (upto c)) (λ d e.
    choose (Counted _) (eqb m 0) (λ j. uncounted) (λ j.
    choose (Counted _) (ltb 4294967295 (m * 10 + d)) (λ k. uncounted) (λ k.
    let o = octet-is x d e in
    let g = ltb-false 4294967295 (m * 10 + d) k in
    digits-is front (m * 10 + d) {text = xs} g
    (rw (decimal-more m d (eqb-false m 0 j) o.0 g, o.1, ← append_assoc) (onward (x ∷ []) xs c)))))

number_is : {line front : List ℕ} {p : ℕ} {text : List ℕ} → Cut line front p text → Follows line front (number p text)
unfolding number
number_is {text = []} c = uncounted
number_is {front} {text = x ∷ xs} c =
    by_first (Counted _) (digit_of x) uncounted (λ d e.
    let o = octet-is x d e in
    digits-is front d (omega arith) (rw (decimal-one d o.0, o.1) (onward (x ∷ []) xs c)))

-- behind a word
after_is : {line front : List ℕ} {q : Option ℕ} → Passed line front q → Follows line front (q >>= λ p. number p (drop p line))
after_is (passed c) = number_is c
after_is missed = uncounted

pub labelled-is : (word : List ℕ) {line front : List ℕ} {p : ℕ} → Upto line front p → Follows line (front ++ word) (labelled word p line)
unfolding labelled
labelled-is word c = after_is (past_is word c)

-- before the word that ends the line
closed_is : (word front : List ℕ) {line : List ℕ} {d : Option Decimal} → Follows line front d
    → Counted (λ n p. line ≡ front ++ decimal n ++ word) (d >>= λ n. cond (ends word n.next line) (Some n) None)
closed_is word front {line} (counted {p} h c) = choose (Counted _) (ends word p line) (λ e. counted h (ends_is word c e)) (λ e. uncounted)
closed_is word front uncounted = uncounted

pub last-is : (word : List ℕ) {line front : List ℕ} {p : ℕ} → Upto line front p → Counted (λ n q. line ≡ front ++ decimal n ++ word) (last word p line)
unfolding last
last-is word {front} c = closed_is word front (number_is c)
