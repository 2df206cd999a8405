-- The buffer always suffices: no line has more than thirteen octets of answer for each octet that it costs.
use Rattle.std.specs.Prelude.{◌≡◌, refl, List, [], ◌∷◌, Bool, true, false, cond, ℕ, suc, ◌+◌, ◌*◌, ◌-◌, ◌≤◌, eqb, length, None}
use Rattle.std.proofs.Common.{arith, length-append}
use Rattle.axislog_forms.specs.{form}
use Rattle.axislog_forms.proofs.{form-empty, form-one}
use Rattle.axislog_answers.specs.{Answer, Ready, At, Refused, decimal_below, decimal, text, number_form}
use Rattle.axislog_answers.proofs.{decimal-long}
use Rattle.axislog_state.specs.{State, empty, reply}
use Rattle.axislog_core.specs.{joined, lines, answers_from, answers}

-- ---- a line
text-long : (a : Answer) → length (text a) ≤ 21
unfolding text number_form
text-long Ready = omega arith
text-long (At n) = rw (length-append, length-append) (omega (arith, decimal-long n))
text-long (Refused n) = rw (length-append, length-append) (omega (arith, decimal-long n))

none-long : (s : State) → length (text (reply s None).answer) ≡ 13
unfolding reply text number_form decimal decimal_below
none-long s = refl

-- what a line costs at least: an octet of it, or its newline
abbrev cost : List ℕ → ℕ
cost l = 1 + (length l - 1)

line-room : (s : State) (l : List ℕ) → length (text (reply s (form l)).answer) ≤ 13 * cost l
line-room s [] = rw form-empty (omega (arith, none-long s))
line-room s (x ∷ []) = rw (form-one x) (omega (arith, none-long s))
line-room s (x ∷ y ∷ l) = omega (arith, text-long (reply s (form (x ∷ y ∷ l))).answer)

-- ---- all lines
costs : List (List ℕ) → ℕ
costs [] = 0
costs (l ∷ ls) = cost l + costs ls

costs-joined : (x : ℕ) (ls : List (List ℕ)) → costs (joined x ls) ≤ 1 + costs ls
unfolding costs
costs-joined x [] = omega arith
costs-joined x (l ∷ ls) = omega arith

costs-lines : (t : List ℕ) → costs (lines t) ≤ length t
unfolding lines costs
costs-lines [] = omega arith
costs-lines (x ∷ xs) = go (eqb x 10) (costs-lines xs)
  where
    go : (b : Bool) → costs (lines xs) ≤ length xs → costs (cond b ([] ∷ lines xs) (joined x (lines xs))) ≤ suc (length xs)
    go true h = omega arith
    go false h = omega (arith, costs-joined x (lines xs))

from-room : (s : State) (ls : List (List ℕ)) → length (answers_from s ls) ≤ 13 * costs ls
unfolding answers_from costs
from-room s [] = omega arith
from-room s (l ∷ ls) = rw length-append (omega (arith, line-room s l, from-room (reply s (form l)).state ls))

-- ---- THE BUFFER: 780,000 octets hold the answers to every input that is answered
pub answers-room : (input : List ℕ) → length input ≤ 60000 → length (answers input) ≤ 780000
unfolding answers
answers-room input h = omega (arith, from-room empty (lines input), costs-lines input)
