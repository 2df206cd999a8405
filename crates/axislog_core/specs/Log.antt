-- The answers to a log, one a line (document 01, "The program axislog").
use Rattle.std.specs.Prelude.{ℕ, List, [], ◌∷◌, ◌++◌, cond, not, eqb, ltb, length, Option, Result, Ok, Err}
use Rattle.std.specs.List.{position_or_len}
use Rattle.integer.specs.{over}
use Rattle.encoder.specs.{Refusal, NoForm, WrongBuffer, when, ◌before◌, answer}
use Rattle.axislog_forms.specs.{form}
use Rattle.axislog_answers.specs.{text}
use Rattle.axislog_state.specs.{State, empty, reply}

-- an octet in front of the first line; where there is none yet, it is a line
abbrev pub joined : ℕ → List (List ℕ) → List (List ℕ)
joined x [] = (x ∷ []) ∷ []
joined x (l ∷ ls) = (x ∷ l) ∷ ls

-- the lines of a text: each ends at a newline, the last one perhaps at the end of the text
unfoldable pub lines : List ℕ → List (List ℕ)
lines [] = []
lines (x ∷ xs) = cond (eqb x 10) ([] ∷ lines xs) (joined x (lines xs))

-- the octets of the first line of a text, without its newline
abbrev pub line_length : List ℕ → ℕ
line_length text = position_or_len (λ x. eqb x 10) text

-- the answers to lines, from a state on
unfoldable pub answers_from : State → List (List ℕ) → List ℕ
answers_from s [] = []
answers_from s (l ∷ ls) = text (reply s (form l)).answer ++ answers_from (reply s (form l)).state ls

-- the answers to all
unfoldable pub answers : List ℕ → List ℕ
answers input = answers_from empty (lines input)

-- by the octets of the input and of the lent buffer: 15, input above 60,000; then 13, not 780,000 lent, 13 for each octet of input
abbrev pub call_refusal : ℕ → ℕ → Option Refusal
call_refusal input output = when (ltb 60000 input) NoForm before when (not (eqb output 780000)) WrongBuffer

-- how many octets the answers have, or the refusal
unfoldable pub outcome : List ℕ → List ℕ → Result ℕ Refusal
outcome input output = answer Err (Ok (length (answers input))) (call_refusal (length input) (length output))

-- the buffer then: the answers at its start, and what was behind them; refused, it is kept
unfoldable pub written : List ℕ → List ℕ → List ℕ
written input output = answer (λ _. output) (over (answers input) output) (call_refusal (length input) (length output))
