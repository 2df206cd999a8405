-- The forms of a line (document 01, "The program axislog"), as they are found in it from left to right. How each is written stands in
-- crates/axislog_grammar/specs/Grammar.antt, where it is proved that just these lines are forms.
use Rattle.std.specs.Prelude.{◌-ℤ◌}
use Rattle.std.specs.Prelude.{ℕ, List, Bool, true, false, cond, eqb, pos, drop, Option, Some, None}
use Rattle.integer.specs.{ascii}
use Rattle.axislog_lexer.specs.{◌>>=◌, past, ends, labelled, last}
use Rattle.axislog_forms.specs.declared.Form.{Form}
use Rattle.axislog_forms.specs.declared.Form.TheVariants.{Axis, Read, Preset}

-- after a word the form continues at the position behind it; without the word it is another
abbrev pub from : Option ℕ → (ℕ → Option Form) → Option Form → Option Form
from (Some p) then other = then p
from None then other = other

-- (read 28), from the number on
unfoldable pub read : ℕ → List ℕ → Option Form
read p line = do
  raw ← last (ascii ")") p line
  Some (Read raw.value)

-- (preset 5) and (preset -5), from the number on; -0 is no form
unfoldable pub preset : ℕ → List ℕ → Option Form
preset p line =
    from (past (ascii "-") p (drop p line))
    (λ q. last (ascii ")") q line >>= λ n. cond (eqb n.value 0) None (Some (Preset (pos 0 -ℤ pos n.value))))
    (last (ascii ")") p line >>= λ n. Some (Preset (pos n.value)))

-- the scale form of an axis form
abbrev pub scaled : ℕ → List ℕ → ℕ → ℕ → Bool → Option Form
scaled p line steps turns reversed = do
  units ← labelled (ascii " (scale ") p line
  q ← past (ascii " ") units.next (drop units.next line)
  range ← last (ascii "))") q line
  Some (Axis (record { steps = steps; turns = turns; reversed = reversed; scaling = true; units = units.value; range = range.value }))

-- an axis form's last part: the scale form, or without one the bracket that closes
unfoldable pub scale : ℕ → List ℕ → ℕ → ℕ → Bool → Option Form
scale p line steps turns reversed =
    cond (ends (ascii ")") p line)
    (Some (Axis (record { steps = steps; turns = turns; reversed = reversed; scaling = false; units = 0; range = 0 })))
    (scaled p line steps turns reversed)

-- the code sequence, cw or ccw
unfoldable pub sequence : ℕ → List ℕ → ℕ → ℕ → Option Form
sequence p line steps turns = do
  q ← past (ascii ") (sequence ") p (drop p line)
  from (past (ascii "cw)") q (drop q line)) (λ r. scale r line steps turns false)
      (past (ascii "ccw)") q (drop q line) >>= λ r. scale r line steps turns true)

-- (axis (steps 10) (turns 3) (sequence cw) (scale 3 7))
unfoldable pub axis : List ℕ → Option Form
axis line = do
  steps ← labelled (ascii "(axis (steps ") 0 line
  turns ← labelled (ascii ") (turns ") steps.next line
  sequence turns.next line steps.value turns.value

unfoldable pub form : List ℕ → Option Form
form line =
    from (past (ascii "(read ") 0 line) (λ p. read p line)
    (from (past (ascii "(preset ") 0 line) (λ p. preset p line)
    (axis line))
