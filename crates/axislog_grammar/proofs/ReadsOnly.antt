-- A line that is read as a form is that form as written. The law of a form chains the laws of its readers.
use Rattle.std.specs.Prelude.{◌≡◌, List, [], ◌++◌, Bool, true, false, cond, ℕ, zero, suc, ◌≤◌, eqb, pos, negsuc, ◌-ℤ◌, Option, Some, None}
use Rattle.std.proofs.lemmas.Option.{none-some, same_Some}
use Rattle.std.proofs.Common.{subst, ◌∙◌, append_assoc, append-nil, arith}
use Rattle.std.proofs.Common.{ne_eqb}
use Rattle.std.proofs.Math.IntN.{+ℤ_idl}
use Rattle.integer.specs.{ascii}
use Rattle.axislog_lexer.specs.{Decimal, ◌>>=◌, ends}
use Rattle.axislog_forms.specs.{Form, Preset, from, read, preset, scale, sequence, axis, form}
use Rattle.axislog_answers.specs.{decimal}
use Rattle.axislog_grammar.specs.{turning, written, Writable}
use Rattle.axislog_grammar.proofs.Decimals.{choose}
use Rattle.axislog_grammar.proofs.Found.{Upto, start, Passed, passed, missed, past_is, ends_is, Counted, counted, uncounted, labelled-is, last-is}

data Spelt (line : List ℕ) : Option Form → Type 0 where
  spelt : {f : Form} → Writable f → line ≡ written f → Spelt line (Some f)
  formless : Spelt line None

from_is : {line front : List ℕ} {q : Option ℕ} {then : ℕ → Option Form} {other : Option Form} → Passed line front q → ((p : ℕ) → Upto line front p → Spelt line (then p))
    → Spelt line other → Spelt line (from q then other)
from_is (passed {p} c) f o = f p c
from_is missed f o = o

past-then : {line front : List ℕ} {q : Option ℕ} {then : ℕ → Option Form} → Passed line front q → ((p : ℕ) → Upto line front p → Spelt line (then p))
    → Spelt line (q >>= then)
past-then (passed {p} c) f = f p c
past-then missed f = formless

with-is : {line : List ℕ} {P : ℕ → ℕ → Type 0} {d : Option Decimal} {then : Decimal → Option Form} → Counted P d
    → ((n : Decimal) → n.value ≤ 4294967295 → P n.value n.next → Spelt line (then n)) → Spelt line (d >>= then)
with-is (counted {n} {p} h c) f = f (record { value = n; next = p }) h c
with-is uncounted f = formless

read_is : {line : List ℕ} {p : ℕ} → Upto line (ascii "(read ") p → Spelt line (read p line)
unfolding read written
read_is c = with-is (last-is (ascii ")") c) (λ n. spelt)

minus_is : {line : List ℕ} (n : ℕ) → n ≤ 4294967295 → line ≡ ascii "(preset -" ++ decimal n ++ ascii ")"
    → Spelt line (cond (eqb n 0) None (Some (Preset (pos 0 -ℤ pos n))))
unfolding written
minus_is zero h e = formless
minus_is (suc n) h e = rw (ne_eqb (suc n) 0 (omega arith), +ℤ_idl (negsuc n)) (spelt h e)

preset-is : {line : List ℕ} {p : ℕ} → Upto line (ascii "(preset ") p → Spelt line (preset p line)
unfolding preset written
preset-is c =
    from_is (past_is (ascii "-") c)
    (λ q d. with-is (last-is (ascii ")") d) (λ n. minus_is n.value))
    (with-is (last-is (ascii ")") c) (λ n. spelt))

-- an axis form's last words, grouped as they are read and as they are written
no-scale : (front turn : List ℕ) → front ++ (turn ++ ascii ")") ++ ascii ")" ≡ front ++ turn ++ ascii ")" ++ [] ++ ascii ")"
no-scale front turn = simp (append_assoc, append-nil)

with-scale : (front turn units range : List ℕ)
    → front ++ (turn ++ ascii ")") ++ ascii " (scale " ++ units ++ ascii " " ++ range ++ ascii "))"
    ≡ front ++ turn ++ ascii ")" ++ (ascii " (scale " ++ units ++ ascii " " ++ range ++ ascii ")") ++ ascii ")"
with-scale front turn units range = simp append_assoc

-- an axis form up to its turns
abbrev lead : ℕ → ℕ → List ℕ
lead steps turns = ascii "(axis (steps " ++ decimal steps ++ ascii ") (turns " ++ decimal turns

module _ {line : List ℕ} (steps turns : ℕ) (s : steps ≤ 4294967295) (t : turns ≤ 4294967295) where
  scale-is : (reversed : Bool) {p : ℕ} → Upto line (lead steps turns ++ ascii ") (sequence " ++ (turning reversed ++ ascii ")")) p
      → Spelt line (scale p line steps turns reversed)
  unfolding scale written
  scale-is reversed {p} c =
      let front = lead steps turns ++ ascii ") (sequence " in
      choose (Spelt line) (ends (ascii ")") p line)
      (λ e. spelt (omega arith) (ends_is (ascii ")") c e ∙ no-scale front (turning reversed)))
      (λ e. with-is (labelled-is (ascii " (scale ") c) (λ units u d.
      past-then (past_is (ascii " ") d) (λ r f.
      with-is (last-is (ascii "))") f) (λ range v g.
      spelt (omega arith) (g ∙ with-scale front (turning reversed) (decimal units.value) (decimal range.value))))))

  sequence-is : {p : ℕ} → Upto line (lead steps turns) p → Spelt line (sequence p line steps turns)
  unfolding sequence
  sequence-is c =
      past-then (past_is (ascii ") (sequence ") c) (λ q d.
      from_is (past_is (ascii "cw)") d) (λ r. scale-is false)
      (past-then (past_is (ascii "ccw)") d) (λ r. scale-is true)))

axis-is : (line : List ℕ) → Spelt line (axis line)
unfolding axis
axis-is line =
    with-is (labelled-is (ascii "(axis (steps ") (start line)) (λ steps s c.
    with-is (labelled-is (ascii ") (turns ") c) (λ turns t.
    sequence-is steps.value turns.value s t))

form-is : (line : List ℕ) → Spelt line (form line)
unfolding form
form-is line =
    from_is (past_is (ascii "(read ") (start line)) (λ p. read_is)
    (from_is (past_is (ascii "(preset ") (start line)) (λ p. preset-is)
    (axis-is line))

pub reads_only : (line : List ℕ) (f : Form) → form line ≡ Some f → Writable f × (line ≡ written f)
reads_only line f = only (form-is line)
  where
    only : {o : Option Form} → Spelt line o → o ≡ Some f → Writable f × (line ≡ written f)
    only (spelt {f = g} w e) i = subst (λ (h : Form). Writable h × (line ≡ written h)) (same_Some g f i) (w, e)
    only formless i = absurd (none-some f i)
