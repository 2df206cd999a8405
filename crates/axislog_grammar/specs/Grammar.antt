-- How each form is written (document 01, "The program axislog"): one nested bracket form a line, single spaces, decimal without leading zeros, at
-- most 4294967295 in size; inner forms in the order shown; the scale form may be missing.
use Rattle.std.specs.Prelude.{◌≡◌, ◌++◌, ◌≤◌}
use Rattle.std.specs.Prelude.{Bool, true, false, List, [], ℕ, suc, ℤ, pos, negsuc, nat_abs, Some}
use Rattle.integer.specs.{ascii}
use Rattle.axislog_forms.specs.{Setup, Form, Axis, Read, Preset, form}
use Rattle.axislog_answers.specs.{decimal}

-- a preset's value, with its sign
abbrev pub signed : ℤ → List ℕ
signed (pos n) = decimal n
signed (negsuc n) = ascii "-" ++ decimal (suc n)

-- the code sequence
abbrev pub turning : Bool → List ℕ
turning true = ascii "ccw"
turning false = ascii "cw"

-- the scale form, or nothing
abbrev pub scaling : Bool → Setup → List ℕ
scaling true s = ascii " (scale " ++ decimal s.units ++ ascii " " ++ decimal s.range ++ ascii ")"
scaling false s = []

unfoldable pub written : Form → List ℕ
written (Read raw) = ascii "(read " ++ decimal raw ++ ascii ")"
written (Preset v) = ascii "(preset " ++ signed v ++ ascii ")"
written (Axis s) =
    ascii "(axis (steps "
    ++ decimal s.steps
    ++ ascii ") (turns "
    ++ decimal s.turns
    ++ ascii ") (sequence "
    ++ turning s.reversed
    ++ ascii ")"
    ++ scaling s.scaling s
    ++ ascii ")"

-- a form with numbers of at most 4294967295; without a scale form both its numbers are 0
abbrev pub unscaled : Bool → Setup → Type 0
unscaled true s = Unit
unscaled false s = (s.units ≡ 0) × (s.range ≡ 0)

pub record Sized (s : Setup) : Type 0 where
  pub steps : s.steps ≤ 4294967295
  pub turns : s.turns ≤ 4294967295
  pub units : s.units ≤ 4294967295
  pub range : s.range ≤ 4294967295
  pub unscaled : unscaled s.scaling s

abbrev pub Writable : Form → Type 0
Writable (Read raw) = raw ≤ 4294967295
Writable (Preset v) = nat_abs v ≤ 4294967295
Writable (Axis s) = Sized s

-- THE CLAIM: a line is read as a form just if it is the form as written
pub record Exact : Type 0 where
  pub back : (f : Form) → Writable f → form (written f) ≡ Some f
  pub only : (line : List ℕ) (f : Form) → form line ≡ Some f → Writable f × (line ≡ written f)
