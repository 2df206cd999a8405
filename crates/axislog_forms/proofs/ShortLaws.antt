-- A line of no octet or of one is no form: each form begins with a word of more.
use Rattle.std.specs.Prelude.{◌≡◌, refl, [], ◌∷◌, ℕ, None}
use Rattle.axislog_lexer.specs.{past, labelled}
use Rattle.axislog_lexer.proofs.{past_one}
use Rattle.axislog_forms.specs.{axis, form}

pub form-empty : form [] ≡ None
unfolding form axis labelled past
form-empty = refl

pub form-one : (x : ℕ) → form (x ∷ []) ≡ None
unfolding form axis labelled
form-one x = simp (past_one x)
