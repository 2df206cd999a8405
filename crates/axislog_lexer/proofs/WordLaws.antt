-- A word at a position of a line: the definition goes octet by octet, and the code compares whole texts.
use Rattle.std.specs.Prelude.{◌≡◌, refl, List, [], ◌∷◌, Bool, true, false, cond, ℕ, ◌+◌, eqb, length, drop, Option, Some, None, unwrap_or}
use Rattle.std.specs.List.{starts_with}
use Rattle.std.specs.Slice.{IsGetRangeResult}
use denote.Ref.{Bor}
use mathlib.Core.Logic.{inl, inr}
use Rattle.std.proofs.Common.{sym, ap, ◌∙◌, arith, eq-eqb, ne_eqb, eqb-true, drop_of_length-le, take_all, length-drop}
use Rattle.std.proofs.lemmas.Bool.{eqb-false}
use Rattle.axislog_lexer.specs.{past}

past-is : (word text : List ℕ) (p : ℕ) → past word p text ≡ cond (starts_with eqb text word) (Some (p + length word)) None
unfolding past
past-is [] text p = ap Some (omega arith)
past-is (w ∷ ws) [] p = refl
past-is (w ∷ ws) (x ∷ xs) p = go (eqb x w) refl (past-is ws xs (p + 1))
  where
    go : (b : Bool) → eqb x w ≡ b → past ws (p + 1) xs ≡ cond (starts_with eqb xs ws) (Some (p + 1 + length ws)) None
        → cond b (past ws (p + 1) xs) None ≡ cond (starts_with eqb (x ∷ xs) (w ∷ ws)) (Some (p + length (w ∷ ws))) None
    go true e i =
        let q : p + 1 + length ws ≡ p + length (w ∷ ws) = omega arith in
        rw (eq-eqb w x (sym (eqb-true x w e)), ← q) i
    go false e i = rw (ne_eqb w x (λ d. eqb-false x w e (sym d)))

-- the text from a position on; past the end of the line it is empty
pub rest-is : (line : List ℕ) (p : ℕ) (r : Option (Bor (List ℕ))) (none : Bor (List ℕ)) → IsGetRangeResult line p (length line) r → none.now ≡ []
    → (unwrap_or r none).now ≡ drop p line
rest-is line p None none h e = e ∙ sym (drop_of_length-le line (elim h.0 [ inl l ↦ omega arith | inr l ↦ absurd (omega arith) ]))
rest-is line p (Some x) none h e = h.0.2 ∙ take_all _ _ (omega (arith, length-drop p line))

module _ (word text : List ℕ) (p : ℕ) (b : Bool) (e : b ≡ starts_with eqb text word) where
  pub past-some : b ≡ true → Some (p + length word) ≡ past word p text
  past-some t = sym (past-is word text p ∙ rw (← e, t))

  pub past_none : b ≡ false → None ≡ past word p text
  past_none t = sym (past-is word text p ∙ rw (← e, t))

-- a text of one octet does not begin with a word of more
pub past_one : (x v w p : ℕ) (word : List ℕ) → past (v ∷ w ∷ word) p (x ∷ []) ≡ None
unfolding past
past_one x v w p word = go (eqb x v)
  where
    go : (b : Bool) → ◌≡◌ {A = Option ℕ} (cond b None None) None
    go true = refl
    go false = refl

pub ruleset words = (past-some, past_none)
