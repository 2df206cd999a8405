-- The general laws of refusals: an answer or a kept buffer by its refusal, and what no refusal tells of the tests. By the cases of the refusal.
use Rattle.std.specs.Prelude.{◌≡◌, refl, Bool, true, false, not, Option, Some, None, Result, Ok, Err}
use Rattle.std.proofs.Common.{sym, ◌∙◌, arith}
use Rattle.std.proofs.lemmas.Bool.{not-false}
use Rattle.encoder.specs.{Refusal, number, when, ◌before◌, answer, coded}

-- ---- from what a call has answered back to its refusal n
module _ {A : Type 0} (taken : A) (n : Option Refusal) where
  pub value-is : (y : A) → Ok y ≡ answer Err (Ok taken) n → (n ≡ None) × (y ≡ taken)
  value-is y = go n
    where
      go : (k : Option Refusal) → Ok y ≡ answer Err (Ok taken) k → (k ≡ None) × (y ≡ taken)
      go None e = (refl, cc)
      go (Some r) e = cc

  pub unrefused : (y : A) → Ok y ≡ answer Err (Ok taken) n → n ≡ None
  unrefused y e = (value-is y e).0

  pub refused-by : (r : Refusal) → Err r ≡ answer Err (Ok taken) n → n ≡ Some r
  refused-by r = go n
    where
      go : (k : Option Refusal) → Err r ≡ answer Err (Ok taken) k → k ≡ Some r
      go None e = cc
      go (Some s) e = cc

  -- the same of an answer x that is told in two steps
  module _ (x : Result A Refusal) where
    pub passed : (y : A) → x ≡ Ok y → x ≡ answer Err (Ok taken) n → (n ≡ None) × (y ≡ taken)
    passed y is x-is = value-is y (sym is ∙ x-is)

    pub failed : (r : Refusal) → x ≡ Err r → x ≡ answer Err (Ok taken) n → n ≡ Some r
    failed r is x-is = refused-by r (sym is ∙ x-is)

-- ---- what a call answers or leaves in a lent buffer, x, by its refusal n
module _ {A : Type 0} (refused : Refusal → A) (taken x : A) (n : Option Refusal) where
  pub answer-no : (r : Refusal) → n ≡ Some r → x ≡ refused r → x ≡ answer refused taken n
  answer-no r n-is x-is = x-is ∙ rw n-is

  pub answer-yes : n ≡ None → x ≡ taken → x ≡ answer refused taken n
  answer-yes none x-is = x-is ∙ rw none

  -- n decides, or the refusals behind it
  module _ (later : Option Refusal) where
    pub first-no : (r : Refusal) → n ≡ Some r → x ≡ refused r → x ≡ answer refused taken (n before later)
    first-no r n-is x-is = x-is ∙ rw n-is

    pub first-yes : n ≡ None → x ≡ answer refused taken later → x ≡ answer refused taken (n before later)
    first-yes none x-is = x-is ∙ rw none

pub ruleset exits = (unrefused, refused-by, answer-no, answer-yes)

pub ruleset stepwise = (unrefused, refused-by, first-no, first-yes)

-- ---- the first of two refusals
pub before-none : (n m : Option Refusal) → (n before m) ≡ None → (n ≡ None) × (m ≡ None)
before-none None m e = (refl, e)
before-none (Some r) m e = cc

pub before-assoc : (n m k : Option Refusal) → ((n before m) before k) ≡ (n before m before k)
before-assoc None m k = refl
before-assoc (Some r) m k = refl

-- a refusal that came first does not come again
pub before-again : (n k : Option Refusal) (f : Option Refusal → Option Refusal) → (n before f (n before k)) ≡ (n before f k)
before-again None k f = refl
before-again (Some r) k f = refl

-- ---- a test that gives no refusal
pub when-not : (b : Bool) (r : Refusal) → when b r ≡ None → b ≡ false
when-not true r e = cc
when-not false r e = refl

pub when-none : (b : Bool) (r : Refusal) → when (not b) r ≡ None → b ≡ true
when-none b r e = not-false b (when-not (not b) r e)

-- ---- no refusal has the number 0
number-some : (r : Refusal) → number r ≡ 0 → ⊥
number-some r e = grind arith

pub coded-none : (n : Option Refusal) → coded n ≡ 0 → n ≡ None
coded-none None e = refl
coded-none (Some r) e = absurd (number-some r e)
