-- The sign of life: the failure counter and the expected value after a cycle, by the tests of the code.
use Rattle.std.specs.Prelude.{◌≡◌, refl, Bool, true, false, cond, not, ◌&&◌, ◌||◌, ℕ, ◌+◌, ◌-◌, ◌%◌, min, eqb}
use Rattle.std.proofs.Common.{◌∙◌, true≢false, eq-eqb, ne_eqb, add-one}
use Rattle.std.proofs.lemmas.Bool.{false≢true}
use Rattle.cyclic_link.specs.{Life, Link, counter, expected, following, counting, heard}

module _ (stop : ℕ) (k : Link) (v : ℕ) where
  pub counter-before : k.expected ≡ 0 → k.counter ≡ counter stop k v
  unfolding counter
  counter-before e = rw e

  module _ (on : k.expected ≡ 0 → ⊥) where
    pub counter-wrong : (r : ℕ) → (v ≡ k.expected → ⊥) → r ≡ min (k.counter + 10) stop → r ≡ counter stop k v
    unfolding counter
    counter-wrong r wrong r-is = r-is ∙ rw (ne_eqb k.expected 0 on, ne_eqb v k.expected wrong)

    pub counter-right : v ≡ k.expected → k.counter - 1 ≡ counter stop k v
    unfolding counter
    counter-right right = rw (ne_eqb k.expected 0 on, eq-eqb v k.expected right)

    pub counter-least : v ≡ k.expected → k.counter ≡ 0 → 0 ≡ counter stop k v
    counter-least right none = rw (← counter-right right, none)

module _ (k : Link) (v : ℕ) where
  pub expected-none : (eqb k.expected 0 && eqb v 0) ≡ true → 0 ≡ expected k v
  unfolding expected
  expected-none e = by (eqb k.expected 0) (eqb v 0) e
    where
      by : (a b : Bool) → (a && b) ≡ true → 0 ≡ cond (not a || not b) (following v) 0
      by true true e = refl
      by true false e = absurd (false≢true e)
      by false b e = absurd (false≢true e)

  pub expected-some : (eqb k.expected 0 && eqb v 0) ≡ false → v % 15 + 1 ≡ expected k v
  unfolding expected
  expected-some e = by (eqb k.expected 0) (eqb v 0) e
    where
      by : (a b : Bool) → (a && b) ≡ false → v % 15 + 1 ≡ cond (not a || not b) (following v) 0
      by true true e = absurd (true≢false e)
      by true false e = add-one (v % 15)
      by false b e = add-one (v % 15)

-- ---- the link, by whether there is a sign of life
module _ (w : Life) (k : Link) (v : ℕ) where
  pub heard-on : w.on ≡ true → heard w k v ≡ counting k (counter w.stop k v) (expected k v)
  heard-on e = rw e

  pub heard-off : w.on ≡ false → heard w k v ≡ k
  heard-off e = rw e

  -- nothing else of the link is touched: the error, and what presets ask for
  same_by : {A : Type 0} (part : Link → A) → part (counting k (counter w.stop k v) (expected k v)) ≡ part k → part (heard w k v) ≡ part k
  same_by part e = by w.on
    where
      by : (on : Bool) → part (cond on (counting k (counter w.stop k v) (expected k v)) k) ≡ part k
      by true = e
      by false = refl

  pub heard-error : ((heard w k v).error ≡ k.error) × ((heard w k v).acknowledged ≡ k.acknowledged) × ((heard w k v).code ≡ k.code)
  heard-error = (same_by (λ (j : Link). j.error) refl, same_by (λ (j : Link). j.acknowledged) refl, same_by (λ (j : Link). j.code) refl)

  pub heard-requested : (heard w k v).requested ≡ k.requested
  heard-requested = same_by (λ (j : Link). j.requested) refl

  pub heard-due : (heard w k v).due ≡ k.due
  heard-due = same_by (λ (j : Link). j.due) refl

pub ruleset counts = (counter-before, counter-wrong, counter-right, counter-least, expected-none, expected-some)
