-- A batch from its start on: the first refusal of plate, length, start and batch is the answer.
use Rattle.std.specs.Prelude.{◌≡◌, refl, List, ℕ, length, Option, None, Some}
use Rattle.std.proofs.Common.{◌∙◌}
use Rattle.encoder.specs.{Nameplate, Parameters, Refusal, answer, coded, buffer_refusal}
use Rattle.encoder.proofs.{buffer-later, buffer-refused}
use Rattle.axis.specs.{Axis, Next, next, start_raw}
use Rattle.axis_batch.specs.{after, positions_of, batch_refusal, batch, batch_list}
use Rattle.exports.specs.{run_refusal, ran}

-- a refused batch keeps its list, so that the refusal decides on the list
list-by : (a : Axis) (raws out : List ℕ) → batch_list a raws out ≡ answer (λ (_ : Refusal). out) (batch_list a raws out) (batch a raws out).refusal
unfolding batch batch_list
list-by a raws out = go (batch_refusal a raws out)
  where
    go : (k : Option Refusal) → let list = answer (λ (_ : Refusal). out) (positions_of a raws) k in list ≡ answer (λ (_ : Refusal). out) list (next a k (after a raws)).refusal
    go None = refl
    go (Some r) = refl

-- nameplate and length refuse, or the start s, or the batch x on the started axis
module _ (n : Nameplate) (p : Parameters) (first : ℕ) (raws out : List ℕ) where
  pub run-refused : (r : Refusal) → buffer_refusal n (length raws) (length out) None ≡ Some r → run_refusal n p first raws out ≡ Some r
  unfolding run_refusal
  run-refused r e = rw (buffer-refused n (length raws) (length out) r (start_raw n p first).refusal e)

  module _ (s : Next) (s-is : s ≡ start_raw n p first) (e : buffer_refusal n (length raws) (length out) None ≡ None) where
    pub run-unstarted : (r : Refusal) → s.refusal ≡ Some r → run_refusal n p first raws out ≡ Some r
    unfolding run_refusal
    run-unstarted r h = rw (buffer-later n (length raws) (length out) (start_raw n p first).refusal e, ← s-is, h)

    module _ (none : s.refusal ≡ None) where
      pub run-batch : (x : Next) → x ≡ batch s.axis raws out → run_refusal n p first raws out ≡ x.refusal
      unfolding run_refusal
      run-batch x x-is = rw (buffer-later n (length raws) (length out) (start_raw n p first).refusal e, ← s-is, none, ← x-is)

      pub run-list : (l : List ℕ) → l ≡ batch_list s.axis raws out → l ≡ ran n p first raws out
      unfolding ran
      run-list l l-is = l-is ∙ rw (run-batch (batch s.axis raws out) refl, ← s-is) (list-by s.axis raws out)

-- ---- the same, of the plate and the parameters that the numbers stand for
module _ (n m : Nameplate) (p q : Parameters) (first : ℕ) (raws out : List ℕ) where
  pub run-code-by : (r : ℕ) → r ≡ coded (run_refusal n p first raws out) → n ≡ m → p ≡ q → r ≡ coded (run_refusal m q first raws out)
  run-code-by r r-is n-is p-is = rw (← n-is, ← p-is) r-is

  pub run-list-by : (l : List ℕ) → l ≡ ran n p first raws out → n ≡ m → p ≡ q → l ≡ ran m q first raws out
  run-list-by l l-is n-is p-is = rw (← n-is, ← p-is) l-is

pub ruleset naming = (run-code-by, run-list-by)
