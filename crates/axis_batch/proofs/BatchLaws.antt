-- A batch of the axis is the batch of its shaft. By induction on the readings, each as if read singly.
use Rattle.std.specs.Prelude.{◌≡◌, refl, List, [], ◌∷◌, ℕ, not, eqb, length, Option, None, Some, Result, Ok, Err}
use Rattle.std.proofs.Common.{sym, ap, ◌∙◌, lt-ltb}
use Rattle.std.specs.Int.{w64}
use mir.Val.{to_z, of_z}
use Rattle.integer.proofs.{reads}
use Rattle.ring.specs.{in_range}
use Rattle.encoder.specs.{InForce, Refusal, WrongBuffer, when, ◌before◌, answer}
use Rattle.encoder.proofs.{before-none, refused-by, value-is}
use Rattle.axis_shaft.specs.{Shaft, moved_to, move_refusal, refusal_in, after as shaft_after, positions_in}
use Rattle.axis_shaft.specs.{batch_refusal as shaft_batch_refusal, batched, batched_list}
use Rattle.axis_shaft.proofs.{inside_is, read-refusal}
use Rattle.axis.specs.{Axis, rules_on, axis_refusal, Ready, position_of, accepted, yielded, with_shaft, at_raw, read_raw}
use Rattle.axis.proofs.{Limits, limits_of, stands-none, offset-fits, at-raw-kept, singly}
use Rattle.axis_batch.specs.{first_refusal, after, positions_of, batch_refusal, batch_list}

-- ---- a single reading of an axis within its limits, by the refusal of its raw number
abbrev last_of : Axis → ℕ
last_of a = a.shaft.last.0

module _ (a : Axis) (l : Limits a) (raw : ℕ) where
  kept : move_refusal (rules_on a) (last_of a) raw ≡ None → Limits (at_raw a raw)
  kept e = at-raw-kept a l raw (read-refusal (rules_on a) a.shaft l.shaft raw ∙ e)

  -- what is in force stays the same
  rules-kept : rules_on (at_raw a raw) ≡ rules_on a
  unfolding rules_on at_raw
  rules-kept = refl

  last-moved : last_of (at_raw a raw) ≡ raw
  unfolding at_raw moved_to
  last-moved = refl

-- ---- the list, by its readings
first_step : (a : Axis) (raw : ℕ) (s : List ℕ) (l : Limits a) (n : Option Refusal) → move_refusal (rules_on a) (last_of a) raw ≡ n
    → (Limits (at_raw a raw) → first_refusal (at_raw a raw) s ≡ refusal_in (rules_on (at_raw a raw)) (last_of (at_raw a raw)) s)
    → first_refusal a (raw ∷ s) ≡ refusal_in (rules_on a) (last_of a) (raw ∷ s)
unfolding first_refusal refusal_in at_raw moved_to
first_step a raw s l None e rest =
    rw (singly a l raw None e, e) (rw (rules-kept a l raw, last-moved a l raw) at (rest (kept a l raw e)))
first_step a raw s l (Some n) e rest = rw (singly a l raw (Some n) e, e)

pub first-is : (a : Axis) (s : List ℕ) → Limits a → first_refusal a s ≡ refusal_in (rules_on a) (last_of a) s
unfolding first_refusal refusal_in
first-is a [] l = refl
first-is a (raw ∷ s) l = first_step a raw s l (move_refusal (rules_on a) (last_of a) raw) refl (first-is (at_raw a raw) s)

-- where none is refused
module _ (a : Axis) (raw : ℕ) (s : List ℕ) (l : Limits a) (none : refusal_in (rules_on a) (last_of a) (raw ∷ s) ≡ None) where
  both : (move_refusal (rules_on a) (last_of a) raw ≡ None) × (refusal_in (rules_on a) raw s ≡ None)
  unfolding refusal_in
  both = before-none _ (refusal_in (rules_on a) raw s) none

  none-later : refusal_in (rules_on (at_raw a raw)) (last_of (at_raw a raw)) s ≡ None
  none-later = rw (rules-kept a l raw, last-moved a l raw) both.1

  read_here : read_raw a raw ≡ accepted (at_raw a raw)
  read_here = singly a l raw None both.0

  kept_here : Limits (at_raw a raw)
  kept_here = kept a l raw both.0

after_is : (a : Axis) (s : List ℕ) → Limits a → refusal_in (rules_on a) (last_of a) s ≡ None → after a s ≡ with_shaft a (shaft_after (rules_on a) a.shaft s)
unfolding after shaft_after at_raw rules_on
after_is a [] l none = refl
after_is a (raw ∷ s) l none = rw (read_here a raw s l none) (after_is (at_raw a raw) s (kept_here a raw s l none) (none-later a raw s l none))

positions-is : (a : Axis) (s : List ℕ) → Limits a → refusal_in (rules_on a) (last_of a) s ≡ None
    → positions_of a s ≡ positions_in (rules_on a) a.offset a.shaft s
unfolding positions_of positions_in position_of at_raw rules_on
positions-is a [] l none = refl
positions-is a (raw ∷ s) l none =
    rw (read_here a raw s l none)
    (ap (λ (ps : List ℕ). position_of (at_raw a raw) ∷ ps) (positions-is (at_raw a raw) s (kept_here a raw s l none) (none-later a raw s l none)))

-- ---- the answer of the axis, by the answer of the shaft
module _ (a : Axis) (f : InForce) (r : Ready a f) (s out : List ℕ) where
  limits-here : Limits a
  limits-here = limits_of a r.stands

  refusal_is : shaft_batch_refusal f a.shaft a.offset s (length out) ≡ batch_refusal a s out
  unfolding shaft_batch_refusal batch_refusal in_range
  refusal_is = rw (stands-none a f r, inside_is f a.shaft r.shaft, lt-ltb _ _ r.offset, first-is a s limits-here, ← r.is)

  none_in : batch_refusal a s out ≡ None → refusal_in (rules_on a) (last_of a) s ≡ None
  unfolding batch_refusal
  none_in e =
      let l = when (not (eqb (length s) (length out))) WrongBuffer in
      let h = (before-none (axis_refusal a) (l before first_refusal a s) e).1 in
      sym (first-is a s limits-here) ∙ (before-none l (first_refusal a s) h).1

  list-by : (n : Option Refusal) → batch_refusal a s out ≡ n
      → answer (λ (m : Refusal). out) (positions_in f a.offset a.shaft s) n ≡ answer (λ (m : Refusal). out) (positions_of a s) n
  list-by None e = rw r.is (sym (positions-is a s limits-here (none_in e)))
  list-by (Some m) e = refl

  pub batch-list : (x : List ℕ) → x ≡ batched_list f a.shaft (to_z w64 (of_z w64 a.offset)) s out → x ≡ batch_list a s out
  unfolding batched_list batch_list
  batch-list x x-is = (rw (reads (offset-fits a f r), refusal_is) at x-is) ∙ list-by (batch_refusal a s out) refl

  pub batch-to : (k : Shaft) → Ok k ≡ batched f a.shaft (to_z w64 (of_z w64 a.offset)) s out → Ok (with_shaft a k) ≡ yielded (batch_refusal a s out) (after a s)
  unfolding batched
  batch-to k m-is =
      let i = value-is (shaft_after f a.shaft s) (batch_refusal a s out) k (rw (reads (offset-fits a f r), refusal_is) at m-is) in
      rw (i.0, i.1, r.is) (ap Ok (sym (after_is a s limits-here (none_in i.0))))

  pub batch-no : (n : Refusal) (x : Result Axis Refusal) → Err n ≡ batched f a.shaft (to_z w64 (of_z w64 a.offset)) s out → x ≡ Err n
      → x ≡ yielded (batch_refusal a s out) (after a s)
  unfolding batched
  batch-no n x m-is x-is =
      x-is ∙ rw (refused-by (shaft_after f a.shaft s) (batch_refusal a s out) n (rw (reads (offset-fits a f r), refusal_is) at m-is))
