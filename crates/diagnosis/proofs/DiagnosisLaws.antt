-- The four parts of the diagnosis, one behind the other, fill the buffer. No refusal tells that its length is right.
use Rattle.std.specs.Prelude.{◌≡◌, refl, true, List, ◌++◌, ℕ, length, None}
use Rattle.std.proofs.Common.{◌∙◌, eqb-true}
use borrow.Rule.Slice.PartMut.{put_mid, post_of}
use Rattle.integer.specs.{octets}
use Rattle.integer.proofs.{four-parts}
use Rattle.encoder.specs.{InForce, fields_of}
use Rattle.encoder.proofs.{before-none, when-none}
use Rattle.axis.specs.{Axis, Ready, axis_refusal}
use Rattle.axis.proofs.{stands-none}
use Rattle.cyclic_link.specs.{Link, life_of, link_refusal}
use Rattle.diagnosis.specs.{length_by, general, versions, values, identity, report, diagnosis_refusal}

-- ---- the parts in a buffer of 57 octets
module _ (t g v w i : List ℕ) (a : Axis) (f : InForce) (r : Ready a f) (k : Link) where
  general-long : length (general a k) ≡ 10
  unfolding general octets
  general-long = refl

  values-long : length (values a) ≡ 16
  unfolding values octets
  values-long = refl

  pub all-filled : f.enabled ≡ true → length t ≡ 57 → length (versions a.nameplate) ≡ 15 → length (identity a.nameplate) ≡ 16
      → g ≡ general a k → v ≡ versions a.nameplate → w ≡ values a → i ≡ identity a.nameplate
      → put_mid 41 16 (put_mid 25 16 (put_mid 10 15 (g ++ post_of 0 10 t) v) w) i ≡ report a k
  unfolding report
  all-filled on h vh ih g-is v-is w-is i-is =
      four-parts 10 15 16 16 t g v w i h (rw g-is general-long) (rw v-is vh) (rw w-is values-long) (rw i-is ih)
      ∙ rw (← r.is, on, g-is, v-is, w-is, i-is)

-- ---- an axis within its limits is not refused
pub ruleset within = (stands-none)

-- ---- a buffer that is filled has the length
pub right-length : (a : Axis) (f : InForce) (l : Link) (size : ℕ) → Ready a f → diagnosis_refusal a l size ≡ None → size ≡ length_by f
right-length a f l size r none =
    let past = before-none (axis_refusal a) _ none in
    let right = before-none (link_refusal (life_of (fields_of a.parameters)) l) _ past.1 in
    rw r.is (eqb-true _ _ (when-none _ _ right.1))
