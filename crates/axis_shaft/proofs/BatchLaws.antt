-- A batch before it writes: the look through all readings, the first refusal reading after reading, and the number of the refusal. At the i-th
-- reading a walk keeps what the readings to come will give; at the end of the list nothing is left.
use Rattle.std.specs.Prelude.{◌≡◌, refl, Bool, true, false, not, ◌&&◌, ◌||◌, leb, ◌/◌, List, [], ◌∷◌, ℕ, suc, ◌+◌, ◌≤◌, ◌<◌}
use Rattle.std.proofs.Common.{sym, ◌∙◌, leb-false, ltb-true}
use Rattle.std.specs.Prelude.{ℤ, nat_abs, length, get_or, drop, eqb, Option, None, Some, Result, Err}
use Rattle.std.proofs.Common.{add-one, arith, drop_of_length-le, drop-cons, eqb-true}
use Rattle.std.specs.Int.{w64, w32}
use mir.Val.{Fits, SFits, to_z, of_z}
use Rattle.integer.proofs.{reads}
use Rattle.ring.specs.{in_range}
use Rattle.encoder.specs.{InForce, Refusal, Sound, WrongBuffer, NoAxis, when, ◌before◌, checked}
use Rattle.encoder.proofs.{answer-yes, before-none, unrefused, refused-by, when-none, and_split, or_split}
use Rattle.axis_shaft.specs.{Shaft, inside, Inside, move_refusal, refusal_in, batch_refusal, gap, doubtful}
use Rattle.axis_shaft.proofs.{SensorLaws.raw-lt, SensorLaws.not-doubtful, ShaftLaws.inside-true}

-- ---- the look through all readings
or-false : (a : Bool) → (a || false) ≡ a
or-false true = refl
or-false false = refl

or-group : (a b c d : Bool) → (((a || b) || c) || d) ≡ (a || ((b || c) || d))
or-group true b c d = refl
or-group false b c d = refl

module _ (c half : ℕ) (s : List ℕ) (i last first : ℕ) (found : Bool) (so_far : (found || doubtful c last (drop i s)) ≡ doubtful c first s) where
  pub look-end : length s ≤ i → found ≡ doubtful c first s
  unfolding doubtful
  look-end h = sym (or-false found) ∙ (rw (drop_of_length-le s h) at so_far)

  pub look-more : (g : ℕ) → i < length s → half ≡ c / 2 → g ≡ gap last (get_or s i 0)
      → (((found || leb c (get_or s i 0)) || eqb g half) || doubtful c (get_or s i 0) (drop (i + 1) s)) ≡ doubtful c first s
  unfolding doubtful
  look-more g h half_is g-is =
      rw (g-is, half_is, add-one, or-group found (leb c (get_or s i 0)) (eqb (gap last (get_or s i 0)) (c / 2)) (doubtful c (get_or s i 0) (drop (suc i) s)))
      (rw (drop-cons s i 0 h) at so_far)

pub ruleset looks = (look-end, look-more)

-- where nothing is doubtful, all readings are taken
pub taken_none : (f : InForce) (last : ℕ) (s : List ℕ) → Sound f → last < f.capacity.0 → doubtful f.capacity.0 last s ≡ false → refusal_in f last s ≡ None
unfolding doubtful refusal_in
taken_none f last [] so lt e = refl
taken_none f last (raw ∷ raws) so lt e =
    let a = or_split _ (doubtful f.capacity.0 raw raws) e in
    let b = or_split (leb f.capacity.0 raw) _ a.0 in
    rw (not-doubtful f last raw so lt b.0 b.1) (taken_none f raw raws so (leb-false _ _ b.0) a.1)

module _ (f : InForce) (last : ℕ) (so : Sound f) where
  pub capacity-narrow : Fits w32 f.capacity.0
  capacity-narrow = record { fits = omega (arith, so.capacity-most) }

  module _ (lt : last < f.capacity.0) where
    pub last-narrow : Fits w32 last
    last-narrow = record { fits = omega (arith, so.capacity-most) }

    pub among_none : (s : List ℕ) (found : Bool) → found ≡ false → found ≡ doubtful f.capacity.0 last s → refusal_in f last s ≡ None
    among_none s found quiet found-is = taken_none f last s so lt (sym found-is ∙ quiet)

pub ruleset among = (answer-yes, capacity-narrow, last-narrow, among_none)

-- ---- the first walk
module _ (f : InForce) (s : List ℕ) (i last : ℕ) (r : Option Refusal) (due : refusal_in f last (drop i s) ≡ r) where
  pub check-end : length s ≤ i → r ≡ None
  unfolding refusal_in
  check-end h = sym (rw (drop_of_length-le s h) at due)

  module _ (h : i < length s) where
    pub check-stop : (e : Refusal) → move_refusal f last (get_or s i 0) ≡ Some e → r ≡ Some e
    unfolding refusal_in
    check-stop e refused = sym (rw (drop-cons s i 0 h, refused) at due)

    pub check-more : move_refusal f last (get_or s i 0) ≡ None → refusal_in f (get_or s i 0) (drop (i + 1) s) ≡ r
    unfolding refusal_in
    check-more none = rw add-one (rw (drop-cons s i 0 h, none) at due)

pub check-fits : (f : InForce) (last raw : ℕ) → Sound f → move_refusal f last raw ≡ None → Fits w64 raw
check-fits f last raw s none = record { fits = omega (arith, raw-lt f last raw none, s.capacity-most) }

pub ruleset checks = (unrefused, refused-by, raw-lt, check-end, check-stop, check-more, check-fits)

-- ---- the refusal of a batch, by the tests a of the limits and b of the offset
in-range-is : (offset : ℤ) (span : ℕ) (b : Bool) → SFits w64 offset → b ≡ in_range (to_z w64 (of_z w64 offset)) span → in_range offset span ≡ b
in-range-is offset span b fits e = sym (rw (reads fits) at e)

module _ (f : InForce) (k : Shaft) (offset : ℤ) (s : List ℕ) (room : ℕ) (fits : SFits w64 offset) (a b : Bool) (a-is : a ≡ inside f k)
    (b-is : b ≡ in_range (to_z w64 (of_z w64 offset)) f.span.0) where
  pub batch-16 : (r : Refusal) → when (not (a && b)) NoAxis ≡ Some r → Err r ≡ checked (batch_refusal f k offset s room)
  unfolding batch_refusal
  batch-16 r refused = rw (← a-is, in-range-is offset _ b fits b-is, refused)

  module _ (none : when (not (a && b)) NoAxis ≡ None) where
    pub batch-13 : (r : Refusal) → when (not (eqb (length s) room)) WrongBuffer ≡ Some r → Err r ≡ checked (batch_refusal f k offset s room)
    unfolding batch_refusal
    batch-13 r refused = rw (← a-is, in-range-is offset _ b fits b-is, none, refused)

    pub batch-in : (x : Result (Unit {0}) Refusal) → when (not (eqb (length s) room)) WrongBuffer ≡ None → x ≡ checked (refusal_in f k.last.0 s)
        → x ≡ checked (batch_refusal f k offset s room)
    unfolding batch_refusal
    batch-in x long x-is = x-is ∙ rw (← a-is, in-range-is offset _ b fits b-is, none, long)

module _ (f : InForce) (k : Shaft) (a b : Bool) (a-is : a ≡ inside f k) (none : when (not (a && b)) NoAxis ≡ None) where
  pub tested : Inside f k
  tested = inside-true f k (sym a-is ∙ (and_split a b (when-none (a && b) _ none)).0)

pub ruleset numbers = (unrefused, refused-by, batch-16, batch-13, batch-in)

-- ---- an accepted batch: the limits hold, both lists have one length, and no reading is refused
pub batch-taken : (f : InForce) (k : Shaft) (offset : ℤ) (s : List ℕ) (room : ℕ) → batch_refusal f k offset s room ≡ None
    → Inside f k × (nat_abs offset < f.span.0) × (length s ≡ room) × (refusal_in f k.last.0 s ≡ None)
unfolding batch_refusal in_range
batch-taken f k offset s room none =
    let later = when (not (eqb (length s) room)) WrongBuffer in
    let limits = before-none (when (not (inside f k && in_range offset f.span.0)) NoAxis) (later before refusal_in f k.last.0 s) none in
    let rest = before-none later (refusal_in f k.last.0 s) limits.1 in
    let both = and_split (inside f k) (in_range offset f.span.0) (when-none _ _ limits.0) in
    (inside-true f k both.0, ltb-true _ _ both.1, eqb-true _ _ (when-none _ _ rest.0), rest.1)
