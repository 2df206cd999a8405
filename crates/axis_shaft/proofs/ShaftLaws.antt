-- The limits of a shaft, as a test and as facts. Then the answers of the public functions but the batch, by the tests before them.
use Rattle.std.specs.Prelude.{◌≡◌, refl, Bool, true, false, not, ◌&&◌, ℕ, ◌%◌, ◌<◌, ltb, leb, ℤ, None, Some, Result, Ok, Err}
use Rattle.std.proofs.Common.{sym, ◌∙◌, arith, lt-ltb}
use Rattle.std.proofs.lemmas.Bool.{not-true, not-false}
use Rattle.std.proofs.Common.{ltb-true}
use Rattle.std.specs.Int.{w64}
use mir.Val.{SFits, to_z, of_z}
use Rattle.integer.proofs.{reads, modulo-lt}
use Rattle.encoder.specs.{Units, InForce, Refusal, WrongTurn, NoAxis, when, answer, rules_fit, Sound}
use Rattle.encoder.proofs.{before-none, unrefused, refused-by, value-is, when-none, and_split, sound-of, fits-of}
use Rattle.axis_shaft.specs.{MovedBy, Shaft, period, inside, Inside}
use Rattle.axis_shaft.specs.{nowhere, oriented, started, move_of, move_refusal, moved_to, unshifted, position_at, approach_from, begin_refusal, begun, shaft_refusal}
use Rattle.axis_shaft.specs.{approached, moved, moved_by, positions_at, reported_at}
use Rattle.axis_shaft.proofs.{SensorLaws.move-fits, SensorLaws.raw-lt, SensorLaws.below, PlaceLaws.period-least}
use native.Mathlib.Nat as N

-- ---- the limits
pub inside-true : (f : InForce) (k : Shaft) → inside f k ≡ true → Inside f k
unfolding inside
inside-true f k e =
    let a = and_split (rules_fit f) _ e in
    let b = and_split (ltb k.place.0 (period f)) (ltb k.last.0 f.capacity.0) a.1 in
    record { sound = sound-of f a.0; place = ltb-true _ _ b.0; last = ltb-true _ _ b.1 }

pub inside_is : (f : InForce) (k : Shaft) → Inside f k → inside f k ≡ true
unfolding inside
inside_is f k i = rw (fits-of f i.sound, lt-ltb _ _ i.place, lt-ltb _ _ i.last)

-- before a first reading nothing is within them
pub nowhere-out : (f : InForce) (b : Bool) → inside f nowhere ≡ b → b ≡ false
nowhere-out f true e = let i = inside-true f nowhere e in absurd (omega (arith, i.last, i.sound.capacity-most))
nowhere-out f false e = refl

-- a start and a reading that is taken are within them
pub started-kept : (f : InForce) (raw : ℕ) → Sound f → raw < f.capacity.0 → Inside f (started f raw)
unfolding started
started-kept f raw s h = record { sound = s; place = N.mod-lt (oriented f raw) (period-least f s); last = h }

pub moved-kept : (f : InForce) (k : Shaft) (raw : ℕ) → Inside f k → raw < f.capacity.0 → Inside f (moved_to f k raw)
unfolding moved_to
moved-kept f k raw i h =
    record { sound = i.sound; place = modulo-lt _ (period-least f i.sound); last = h }

module _ (f : InForce) (b : Bool) (b-is : b ≡ rules_fit f) where
  pub inside-no : (k : Shaft) → not b ≡ true → false ≡ inside f k
  unfolding inside
  inside-no k t = rw (← b-is, not-true b t)

  pub sound-so : not b ≡ false → Sound f
  sound-so t = sound-of f (sym b-is ∙ not-false b t)

  pub inside_on : (k : Shaft) (n : ℕ) → n ≡ period f → not b ≡ false → (ltb k.place.0 n && ltb k.last.0 f.capacity.0) ≡ inside f k
  unfolding inside
  inside_on k n n-is t = rw (← b-is, not-false b t, n-is)

  -- ---- the start
  pub sound-by : when (not b) NoAxis ≡ None → Sound f
  sound-by none = sound-of f (sym b-is ∙ when-none b _ none)

  module _ (raw : ℕ) where
    pub begun-16 : (r : Refusal) → when (not b) NoAxis ≡ Some r → Err r ≡ begun f raw
    unfolding begun begin_refusal
    begun-16 r refused = rw (← b-is, refused)

    module _ (none : when (not b) NoAxis ≡ None) where
      pub begun-9 : (r : Refusal) → when (leb f.capacity.0 raw) WrongTurn ≡ Some r → Err r ≡ begun f raw
      unfolding begun begin_refusal
      begun-9 r refused = rw (← b-is, none, refused)

      pub begun_to : (first n : ℕ) → first ≡ oriented f raw → n ≡ period f → when (leb f.capacity.0 raw) WrongTurn ≡ None
          → Ok (record { place = record { 0 = first % n }; last = record { 0 = raw } }) ≡ begun f raw
      unfolding begun begin_refusal started
      begun_to first n first-is n-is below = rw (← b-is, none, below, first-is, n-is)

pub ruleset limits = (sound-so, inside-no, inside_on)

pub ruleset starts = (unrefused, refused-by, sound-by, below, begun-16, begun-9, begun_to)

-- ---- a reading and the position, by the test b of the limits
module _ (f : InForce) (k : Shaft) (b : Bool) (b-is : b ≡ inside f k) where
  pub inside-by : when (not b) NoAxis ≡ None → Inside f k
  inside-by none = inside-true f k (sym b-is ∙ when-none b _ none)

  pub inside-sound : when (not b) NoAxis ≡ None → Sound f
  inside-sound none = (inside-by none).sound

  pub inside-last : when (not b) NoAxis ≡ None → k.last.0 < f.capacity.0
  inside-last none = (inside-by none).last

  module _ (offset : ℤ) where
    pub reported-16 : (r : Refusal) → when (not b) NoAxis ≡ Some r → Err r ≡ reported_at f offset k
    unfolding reported_at
    reported-16 r refused = rw (← b-is, refused)

    pub reported-at : (p : ℕ) (u : Units) → SFits w64 offset → p ≡ position_at f (to_z w64 (of_z w64 offset)) k → u.0 ≡ unshifted f k → when (not b) NoAxis ≡ None
        → Ok (record { position = record { 0 = p }; unshifted = u }) ≡ reported_at f offset k
    unfolding reported_at
    reported-at p u fits p-is u-is none = rw (← b-is, none, p-is, ← u-is, reads fits)

  module _ (raw : ℕ) where
    pub approached-16 : (r : Refusal) → when (not b) NoAxis ≡ Some r → Err r ≡ approached f k raw
    unfolding approached shaft_refusal
    approached-16 r refused = rw (← b-is, refused)

    pub approached-on : (e : Result ℤ Refusal) → e ≡ approach_from f k.last.0 raw → when (not b) NoAxis ≡ None → e ≡ approached f k raw
    unfolding approached approach_from shaft_refusal
    approached-on e e-is none = e-is ∙ rw (← b-is, none)

pub ruleset readings = (unrefused, refused-by, inside-sound, inside-last, inside-by, reported-16, reported-at, approached-16, approached-on)

-- ---- a move that is made
module _ (f : InForce) (k : Shaft) (raw : ℕ) (d : ℤ) (e-is : Ok d ≡ approached f k raw) where
  approach-taken : (shaft_refusal f k raw ≡ None) × (d ≡ move_of f k.last.0 raw)
  unfolding approached
  approach-taken = value-is (move_of f k.last.0 raw) (shaft_refusal f k raw) d e-is

  refusals-none : (when (not (inside f k)) NoAxis ≡ None) × (move_refusal f k.last.0 raw ≡ None)
  unfolding shaft_refusal
  refusals-none = before-none (when (not (inside f k)) NoAxis) (move_refusal f k.last.0 raw) approach-taken.0

  pub moved_inside : Inside f k
  moved_inside = inside-true f k (when-none (inside f k) _ refusals-none.0)

  pub moved-lt : raw < f.capacity.0
  moved-lt = raw-lt f k.last.0 raw refusals-none.1

  pub moved-by : to_z w64 (of_z w64 d) ≡ move_of f k.last.0 raw
  moved-by = let i = approach-taken.1 in rw (i, reads (move-fits f k.last.0 raw moved_inside.sound))

  pub moved-by-to : (m : Shaft) → m ≡ moved_to f k raw → Ok (record { shaft = m; d = to_z w64 (of_z w64 d) }) ≡ moved_by f k raw
  unfolding moved_by
  moved-by-to m m-is = rw (approach-taken.0, m-is, moved-by)

-- and without the move
pub moved-shaft : (f : InForce) (k : Shaft) (raw : ℕ) (m : MovedBy) → Ok m ≡ moved_by f k raw → Ok m.shaft ≡ moved f k raw
unfolding moved moved_by
moved-shaft f k raw m e = let i = value-is _ (shaft_refusal f k raw) m e in rw (i.0, i.1)

pub ruleset moves = (moved_inside, moved-lt, moved-by, moved-by-to)

module _ (f : InForce) (k : Shaft) (i : Inside f k) where
  pub read-refusal : (raw : ℕ) → shaft_refusal f k raw ≡ move_refusal f k.last.0 raw
  unfolding shaft_refusal
  read-refusal raw = rw (inside_is f k i)

  pub reported-is : (offset : ℤ) → reported_at f offset k ≡ Ok (positions_at f offset k)
  unfolding reported_at
  reported-is offset = rw (inside_is f k i)

pub begun-by : (f : InForce) (raw : ℕ) → Sound f → begun f raw ≡ answer Err (Ok (started f raw)) (when (leb f.capacity.0 raw) WrongTurn)
unfolding begun begin_refusal
begun-by f raw s = rw (fits-of f s)
