-- The answers of a velocity and of a shaft that moves with one: the first refusal in the table's order, or the rate of the move.
use Rattle.std.specs.Prelude.{◌≡◌, ℕ, ◌^◌, ◌≤◌, ◌<◌, eqb, not, Bool, ℤ, nat_abs, None, Some, Result, Ok, Err}
use Rattle.std.proofs.Common.{◌∙◌, arith, eq-eqb, ne_eqb}
use Rattle.std.proofs.lemmas.Bool.{eqb-false}
use Rattle.std.specs.Int.{w64, w32}
use mir.Val.{to_z, of_z}
use Rattle.integer.proofs.{reads}
use Rattle.encoder.specs.{InForce, Refusal, NothingElapsed, NoAxis, when, Sound}
use Rattle.encoder.proofs.{value-is, refused-by, before-none, when-none, when-not}
use Rattle.sensor.specs.{raw_of, step_refusal, numbered}
use Rattle.axis_shaft.specs.{Shaft, MovedBy, inside, move_of, moved_to, shaft_refusal, approached, moved, moved_by}
use Rattle.axis_shaft.proofs.{move-most, move-fits, inside-true}
use Rattle.axis.specs.{Axis, Ready}
use Rattle.axis.proofs.{stands-none}
use Rattle.axis_velocity.specs.{MovedAt, rate_of, velocity_refusal, velocity_of, velocity_at, moved_at_refusal, moved_at}
use Rattle.axis_velocity.proofs.VelocityLaws.{rate-fits}

-- a test of the elapsed time that gives no refusal
pub elapsed-least : (e : ℕ) → when (eqb e 0) NothingElapsed ≡ None → 0 < e
elapsed-least e none = let h = eqb-false e 0 (when-not _ _ none) in omega arith

-- ---- the rate of a reading's move, whatever word it came in
module _ (f : InForce) (s : Sound f) (last raw : ℕ) (d : ℤ) (d-is : d ≡ move_of f last raw) where
  small : nat_abs (to_z w64 (of_z w64 d)) ≤ 2 ^ 31
  small = rw (d-is, reads (move-fits f last raw s)) (omega (arith, move-most f last raw s, s.capacity-most))

  rate-of : (e : ℕ) (z : ℤ) → z ≡ rate_of f (to_z w64 (of_z w64 d)) e → to_z w32 (of_z w32 z) ≡ rate_of f (move_of f last raw) e
  rate-of e z z-is = rw (z-is, reads (rate-fits f (to_z w64 (of_z w64 d)) e), d-is, reads (move-fits f last raw s))

-- ---- the call
module _ (a : Axis) (f : InForce) (r : Ready a f) where
  -- the move of a reading that is taken
  module _ (raw : ℕ) (d : ℤ) (m-is : Ok d ≡ approached f a.shaft raw) where
    move-is : (shaft_refusal f a.shaft raw ≡ None) × (d ≡ move_of f a.shaft.last.0 raw)
    unfolding approached
    move-is = value-is _ (shaft_refusal f a.shaft raw) d m-is

    pub move-small : nat_abs (to_z w64 (of_z w64 d)) ≤ 2 ^ 31
    move-small = small f r.shaft.sound a.shaft.last.0 raw d move-is.1

  module _ (s t e : ℕ) (x : Result ℤ Refusal) where
    pub velocity-14 : (n : Refusal) → when (eqb e 0) NothingElapsed ≡ Some n → x ≡ Err n → x ≡ velocity_at a s t e
    unfolding velocity_at velocity_refusal
    velocity-14 n refused x-is = x-is ∙ rw (stands-none a f r, refused)

    module _ (none : when (eqb e 0) NothingElapsed ≡ None) where
      pub velocity-reading : (n : Refusal) → Err n ≡ numbered a.nameplate s t → x ≡ Err n → x ≡ velocity_at a s t e
      unfolding velocity_at velocity_refusal numbered
      velocity-reading n q-is x-is = x-is ∙ rw (stands-none a f r, none, refused-by (raw_of a.nameplate s t) (step_refusal a.nameplate s t) n q-is)

      module _ (raw : ℕ) (q-is : Ok raw ≡ numbered a.nameplate s t) where
        number_is : (step_refusal a.nameplate s t ≡ None) × (raw ≡ raw_of a.nameplate s t)
        unfolding numbered
        number_is = value-is (raw_of a.nameplate s t) (step_refusal a.nameplate s t) raw q-is

        pub velocity-move : (n : Refusal) → Err n ≡ approached f a.shaft raw → x ≡ Err n → x ≡ velocity_at a s t e
        unfolding velocity_at velocity_refusal approached
        velocity-move n m-is x-is =
            x-is ∙ rw (stands-none a f r, none, number_is.0, ← number_is.1, ← r.is, refused-by _ (shaft_refusal f a.shaft raw) n m-is)

        pub velocity-at : (d z : ℤ) → Ok d ≡ approached f a.shaft raw → z ≡ rate_of f (to_z w64 (of_z w64 d)) e → x ≡ Ok (to_z w32 (of_z w32 z))
            → x ≡ velocity_at a s t e
        unfolding velocity_at velocity_refusal
        velocity-at d z m-is z-is x-is =
            let i = move-is raw d m-is in
            x-is
            ∙ rw (stands-none a f r, none, number_is.0, ← number_is.1, ← r.is, i.0, rate-of f r.shaft.sound a.shaft.last.0 raw d i.1 e z z-is)

-- ---- the shaft that moves, with its move
module _ (f : InForce) (k : Shaft) (raw : ℕ) (m : MovedBy) (q-is : Ok m ≡ moved_by f k raw) where
  taken : (shaft_refusal f k raw ≡ None) × (m.shaft ≡ moved_to f k raw) × (m.d ≡ move_of f k.last.0 raw)
  unfolding moved_by
  taken = let i = value-is _ (shaft_refusal f k raw) m q-is in (i.0, rw i.1, rw i.1)

  pub at-sound : Sound f
  unfolding shaft_refusal
  at-sound = (inside-true f k (when-none (inside f k) _ (before-none (when (not (inside f k)) NoAxis) _ taken.0).0)).sound

  pub at_small : nat_abs (to_z w64 (of_z w64 m.d)) ≤ 2 ^ 31
  at_small = small f at-sound k.last.0 raw m.d taken.2

module _ (f : InForce) (k : Shaft) (raw e : ℕ) (x : Result MovedAt Refusal) where
  module _ (b : Bool) (b-is : b ≡ inside f k) where
    pub moved-at-16 : (n : Refusal) → when (not b) NoAxis ≡ Some n → x ≡ Err n → x ≡ moved_at f k raw e
    unfolding moved_at moved_at_refusal
    moved-at-16 n refused x-is = x-is ∙ rw (← b-is, refused)

    pub moved-at-14 : e ≡ 0 → when (not b) NoAxis ≡ None → x ≡ Err NothingElapsed → x ≡ moved_at f k raw e
    unfolding moved_at moved_at_refusal
    moved-at-14 z none x-is = x-is ∙ rw (← b-is, none, eq-eqb e 0 z)

  module _ (e-not : e ≡ 0 → ⊥) where
    pub refusal_at : moved_at_refusal f k raw e ≡ shaft_refusal f k raw
    unfolding moved_at_refusal shaft_refusal
    refusal_at = rw (ne_eqb e 0 e-not)

    pub moved-at-no : (n : Refusal) → Err n ≡ moved_by f k raw → x ≡ Err n → x ≡ moved_at f k raw e
    unfolding moved_by moved_at
    moved-at-no n q-is x-is = x-is ∙ rw (refusal_at, refused-by _ (shaft_refusal f k raw) n q-is)

    pub moved-at-to : (m : MovedBy) (z : ℤ) → Ok m ≡ moved_by f k raw → z ≡ rate_of f (to_z w64 (of_z w64 m.d)) e
        → x ≡ Ok (record { shaft = m.shaft; velocity = to_z w32 (of_z w32 z) }) → x ≡ moved_at f k raw e
    unfolding moved_at
    moved-at-to m z q-is z-is x-is =
        let i = taken f k raw m q-is in
        x-is ∙ rw (refusal_at, i.0, i.1, rate-of f (at-sound f k raw m q-is) k.last.0 raw m.d i.2 e z z-is)

-- ---- from that answer back: whether the shaft has moved, and the velocity
module _ (f : InForce) (k : Shaft) (raw e : ℕ) (some : 0 < e) where
  shaft-refusal : moved_at_refusal f k raw e ≡ shaft_refusal f k raw
  shaft-refusal = refusal_at f k raw e (Err NoAxis) (λ z. omega arith)

  pub at_moved : (m : MovedAt) → Ok m ≡ moved_at f k raw e → (moved f k raw ≡ Ok m.shaft) × (m.velocity ≡ velocity_of f k raw e)
  unfolding moved moved_at
  at_moved m q-is = let i = value-is _ (moved_at_refusal f k raw e) m q-is in (rw (← shaft-refusal, i.0, i.1), rw i.1)

  pub at-stays : (n : Refusal) → Err n ≡ moved_at f k raw e → moved f k raw ≡ Err n
  unfolding moved moved_at
  at-stays n q-is = rw (← shaft-refusal, refused-by _ (moved_at_refusal f k raw e) n q-is)
