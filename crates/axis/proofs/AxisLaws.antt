-- The limits of a record, as a test and as facts. A record outside them gets 16 from every call.
use Rattle.std.specs.Prelude.{◌≡◌, refl, Bool, true, not, ◌&&◌, ◌<◌, nat_abs, Option, None, Some, is_none, Result, Ok, Err}
use Rattle.std.proofs.Common.{sym, ◌∙◌, arith, lt-ltb, ltb-true}
use Rattle.std.specs.Int.{w64}
use mir.Val.{SFits, to_z, of_z}
use Rattle.integer.proofs.{reads, fits-abs}
use Rattle.ring.specs.{in_range}
use Rattle.encoder.specs.{InForce, Refusal, NoAxis, when, ◌before◌, answer, refusal_on, in_force}
use Rattle.encoder.proofs.{and_split, when-none, answer-no, first-no, value-is, unrefused, refused-by, in-force-taken, in-force-refused}
use Rattle.axis_shaft.specs.{inside, Inside}
use Rattle.axis_shaft.proofs.{inside-true, inside_is}
use Rattle.axis.specs.{Axis, rules_on, keeps, acceptable, axis_refusal, in_force_on, Ready}

-- ---- the test
module _ (a : Axis) (e x : Result InForce Refusal) where
  module _ (f : InForce) (r o p q : Bool) (r-is : r ≡ inside f a.shaft)
      (o_is : o ≡ in_range (to_z w64 (of_z w64 a.offset)) f.span.0) (o-fits : SFits w64 a.offset)
      (p-is : p ≡ in_range (to_z w64 (of_z w64 a.preset)) f.span.0) (p-fits : SFits w64 a.preset)
      (q-is : q ≡ in_range (to_z w64 (of_z w64 a.stored)) f.span.0) (q-fits : SFits w64 a.stored)
      (h : e ≡ Ok f) (e-is : e ≡ in_force a.nameplate a.parameters) where
    tested : (b : Bool) → (r && o && p && q) ≡ b → acceptable a ≡ b
    unfolding acceptable rules_on
    tested b t =
        let i = in-force-taken _ _ e f h e-is in
        let k : keeps f a ≡ b = sym (rw (r-is, o_is, p-is, q-is, reads o-fits, reads p-fits, reads q-fits)) ∙ t in
        rw (i.0, ← i.1, k)

    pub rules-taken : when (not (r && o && p && q)) NoAxis ≡ None → x ≡ Ok f → x ≡ in_force_on a
    unfolding in_force_on axis_refusal rules_on
    rules-taken none x-is = x-is ∙ rw (tested true (when-none _ _ none), ← (in-force-taken _ _ e f h e-is).1)

    pub rules-out : (s : Refusal) → when (not (r && o && p && q)) NoAxis ≡ Some s → x ≡ Err s → x ≡ in_force_on a
    unfolding in_force_on axis_refusal
    rules-out s refused x-is = x-is ∙ rw (tested (r && o && p && q) refl, refused)

  pub rules-not : (r : Refusal) → e ≡ Err r → e ≡ in_force a.nameplate a.parameters → x ≡ Err NoAxis → x ≡ in_force_on a
  unfolding in_force_on axis_refusal acceptable
  rules-not r h e-is x-is = x-is ∙ rw (in-force-refused _ _ e r h e-is)

pub ruleset rulings = (unrefused, refused-by, rules-taken, rules-out, rules-not)

-- ---- the limits as facts
pub record Limits (a : Axis) : Type 0 where
  pub none : refusal_on a.nameplate a.parameters ≡ None
  pub shaft : Inside (rules_on a) a.shaft
  pub offset : nat_abs a.offset < (rules_on a).span.0
  pub preset : nat_abs a.preset < (rules_on a).span.0
  pub stored : nat_abs a.stored < (rules_on a).span.0

none-of : (k : Option Refusal) → is_none k ≡ true → k ≡ None
none-of None e = refl
none-of (Some r) e = cc

pub limits_of : (a : Axis) → acceptable a ≡ true → Limits a
unfolding acceptable in_range
limits_of a e =
    let f = rules_on a in
    let h = and_split _ (keeps f a) e in
    let s = and_split _ (in_range a.stored f.span.0) h.1 in
    let p = and_split _ (in_range a.preset f.span.0) s.0 in
    let o = and_split (inside f a.shaft) (in_range a.offset f.span.0) p.0 in
    record {
      none = none-of _ h.0;
      shaft = inside-true f a.shaft o.0;
      offset = ltb-true _ _ o.1;
      preset = ltb-true _ _ p.1;
      stored = ltb-true _ _ s.1;
    }

pub accepts : (a : Axis) → Limits a → acceptable a ≡ true
unfolding acceptable in_range
accepts a l =
    rw (
      l.none,
      inside_is (rules_on a) a.shaft l.shaft,
      lt-ltb _ _ l.offset,
      lt-ltb _ _ l.preset,
      lt-ltb _ _ l.stored,
    )

-- ---- a record within its limits does not get 16
pub accepted-none : (a : Axis) → acceptable a ≡ true → axis_refusal a ≡ None
unfolding axis_refusal
accepted-none a e = rw e

pub limits-none : (a : Axis) → Limits a → axis_refusal a ≡ None
limits-none a l = accepted-none a (accepts a l)

-- ---- from the answer back to the refusal
module _ (a : Axis) where
  pub ready_of : (f : InForce) → Ok f ≡ in_force_on a → Ready a f
  unfolding in_force_on axis_refusal
  ready_of f h =
      let i = value-is (rules_on a) (axis_refusal a) f h in
      let t = when-none (acceptable a) _ i.0 in
      let l = limits_of a t in
      record { is = i.1; stands = t; shaft = rw i.1 l.shaft; offset = rw i.1 l.offset }

  pub outside_of : (r : Refusal) → Err r ≡ in_force_on a → axis_refusal a ≡ Some r
  unfolding in_force_on
  outside_of r h = refused-by (rules_on a) (axis_refusal a) r h

-- 16 of any call, alone or before other refusals: x is its answer, or what it leaves in a lent buffer
module _ {A : Type 0} (refused : Refusal → A) (taken x : A) (a : Axis) (r : Refusal) (h : Err r ≡ in_force_on a) (x-is : x ≡ refused r) where
  pub outside_alone : x ≡ answer refused taken (axis_refusal a)
  outside_alone = answer-no refused taken x (axis_refusal a) r (outside_of a r h) x-is

  pub outside-answer : (m : Option Refusal) → x ≡ answer refused taken (axis_refusal a before m)
  outside-answer m = first-no refused taken x (axis_refusal a) m r (outside_of a r h) x-is

module _ (a : Axis) (f : InForce) (r : Ready a f) where
  pub stands-none : axis_refusal a ≡ None
  stands-none = accepted-none a r.stands

  pub offset-fits : SFits w64 a.offset
  offset-fits = fits-abs _ (omega (arith, r.offset, r.shaft.sound.span-most))
