-- What each form does to the axis of a log.
use Rattle.std.specs.Prelude.{◌≡◌, refl, Bool, true, false, ℕ, ◌+◌, ◌*◌, ℤ, Option, None, Some, Result, Ok, Err}
use Rattle.std.proofs.Common.{sym, ap, ◌∙◌, arith}
use Rattle.std.specs.Int.{w8, w64}
use mir.Val.{Fits, SFits, to_z, of_z, bool_byte}
use Rattle.integer.specs.{at}
use Rattle.integer.proofs.{reads, flag-lt, at-is}
use Rattle.encoder.specs.{Nameplate, Parameters, Class2, Refusal, NoAxis as NotStarted, answer, checked, refusal_on}
use Rattle.encoder.proofs.{answer-no, answer-yes, unrefused, refused-by}
use Rattle.axis_shaft.specs.{nowhere}
use Rattle.axis.specs.{Next, fresh, start_raw, read_raw, preset as preset_on, yielded}
use Rattle.axislog_forms.specs.{Setup}
use Rattle.axislog_state.specs.{Stage, NoAxis, Waiting, Started, State, Reply, plate_of, parameters_of, unstarted, refused, reply_by, taken, after, ready, set_up}
use Rattle.axislog_state.specs.{read_at, read, preset_at, preset}

-- ---- plate and parameters
octet-is : (b c : Bool) → bool_byte b * 8 + 2 + bool_byte c ≡ at b 3 + at true 1 + at c 0
octet-is b c = rw (at-is b 3, at-is c 0) (omega arith)

module _ (b : Bool) where
  pub scaling-fits : Fits w8 (bool_byte b * 8)
  scaling-fits = record { fits = omega (arith, flag-lt b) }

  pub class-fits : Fits w8 (bool_byte b * 8 + 2)
  class-fits = record { fits = omega (arith, flag-lt b) }

  pub octet-fits : (c : Bool) → Fits w8 (bool_byte b * 8 + 2 + bool_byte c)
  octet-fits c = record { fits = omega (arith, flag-lt b, flag-lt c) }

pub parameters-is : (s : Setup) → Class2 (bool_byte s.scaling * 8 + 2 + bool_byte s.reversed) (record { 0 = s.units }) (record { 0 = s.range }) ≡ parameters_of s
parameters-is s = ap (λ (o : ℕ). Class2 o (record { 0 = s.units }) (record { 0 = s.range })) (octet-is s.scaling s.reversed)

pub unstarted-is : (g : Stage) (s : Setup) (n : Nameplate) (p : Parameters) → n ≡ plate_of s → p ≡ parameters_of s
    → record { stage = g; axis = fresh n p nowhere } ≡ unstarted g s
unfolding unstarted
unstarted-is g s n p n-is p-is = rw (n-is, p-is)

-- ---- an axis form
module _ (f : Setup) (t : State) (t-is : t ≡ unstarted Waiting f) (x : Result Reply Refusal) where
  tested : refusal_on t.axis.nameplate t.axis.parameters ≡ refusal_on (plate_of f) (parameters_of f)
  unfolding unstarted
  tested = ap (λ (k : State). refusal_on k.axis.nameplate k.axis.parameters) t-is

  pub set-up-refused : (r : Refusal) → Err r ≡ checked (refusal_on t.axis.nameplate t.axis.parameters) → x ≡ Err r
      → x ≡ yielded (refusal_on (plate_of f) (parameters_of f)) (ready f)
  set-up-refused r h x-is = answer-no Err _ x _ r (sym tested ∙ refused-by tt _ r h) x-is

  pub set-up-ready : (u : Unit {0}) → Ok u ≡ checked (refusal_on t.axis.nameplate t.axis.parameters) → x ≡ Ok (ready f)
      → x ≡ yielded (refusal_on (plate_of f) (parameters_of f)) (ready f)
  set-up-ready u h x-is = answer-yes Err (Ok (ready f)) x _ (sym tested ∙ unrefused tt _ u h) x-is

pub ruleset set-ups = (scaling-fits, class-fits, octet-fits, parameters-is, unstarted-is)

-- ---- a call's reply, accepted or refused
pub reply-is : (s : State) (r : Reply) (n : Option Refusal) → reply_by s (yielded n r) ≡ answer (refused s) r n
reply-is s r None = refl
reply-is s r (Some e) = refl

module _ (s : State) (y : Result Reply Refusal) where
  pub set_up_is : (f : Setup) → y ≡ yielded (refusal_on (plate_of f) (parameters_of f)) (ready f) → reply_by s y ≡ set_up s f
  unfolding set_up
  set_up_is f y-is = rw y-is (reply-is s (ready f) (refusal_on (plate_of f) (parameters_of f)))

  called : (x : Next) → y ≡ yielded x.refusal (taken x.axis) → reply_by s y ≡ after s x
  unfolding after
  called x y-is = rw y-is (reply-is s (taken x.axis) x.refusal)

  -- ---- a reading
  module _ (raw : ℕ) where
    pub read_none : s.stage ≡ NoAxis → y ≡ Err NotStarted → reply_by s y ≡ read s raw
    unfolding read
    read_none v y-is = ap (reply_by s) y-is ∙ sym (ap (λ (g : Stage). read_at g s raw) v)

    module _ (x : Next) (y-is : y ≡ yielded x.refusal (taken x.axis)) where
      pub read_first : s.stage ≡ Waiting → x ≡ start_raw s.axis.nameplate s.axis.parameters raw → reply_by s y ≡ read s raw
      unfolding read
      read_first v x-is = called x y-is ∙ ap (after s) x-is ∙ sym (ap (λ (g : Stage). read_at g s raw) v)

      pub read_next : s.stage ≡ Started → x ≡ read_raw s.axis raw → reply_by s y ≡ read s raw
      unfolding read
      read_next v x-is = called x y-is ∙ ap (after s) x-is ∙ sym (ap (λ (g : Stage). read_at g s raw) v)

  -- ---- a preset
  module _ (v : ℤ) where
    pub preset-made : (x : Next) → y ≡ yielded x.refusal (taken x.axis) → s.stage ≡ Started → x ≡ preset_on s.axis (to_z w64 (of_z w64 v)) false → SFits w64 v
        → reply_by s y ≡ preset s v
    unfolding preset
    preset-made x y-is w x-is fits = called x y-is ∙ ap (after s) (rw (reads fits) at x-is) ∙ sym (ap (λ (g : Stage). preset_at g s v) w)

pub ruleset replies = (read_none, read_first, read_next, preset-made, set_up_is)
