-- A cycle keeps nameplate and parameters, and so what is in force. It keeps the axis within its limits, since it is a reading and a preset whose value
-- was tested, or held within them.
use Rattle.std.specs.Prelude.{◌≡◌, refl, Bool, true, false, cond, List, ℕ, Option, None, Some, ℤ}
use Rattle.std.specs.Bool.{then_some}
use Rattle.std.proofs.Common.{◌∙◌}
use Rattle.std.proofs.lemmas.Bool.{false≢true}
use Rattle.encoder.specs.{Parameters, InForce, Refusal}
use Rattle.axis.specs.{Axis, Next, rules_on, Ready, next, at_raw, read_raw, read_raw_refusal, presetted}
use Rattle.axis.proofs.{Limits, limits_of, accepts, raw-kept, presetted-kept}
use Rattle.cyclic_link.specs.{Life, Link, Preset, Possible, within, Class2.link as link2, Class4.link as link4, Classes.reaction}
use Rattle.cyclic_link.proofs.{possible, link-kept}
use Rattle.cyclic.specs.{faulty_at, taken_at, preset_by, word_of, Class2.axis as axis2, counted, Class4.axis as axis4, heard_in, stopped_in, class4, life, control_by, cycle_refusal, link_after, axis_after, link_left}
use Rattle.cyclic.specs.{cycled, cycle, cycle83_refusal, cycle83}

-- ---- the axis after a cycle: with its preset, if one is made; the same for both classes
pub by-made : (b : Axis) (o : Preset) (made : Bool) → preset_by b (then_some made o) ≡ cond made (presetted b o.value o.relative) b
by-made b o true = refl
by-made b o false = refl

after-by : (class : Bool) (w : Life) (b : Axis) (k : Link) (faulty : Bool) (output : List ℕ)
    → cond class (axis4 b (heard_in w k output) (stopped_in w k output) faulty (counted output)) (axis2 b k faulty (word_of output))
    ≡ preset_by b (reaction class w (rules_on b) k faulty (control_by class output) b.stored).preset
unfolding axis2 axis4
after-by true w b k faulty output = refl
after-by false w b k faulty output = refl

pub after_is : (a : Axis) (k : Link) (raw : ℕ) (output : List ℕ) → let b = taken_at a raw in let class = class4 a.parameters in
    axis_after a k raw output
    ≡ preset_by b (reaction class (life a.parameters) (rules_on b) k (faulty_at a raw) (control_by class output) b.stored).preset
unfolding axis_after
after_is a k raw output = after-by (class4 a.parameters) (life a.parameters) (taken_at a raw) k (faulty_at a raw) output

-- ---- the link after a cycle, by the class
pub link-by : (class : Bool) (w : Life) (f : InForce) (k : Link) (faulty : Bool) (output : List ℕ) (stored : ℤ)
    → (reaction class w f k faulty (control_by class output) stored).link
    ≡ cond class (link4 f (heard_in w k output) (stopped_in w k output) faulty (counted output)) (link2 f k faulty (word_of output))
link-by true w f k faulty output stored = refl
link-by false w f k faulty output stored = refl

cond-true : {A : Type 0} (b : Bool) (x y : A) → b ≡ true → cond b x y ≡ x
cond-true true x y e = refl
cond-true false x y e = absurd (false≢true e)

pub link-four : (f : InForce) (p : Parameters) (k : Link) (faulty : Bool) (output : List ℕ) → class4 p ≡ true
    → link_after f p k faulty output ≡ link4 f (heard_in (life p) k output) (stopped_in (life p) k output) faulty (counted output)
unfolding link_after
link-four f p k faulty output e = cond-true (class4 p) _ _ e

-- ---- nameplate and parameters
abbrev pub Same : Axis → Axis → Type 0
Same a b = (b.nameplate ≡ a.nameplate) × (b.parameters ≡ a.parameters)

pub read_same : (a : Axis) (raw : ℕ) → Same a (read_raw a raw).axis
unfolding read_raw at_raw
read_same a raw = by (read_raw_refusal a raw)
  where
    by : (n : Option Refusal) → Same a (next a n (at_raw a raw)).axis
    by None = (refl, refl)
    by (Some r) = (refl, refl)

pub preset-same : (a b : Axis) (o : Option Preset) → Same a b → Same a (preset_by b o)
unfolding presetted
preset-same a b (Some o) s = s
preset-same a b None s = s

pub after_same : (a : Axis) (k : Link) (raw : ℕ) (output : List ℕ) → Same a (axis_after a k raw output)
unfolding taken_at
after_same a k raw output =
    let b = (read_raw a raw).axis in
    let class = class4 a.parameters in
    let o = (reaction class (life a.parameters) (rules_on b) k (faulty_at a raw) (control_by class output) b.stored).preset in
    rw (after_is a k raw output) (preset-same a b o (read_same a raw))

-- ---- an answer without a refusal
pub cycled-none : (a b : Axis) (k j : Link) (n : Option Refusal) → (cycled a k b j n).refusal ≡ None → n ≡ None
cycled-none a b k j None e = refl
cycled-none a b k j (Some r) e = e

-- ---- the limits
preset-kept : (a : Axis) (o : Option Preset) → Limits a → Possible (rules_on a) o → Limits (preset_by a o)
preset-kept a (Some o) l h = presetted-kept a l o.value o.relative h.below
preset-kept a None l h = l

after_kept : (a : Axis) (k : Link) (raw : ℕ) (output : List ℕ) → Limits a → Limits (axis_after a k raw output)
unfolding taken_at
after_kept a k raw output l =
    let b = (read_raw a raw).axis in
    let class = class4 a.parameters in
    let m = raw-kept a l raw in
    let o = (reaction class (life a.parameters) (rules_on b) k (faulty_at a raw) (control_by class output) b.stored).preset in
    let p = possible class (life a.parameters) (rules_on b) k (faulty_at a raw) (control_by class output) b.stored m.stored in
    rw (after_is a k raw output) (preset-kept b o m p)

by_refusal : (a b : Axis) (k j : Link) (n : Option Refusal) → Limits a → Limits b → Limits (cycled a k b j n).axis
by_refusal a b k j None l m = m
by_refusal a b k j (Some r) l m = l

pub cycle-kept : (a : Axis) (k : Link) (raw : ℕ) (output input : List ℕ) → Limits a → Limits (cycle a k raw output input).axis
unfolding cycle
cycle-kept a k raw output input l = by_refusal a (axis_after a k raw output) k _ (cycle_refusal a k output input) l (after_kept a k raw output l)

pub cycle83-kept : (a : Axis) (k : Link) (raw e : ℕ) (output input : List ℕ) → Limits a → Limits (cycle83 a k raw e output input).axis
unfolding cycle83
cycle83-kept a k raw e output input l = by_refusal a (axis_after a k raw output) k _ (cycle83_refusal a k e output input) l (after_kept a k raw output l)

-- ---- the link stays within its limits on the axis that the cycle leaves (request 3)
abbrev pub Linked : Axis → Link → Type 0
Linked a k = within (life a.parameters) k ≡ true

linked-by : (a b : Axis) (k j : Link) (n : Option Refusal) → Same a b → Linked a k → Linked a j → Linked (cycled a k b j n).axis (cycled a k b j n).link
linked-by a b k j None s h i = rw s.1 i
linked-by a b k j (Some r) s h i = h

pub left-linked : (a : Axis) (k : Link) (raw : ℕ) (output : List ℕ) → Linked a k → Linked a (link_left a k raw output)
unfolding link_after
left-linked a k raw output h =
    let class = class4 a.parameters in
    let w = life a.parameters in
    rw (← link-by class w (rules_on a) k (faulty_at a raw) output a.stored) (link-kept class w (rules_on a) k (faulty_at a raw) (control_by class output) a.stored h)

pub cycle-linked : (a : Axis) (k : Link) (raw : ℕ) (output input : List ℕ) → Linked a k → let c = cycle a k raw output input in Linked c.axis c.link
unfolding cycle
cycle-linked a k raw output input h = linked-by a _ k _ (cycle_refusal a k output input) (after_same a k raw output) h (left-linked a k raw output h)

pub cycle83-linked : (a : Axis) (k : Link) (raw e : ℕ) (output input : List ℕ) → Linked a k → let c = cycle83 a k raw e output input in Linked c.axis c.link
unfolding cycle83
cycle83-linked a k raw e output input h = linked-by a _ k _ (cycle83_refusal a k e output input) (after_same a k raw output) h (left-linked a k raw output h)

-- ---- and both
ready_by : (a b : Axis) (f : InForce) → Ready a f → Same a b → Limits b → Ready b f
unfolding rules_on
ready_by a b f r s l =
    let e : f ≡ rules_on b = r.is ∙ rw (s.0, s.1) in
    record { is = e; stands = accepts b l; shaft = rw e l.shaft; offset = rw e l.offset }

module _ (a : Axis) (f : InForce) (r : Ready a f) where
  pub read-ready : (raw : ℕ) (x : Next) → x ≡ read_raw a raw → Ready x.axis f
  read-ready raw x x-is = rw x-is (ready_by a (read_raw a raw).axis f r (read_same a raw) (raw-kept a (limits_of a r.stands) raw))
