-- One cycle on an axis within its limits. The two lengths decide whether it is refused; axis, link and input are what the calls yield, one after the
-- other.
use Rattle.std.specs.Prelude.{◌≡◌, refl, Bool, true, false, cond, List, ℕ, ◌%◌, ◌^◌, ◌<◌, eqb, nat_abs, length, Option, None, Some, is_some, Result}
use Rattle.std.proofs.Common.{sym, ap, ◌∙◌, arith, eqb-true}
use Rattle.std.specs.Int.{w64}
use mir.Val.{to_z, of_z}
use Rattle.integer.specs.{big_endian, octets}
use Rattle.integer.proofs.{Octets.Octets, big_endian-lt, reads, fits-abs}
use Rattle.encoder.specs.{Parameters, Fields, InForce, Refusal, ◌before◌, fields_of}
use Rattle.encoder.proofs.{and_split, before-none, when-none}
use Rattle.axis.specs.{Axis, Next, rules_on, Ready, yielded, read_raw}
use Rattle.axis.proofs.{limits_of, stands-none}
use Rattle.cyclic_link.specs.{Link, Life, Control, Reaction, life_of, link_refusal, Classes.reaction, Possible}
use Rattle.cyclic_link.proofs.{possible}
use Rattle.cyclic.specs.{Cycled, Standing, faulty_at, taken_at, preset_by, standing, class4, life, input_octets, length_refusal, cycle_refusal, control_by, input_by, link_after}
use Rattle.cyclic.specs.{axis_after, input_of, link_left, input_left, done, reaction_to, responded, cycled, cycled_by}
use Rattle.cyclic.proofs.{CycleKept.read-ready, CycleKept.read_same, CycleKept.preset-same, CycleKept.after_same, CycleKept.after_is, CycleKept.link-by, Class4Laws.at_position}
use native.Mathlib.Nat as N
use Rattle.cyclic.specs.Class2 as Class2
use Rattle.cyclic.specs.Class4 as Class4

-- ---- the class, and the lengths by it
pub class-is : (p : Parameters) (g : Fields) → g ≡ fields_of p → class4 p ≡ g.class4
class-is p g e = ap (λ (h : Fields). h.class4) (sym e)

pub lengths : (w : Life) (k : Link) (class : Bool) (output input : ℕ) → (link_refusal w k before length_refusal class output input) ≡ None
    → (output ≡ 4) × (input ≡ input_octets class)
unfolding length_refusal
lengths w k class output input none =
    let h = and_split (eqb output 4) (eqb input (input_octets class)) (when-none _ _ (before-none (link_refusal w k) _ none).1) in
    (eqb-true _ _ h.0, eqb-true _ _ h.1)

-- ---- the refusal of a cycle on an axis within its limits
pub refusal-is : (a : Axis) (f : InForce) (g : Fields) (w : Life) (k : Link) (output input : List ℕ) → Ready a f → g ≡ fields_of a.parameters → w ≡ life_of g
    → cycle_refusal a k output input ≡ (link_refusal w k before length_refusal g.class4 (length output) (length input))
unfolding cycle_refusal
refusal-is a f g w k output input r g-is w-is = rw (w-is, g-is, stands-none a f r)

-- the answer by the cycle that is run
pub cycled-is : (a b : Axis) (k j : Link) (n : Option Refusal) (y : Result Cycled Refusal) (x : Cycled) → y ≡ yielded n (done b j) → x ≡ cycled_by a k y
    → x ≡ cycled a k b j n
cycled-is a b k j None y x y-is x-is = x-is ∙ rw y-is
cycled-is a b k j (Some r) y x y-is x-is = x-is ∙ rw y-is

-- ---- by the class: four octets are a number of 32 bits
pub control-two : (class : Bool) (output : List ℕ) (w : ℕ) → class ≡ false → w ≡ big_endian output % 2 ^ 32 → Octets output → length output ≡ 4
    → ◌≡◌ {A = Control} (record { word = w; sign = 0 }) (control_by class output)
control-two class output w t w-is os long =
    rw t (ap (λ (z : ℕ). record { word = z; sign = 0 }) (w-is ∙ N.mod-eq_of_lt (rw long at (big_endian-lt output os))))

input-by : (class : Bool) (k : Link) (a : Axis) (output : List ℕ)
    → input_by class k (control_by class output).word a ≡ cond class (Class4.input k (Class4.counted output) a) (Class2.input a)
input-by true k a output = refl
input-by false k a output = refl

pub input-two : (class : Bool) (k : Link) (w : ℕ) (b : Standing) (l i : List ℕ) → class ≡ false → b ≡ standing b.axis → length i ≡ input_octets class → l ≡ octets (length i) b.position.0
    → l ≡ input_by class k w b.axis
unfolding Class2.input
input-two class k w b l i t b-is long l-is = l-is ∙ rw (long, t, at_position b b-is)

-- ---- what follows on the raw number: x is the answer to it, c what the control sends, q the reaction, and b the axis after it with its positions
module _ (w : Life) (f : InForce) (k : Link) (output : List ℕ) (g : Fields) (x : Next) (at : Ready x.axis f) (c : Control) (c-is : c ≡ control_by g.class4 output)
    (q : Reaction) (q-is : q ≡ reaction g.class4 w f k (is_some x.refusal) c (to_z w64 (of_z w64 x.axis.stored))) where
  stored-lt : nat_abs x.axis.stored < f.span.0
  stored-lt = rw at.is (limits_of x.axis at.stands).stored

  reads-back : q ≡ reaction_to g.class4 w f k x output
  reads-back = q-is ∙ rw (reads (fits-abs {w = w64} x.axis.stored (omega (arith, stored-lt, at.shaft.sound.span-most))), c-is)

  pub preset-possible : Possible f q.preset
  preset-possible = rw reads-back (possible g.class4 w f k (is_some x.refusal) (control_by g.class4 output) x.axis.stored stored-lt)

  module _ (b : Standing) (b-is : b ≡ standing (preset_by x.axis q.preset)) where
    pub left-fields : g ≡ fields_of x.axis.parameters → g ≡ fields_of b.axis.parameters
    left-fields g-is = rw (b-is, (preset-same x.axis x.axis q.preset (refl, refl)).1) g-is

    pub left-standing : b ≡ standing b.axis
    left-standing = rw b-is

    pub done-answer : ◌≡◌ {A = Cycled} (record { axis = b.axis; link = q.link; refusal = None }) (responded g.class4 w f k x output)
    done-answer = rw (b-is, reads-back)

    pub done-input : (l : List ℕ) → l ≡ input_by g.class4 q.link c.word b.axis → l ≡ input_by g.class4 q.link (control_by g.class4 output).word b.axis
    done-input l l-is = l-is ∙ rw c-is

-- ---- an accepted cycle, of either telegram: x is the answer to its raw number
module _ (a : Axis) (f : InForce) (r : Ready a f) (k : Link) (raw : ℕ) (output : List ℕ) (g : Fields) (g-is : g ≡ fields_of a.parameters) (w : Life) (w-is : w ≡ life_of g)
    (x : Next) (x-is : x ≡ read_raw a raw) where
  pub taken-fields : g ≡ fields_of x.axis.parameters
  taken-fields = rw (x-is, (read_same a raw).1) g-is

  taken_is : x.axis ≡ taken_at a raw
  unfolding taken_at
  taken_is = rw x-is

  rules-is : f ≡ rules_on (taken_at a raw)
  rules-is = rw (← taken_is) (read-ready a f r raw x x-is).is

  reaction-is : reaction_to g.class4 w f k x output
      ≡ reaction (class4 a.parameters) (life a.parameters) f k (faulty_at a raw) (control_by (class4 a.parameters) output) (taken_at a raw).stored
  unfolding faulty_at taken_at
  reaction-is = rw (w-is, g-is, x-is)

  axis-is : preset_by x.axis (reaction_to g.class4 w f k x output).preset ≡ axis_after a k raw output
  axis-is = rw (after_is a k raw output, ← rules-is, reaction-is, taken_is)

  link-is : (reaction_to g.class4 w f k x output).link ≡ link_left a k raw output
  unfolding link_after
  link-is = rw (reaction-is, ← r.is) (link-by (class4 a.parameters) (life a.parameters) f k (faulty_at a raw) output _)

  module _ (c : Cycled) (c-is : c ≡ responded g.class4 w f k x output) where
    pub left-answer : c ≡ done (axis_after a k raw output) (link_left a k raw output)
    left-answer = c-is ∙ rw (axis-is, link-is)

    pub left-input : (l : List ℕ) → l ≡ input_by g.class4 c.link (control_by g.class4 output).word c.axis → l ≡ input_left a k raw output
    unfolding input_of
    left-input l l-is = l-is ∙ rw (left-answer, (after_same a k raw output).1, g-is) (input-by (class4 a.parameters) _ _ output)

pub ruleset responses = (preset-possible, left-fields, left-standing, done-answer, done-input)

pub ruleset cycles = (taken-fields, left-answer, left-input)
