-- The cycle of telegram 83. Its raw number is answered as in telegram 81, since the shaft that moves with a velocity is the shaft that moves; and NIST_B
-- stands behind the twelve octets.
use Rattle.std.specs.Prelude.{◌≡◌, Bool, true, false, cond, not, ◌&&◌, List, ◌++◌, ℕ, None, Ok, Err, ◌<◌, eqb, ℤ, pos, length, take, drop}
use Rattle.std.proofs.Common.{sym, ap, ◌∙◌, arith, eqb-true}
use borrow.Rule.Slice.PartMut.{put_mid, post_of}
use Rattle.std.specs.Int.{w32}
use mir.Val.{SFits, to_z, of_z}
use Rattle.integer.specs.{octets}
use Rattle.integer.proofs.{reads, then-number}
use Rattle.ring.specs.{complement}
use Rattle.encoder.specs.{Fields, InForce, Refusal, ◌before◌, fields_of, WrongBuffer, NothingElapsed, when}
use Rattle.encoder.proofs.{and_split, before-none, when-none}
use Rattle.axis_shaft.specs.{move_of}
use Rattle.axis_velocity.specs.{MovedAt, velocity_of, moved_at}
use Rattle.axis_velocity.proofs.{elapsed-least, rate-fits, at_moved, at-stays}
use Rattle.axis.specs.{Axis, Next, rules_on, Ready, accepted, refused, with_shaft, read_raw}
use Rattle.axis.proofs.{stands-none}
use Rattle.cyclic_link.specs.{Link, Life, life_of, link_refusal}
use Rattle.cyclic.specs.{Cycled, Measured, faulty_at, Class4.input, class4, control_by, input_by, responded, axis_after, input_of, link_left}
use Rattle.cyclic.specs.{input_left, done, nist_b, measured, input83, refusal83, cycle83_refusal}
use Rattle.cyclic.proofs.{StandingLaws.take-to, StandingLaws.take_no, CycleKept.read-ready, CycleKept.after_same, CycleLaws.class-is, CycleLaws.taken-fields, CycleLaws.left-answer, CycleLaws.left-input}

-- ---- the raw number and NIST_B
module _ (a : Axis) (f : InForce) (r : Ready a f) (raw e : ℕ) (some : 0 < e) where
  nist-at : (z : ℤ) → (read_raw a raw).refusal ≡ None → z ≡ velocity_of f a.shaft raw e → z ≡ nist_b a raw e
  unfolding nist_b faulty_at
  nist-at z taken z-is = z-is ∙ rw (taken, r.is)

  module _ (m : MovedAt) (q-is : Ok m ≡ moved_at f a.shaft raw e) where
    next-at : accepted (with_shaft a m.shaft) ≡ read_raw a raw
    next-at = take-to a f r raw m.shaft (sym (at_moved f a.shaft raw e some m q-is).0)

    velocity-is : to_z w32 (of_z w32 m.velocity) ≡ velocity_of f a.shaft raw e
    velocity-is = let i = (at_moved f a.shaft raw e some m q-is).1 in rw (i, reads (rate-fits f (move_of f a.shaft.last.0 raw) e))

    pub measured-at : ◌≡◌ {A = Measured} (record { next = accepted (with_shaft a m.shaft); velocity = to_z w32 (of_z w32 m.velocity) }) (measured a raw e)
    measured-at = rw (next-at, nist-at (to_z w32 (of_z w32 m.velocity)) (ap (λ (x : Next). x.refusal) (sym next-at)) velocity-is)

    pub measured-ready : Ready (with_shaft a m.shaft) f
    measured-ready = read-ready a f r raw (accepted (with_shaft a m.shaft)) next-at

  module _ (n : Refusal) (q-is : Err n ≡ moved_at f a.shaft raw e) where
    next-no : refused a n ≡ read_raw a raw
    next-no = take_no a f r raw n (sym (at-stays f a.shaft raw e some n q-is))

    pub measured-no : ◌≡◌ {A = Measured} (record { next = refused a n; velocity = pos 0 }) (measured a raw e)
    unfolding nist_b faulty_at
    measured-no = rw (← next-no)

-- NIST_B fits its word
nist-fits : (a : Axis) (raw e : ℕ) → SFits w32 (nist_b a raw e)
unfolding nist_b
nist-fits a raw e = by (faulty_at a raw)
  where
    by : (faulty : Bool) → SFits w32 (cond faulty (pos 0) (velocity_of (rules_on a) a.shaft raw e))
    by true = record { sfits = omega arith }
    by false = rate-fits (rules_on a) (move_of (rules_on a) a.shaft.last.0 raw) e

-- ---- the refusal; none tells class, lengths and time
pub lengths-83 : (class : Bool) (output input e : ℕ) → refusal83 class output input e ≡ None → (class ≡ true) × (0 < e) × (output ≡ 4) × (input ≡ 16)
unfolding refusal83
lengths-83 class output input e none =
    let h = before-none (when (not (class && eqb output 4 && eqb input 16)) WrongBuffer) (when (eqb e 0) NothingElapsed) none in
    let i = and_split (class && eqb output 4) (eqb input 16) (when-none _ _ h.0) in
    let j = and_split class (eqb output 4) i.0 in
    (j.0, elapsed-least e h.1, eqb-true _ _ j.1, eqb-true _ _ i.1)

pub passed-83 : (w : Life) (k : Link) (class : Bool) (output input e : ℕ) → (link_refusal w k before refusal83 class output input e) ≡ None
    → (class ≡ true) × (0 < e) × (output ≡ 4) × (input ≡ 16)
passed-83 w k class output input e none = lengths-83 class output input e (before-none (link_refusal w k) _ none).1

pub refusal83-is : (a : Axis) (f : InForce) (g : Fields) (w : Life) (k : Link) (e : ℕ) (output input : List ℕ) → Ready a f → g ≡ fields_of a.parameters → w ≡ life_of g
    → cycle83_refusal a k e output input ≡ (link_refusal w k before refusal83 g.class4 (length output) (length input) e)
unfolding cycle83_refusal
refusal83-is a f g w k e output input r g-is w-is = rw (w-is, g-is, stands-none a f r)

-- ---- the input of telegram 81 has twelve octets
pub twelve-long : (a : Axis) (k : Link) (raw : ℕ) (output : List ℕ) → class4 a.parameters ≡ true → length (input_left a k raw output) ≡ 12
unfolding input_of input octets
twelve-long a k raw output class = rw ((after_same a k raw output).1, class)

-- ---- an accepted cycle: m is the answer to the raw number with NIST_B, c what follows, i the twelve octets and j NIST_B in the lent buffer t
module _ (a : Axis) (f : InForce) (r : Ready a f) (k : Link) (raw e : ℕ) (output : List ℕ) (g : Fields) (g-is : g ≡ fields_of a.parameters) (class : g.class4 ≡ true)
    (w : Life) (w-is : w ≡ life_of g) (m : Measured) (m-is : m ≡ measured a raw e) where
  next-is : m.next ≡ read_raw a raw
  next-is = ap (λ (z : Measured). z.next) m-is

  pub next-fields : g ≡ fields_of m.next.axis.parameters
  next-fields = taken-fields a f r k raw output g g-is w w-is m.next next-is

  module _ (c : Cycled) (c-is : c ≡ responded g.class4 w f k m.next output) where
    pub answer-83 : c ≡ done (axis_after a k raw output) (link_left a k raw output)
    answer-83 = left-answer a f r k raw output g g-is w w-is m.next next-is c c-is

    pub octets-83 : (t i j : List ℕ) → length t ≡ 16 → i ≡ input_by g.class4 c.link (control_by g.class4 output).word c.axis
        → j ≡ octets (length (take 4 (drop 12 (i ++ post_of 0 12 t)))) (complement (to_z w32 (of_z w32 m.velocity)))
        → put_mid 12 4 (i ++ post_of 0 12 t) j ≡ input83 a k raw e output
    unfolding input83
    octets-83 t i j h i-is j-is =
        let l : i ≡ input_left a k raw output = left-input a f r k raw output g g-is w w-is m.next next-is c c-is i i-is in
        then-number 12 4 t i j (complement (to_z w32 (of_z w32 m.velocity))) h (rw l (twelve-long a k raw output (class-is a.parameters g g-is ∙ class))) j-is ∙ rw (l, m-is, reads (nist-fits a raw e))
