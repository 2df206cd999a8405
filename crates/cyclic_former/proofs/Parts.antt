-- The parts of a cycle without a sign of life, beside those of the former rules. The counter is at no stop, and the only code is 0001h: so the code that is held
-- is 0001h just when the former rules hold an error. By cases.
use Rattle.std.specs.Prelude.{◌≡◌, refl, Bool, true, false, cond, not, ◌&&◌, ◌||◌, List, ℕ, eqb}
use Rattle.std.proofs.Common.{eqb-true}
use Rattle.encoder.specs.{InForce}
use Rattle.axis.specs.{Axis, rules_on, position_of}
use Rattle.cyclic_link.specs.{Life, Link, code_by, code, held, within}
use Rattle.cyclic_link.proofs.{link-limits, heard-off}
use Rattle.cyclic.specs.{word_of, counted, sign, heard_in, stopped_in, xist2}
use Rattle.cyclic_link.specs.Class2 as Class2
use Rattle.cyclic_link.specs.Class4 as Class4
use Rattle.cyclic.specs.Class2 as Cycle2
use Rattle.cyclic.specs.Class4 as Cycle4
use Rattle.cyclic_former.specs.Former as Former

module _ (w : Life) (k : Link) (off : w.on ≡ false) (limits : within w k ≡ true) where
  -- ---- the code of a link within its limits
  code_is : k.code ≡ cond k.error 1 0
  code_is = by k.error refl
    where
      left : (b : Bool) → (b || false) ≡ true → b ≡ true
      left true e = refl
      left false e = e

      by : (e : Bool) → k.error ≡ e → k.code ≡ cond e 1 0
      by true e = eqb-true k.code 1 (left _ (rw (e, off) at (link-limits w k limits).coded))
      by false e = eqb-true k.code 0 (rw e at (link-limits w k limits).coded)

  pub second_is : (a : Axis) → xist2 k a ≡ Former.xist2 (Former.rest k) a
  second_is a = rw code_is (by k.error)
    where
      by : (e : Bool) → cond e (cond e 1 0) (position_of a) ≡ cond e 1 (position_of a)
      by true = refl
      by false = refl

  -- ---- the error of a cycle
  code-by : (faulty park acknowledge : Bool) → code_by k false faulty park acknowledge ≡ cond (Former.held_by (Former.rest k) faulty park acknowledge) 1 0
  code-by faulty park acknowledge = rw code_is (by k.error (k.acknowledged && not acknowledge) faulty park)
    where
      by : (e c f p : Bool) → let arises = e || (f && not p) in
          ◌≡◌ {A = ℕ} (cond (c && not (f || false)) 0 (cond e (cond e 1 0) (cond (f && not p) 1 0))) (cond (cond c (arises && f) arises) 1 0)
      by true true true p = refl
      by true true false p = refl
      by true false f p = refl
      by false true true true = refl
      by false true true false = refl
      by false true false p = refl
      by false false true true = refl
      by false false true false = refl
      by false false false p = refl

  held-is : (faulty : Bool) (word : ℕ) → held k false faulty word ≡ Former.held (Former.rest k) faulty word
  unfolding code Former.held
  held-is faulty word =
      rw (code-by faulty (Class4.parked word) (Class4.acknowledges word)) (by (Former.held_by (Former.rest k) faulty (Class4.parked word) (Class4.acknowledges word)))
    where
      by : (h : Bool) → not (eqb (cond h 1 0) 0) ≡ h
      by true = refl
      by false = refl

  -- ---- class 4: preset and link
  module _ (f : InForce) (faulty : Bool) (word : ℕ) where
    made4-is : Class4.made f k false faulty word ≡ Former.made4 f (Former.rest k) faulty word
    unfolding Class4.made Former.made4
    made4-is = rw (held-is faulty word)

    link4-is : Former.rest (Class4.link f k false faulty word) ≡ Former.link4 f (Former.rest k) faulty word
    unfolding Class4.link Former.link4
    link4-is = rw (held-is faulty word, made4-is)

  -- ---- both classes
  module _ (output : List ℕ) where
    stopped-off : stopped_in w k output ≡ false
    stopped-off = rw off

    pub link-by : (class : Bool) (f : InForce) (faulty : Bool)
        → Former.rest (cond class (Class4.link f (heard_in w k output) (stopped_in w k output) faulty (counted output)) (Class2.link f k faulty (word_of output)))
        ≡ cond class (Former.link4 f (Former.rest k) faulty (counted output)) (Former.link2 f (Former.rest k) faulty (word_of output))
    unfolding Class2.made Class2.link Former.made2 Former.link2
    link-by true f faulty = rw (stopped-off, heard-off w k (sign output) off) (link4-is f faulty (counted output))
    link-by false f faulty = refl

    pub axis-by : (class : Bool) (b : Axis) (faulty : Bool)
        → cond class (Cycle4.axis b (heard_in w k output) (stopped_in w k output) faulty (counted output)) (Cycle2.axis b k faulty (word_of output))
        ≡ cond class (Former.axis4 b (Former.rest k) faulty (counted output)) (Former.axis2 b (Former.rest k) faulty (word_of output))
    unfolding Cycle2.axis Cycle4.axis Class2.made Former.made2
    axis-by true b faulty = rw (stopped-off, heard-off w k (sign output) off, made4-is (rules_on b) faulty (counted output))
    axis-by false b faulty = refl
