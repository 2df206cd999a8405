-- Request 2, the operator's case. Bit 31 rises with a value too large and stays up, through any number of cycles that are faulty or have a value too large;
-- none of them makes a preset. Then a cycle that is not faulty and has a value below L shows that value, and none after it makes a preset until the bit has
-- been 0. By induction on the cycles: the link is due through the waiting ones, and spent behind the good one (cyclic_link, Due.antt).
use Rattle.std.specs.Prelude.{◌≡◌, Bool, true, false, cond, List, [], ◌∷◌, ℕ, ◌<◌, pos}
use Rattle.std.proofs.Common.{ap}
use Rattle.integer.specs.{◌modulo◌, octets}
use Rattle.encoder.proofs.{before-none, when-none}
use Rattle.axis.specs.{rules_on, acceptable, axis_refusal, position_of, read_raw, asked, presetted}
use Rattle.axis.proofs.{Limits, limits_of, put_is, raw-kept}
use Rattle.cyclic_link.specs.{Link, Class2.due, Class2.made, Class2.link}
use Rattle.cyclic_link.proofs.{due-risen, due-still, makes, passes, rests, spent, waits}
use Rattle.cyclic.specs.{taken_at, word_of, Class2.axis, Class2.input, cycle_refusal, link_after, class4, axis_after, input_of, link_left, done, cycle, cycle_input}
use Rattle.cyclic.specs.Correction.{Exchange, answered, filled, link_behind, Up, faulty, sent, range, Waits, Each, NoPreset}
use Rattle.cyclic.proofs.CycleKept.{by-made, read_same, after_same}
use native.Mathlib.Nat as N
use Rattle.cyclic_link.specs.Class2 as Link2

-- ---- a cycle with the bit up: the link and the axis that it leaves
module _ (k : Link) (x : Exchange) (u : Up k x) where
  abbrev word : ℕ
  word = word_of x.output

  pub taken_is : answered k x ≡ done (axis_after x.axis k x.raw x.output) (link_left x.axis k x.raw x.output)
  unfolding cycle
  taken_is = rw u.taken

  link-is : (answered k x).link ≡ link (rules_on x.axis) k (faulty x) word
  unfolding link_after
  link-is = rw (taken_is, u.class2)

  taken-rules : rules_on (taken_at x.axis x.raw) ≡ rules_on x.axis
  unfolding rules_on taken_at
  taken-rules = let s = read_same x.axis x.raw in rw (s.0, s.1)

  axis-by : (b : Bool) → made (rules_on x.axis) k (faulty x) word ≡ b
      → (answered k x).axis ≡ cond b (presetted (taken_at x.axis x.raw) (pos (sent x)) false) (taken_at x.axis x.raw)
  unfolding axis_after axis
  axis-by b b-is = rw (taken_is, u.class2, taken-rules, b-is) (by-made _ _ b)

  unmoved : made (rules_on x.axis) k (faulty x) word ≡ false → (answered k x).axis ≡ (read_raw x.axis x.raw).axis
  unfolding taken_at
  unmoved e = axis-by false e

  -- ---- a cycle that makes its preset shows the value
  within : Limits (taken_at x.axis x.raw)
  unfolding taken_at cycle_refusal axis_refusal
  within =
      let a = x.axis in
      raw-kept a (limits_of a (when-none (acceptable a) _ (before-none (axis_refusal a) _ u.taken).0)) x.raw

  module _ (e : made (rules_on x.axis) k (faulty x) word ≡ true) (below : sent x < range x) where
    pub put : position_of (answered k x).axis ≡ sent x
    unfolding asked ◌modulo◌
    put = rw (axis-by true e, put_is (taken_at x.axis x.raw) within (pos (sent x)) false, taken-rules) (N.mod-eq_of_lt below)

    pub shows : filled k x ≡ octets 4 (sent x)
    unfolding cycle_input input_of input
    shows =
        let class : class4 (axis_after x.axis k x.raw x.output).parameters ≡ false = rw (after_same x.axis k x.raw x.output).1 u.class2 in
        rw (u.taken, class) (ap (octets 4) (rw taken_is at put))

-- ---- behind the waiting cycles a preset is due, and behind one that was made nothing is
due-behind : (k : Link) (xs : List Exchange) → Each Waits k xs → (w : ℕ) → Link2.asked w ≡ true → ((w : ℕ) → Link2.asked w ≡ true → due k w ≡ true)
    → due (link_behind k xs) w ≡ true
unfolding link_behind Each
due-behind k [] waiting w up d = d w up
due-behind k (y ∷ ys) waiting w up d =
    let v = waiting.0.0 in
    let word = word_of y.output in
    let still : (answered k y).link.due ≡ true = rw (link-is k y v) (waits (rules_on y.axis) k (faulty y) word (d word v.up) waiting.0.1) in
    due-behind (answered k y).link ys waiting.1 w up (λ w up. due-still (answered k y).link w up still)

none-waiting : (k : Link) (xs : List Exchange) → Each Waits k xs → Each NoPreset k xs
unfolding Each
none-waiting k [] waiting = tt
none-waiting k (x ∷ xs) waiting =
    let t = passes (rules_on x.axis) k (faulty x) (word_of x.output) waiting.0.1 in
    (unmoved k x waiting.0.0 t, none-waiting (answered k x).link xs waiting.1)

none-behind : (k : Link) (xs : List Exchange) → Each Up k xs → k.requested ≡ true → k.due ≡ false → Each NoPreset k xs
unfolding Each
none-behind k [] up r d = tt
none-behind k (x ∷ xs) up r d =
    let u = up.0 in
    let t = rests (rules_on x.axis) k (faulty x) (word_of x.output) u.up r d in
    (unmoved k x u t.0, none-behind (answered k x).link xs up.1 (rw (link-is k x u) t.1) (rw (link-is k x u) t.2))

-- ---- the theorem: bit 31 was 0 before, so that it rises in the first of these cycles
pub corrected : (k : Link) → k.requested ≡ false → (waiting : List Exchange) → Each Waits k waiting
    → let j = link_behind k waiting in
    (good : Exchange) → Up j good → faulty good ≡ false → sent good < range good
    → Each NoPreset k waiting
    × (filled j good ≡ octets 4 (sent good))
    × (position_of (answered j good).axis ≡ sent good)
    × ((more : List Exchange) → Each Up (answered j good).link more → Each NoPreset (answered j good).link more)
corrected k down waiting w good u sound below =
    let j = link_behind k waiting in
    let word = word_of good.output in
    let f = rules_on good.axis in
    let m = makes f j (faulty good) word (due-behind k waiting w word u.up (λ w up. due-risen k w up down)) u.on sound below in
    let t = spent f j (faulty good) word u.up m in (
      none-waiting k waiting w,
      shows j good u m below,
      put j good u m below,
      λ more up. none-behind (answered j good).link more up (rw (link-is j good u) t.0) (rw (link-is j good u) t.1),
    )

-- with nothing between two cycles, the second gets the axis of the first, and it is of class 2 with the class on too
pub at_once : (k : Link) (x : Exchange) → Up k x → (class4 (answered k x).axis.parameters ≡ false) × ((rules_on (answered k x).axis).enabled ≡ true)
unfolding rules_on
at_once k x u =
    let s = after_same x.axis k x.raw x.output in
    (rw (taken_is k x u, s.1) u.class2, rw (taken_is k x u, s.0, s.1) u.on)
