-- A call on an axis within its limits yields an axis within its limits: each rule keeps within them what it changes. A started axis is within them,
-- and the record of a refused start is not.
use Rattle.std.specs.Prelude.{◌≡◌, refl, Bool, true, false, not, ℕ, Option, None, Some, ◌<◌, ltb, leb, ℤ, pos, nat_abs, ◌+ℤ◌, ◌-ℤ◌}
use Rattle.std.proofs.Common.{arith, ltb-true, leb-false}
use Rattle.integer.proofs.{signed, apart, add_is, diff_is, abs_is, modulo-lt, modulo-is}
use Rattle.ring.specs.{in_range}
use Rattle.encoder.specs.{Nameplate, Parameters, Refusal, WrongTurn, WrongPreset, ClassOff, when, ◌before◌, capacity_of, fields_of, refusal_on, rules_of}
use Rattle.encoder.proofs.{before-none, when-none, when-not, taken-sound}
use Rattle.sensor.specs.{raw_of, step_refusal}
use Rattle.sensor.proofs.{reading-lt}
use Rattle.axis_shaft.specs.{nowhere, started as shaft_started, unshifted, position_at, shaft_refusal}
use Rattle.axis_shaft.proofs.{inside_is, nowhere-out, started-kept as shaft-started}
use Rattle.axis_offset.specs.{value_refusal}
use Rattle.axis.specs.{Axis, Next, rules_on, acceptable, axis_refusal, unshifted_of, position_of, next, fresh, start_refusal, start, start_raw_refusal, start_raw}
use Rattle.axis.specs.{at_raw, read_raw_refusal, read_raw, read_refusal, read, preset_refusal, asked, presetted, preset, holding, store}
use Rattle.axis.proofs.{AxisLaws.Limits, AxisLaws.limits_of, AxisLaws.accepts, ReadingLaws.first, ReadingLaws.at-raw-kept}
use native.Mathlib.Nat as N

pub apart-lt : (x y n : ℕ) → x < n → y < n → nat_abs (pos x -ℤ pos y) < n
apart-lt x y n h k = let z = pos x -ℤ pos y in omega (signed, diff_is (pos x) (pos y), abs_is z, apart z)

-- a refused call yields the same axis, an accepted one the new axis
pub by_refusal : (a b : Axis) (n : Option Refusal) → Limits a → (n ≡ None → Limits b) → Limits (next a n b).axis
by_refusal a b None l k = k refl
by_refusal a b (Some r) l k = l

module _ (a : Axis) (l : Limits a) where
  -- ---- an accepted reading moves the shaft within its limits
  pub raw-kept : (raw : ℕ) → Limits (read_raw a raw).axis
  unfolding read_raw read_raw_refusal
  raw-kept raw = by_refusal a (at_raw a raw) (read_raw_refusal a raw) l (λ e. at-raw-kept a l raw (before-none (axis_refusal a) _ e).1)

  pub read_kept : (s t : ℕ) → Limits (read a s t).axis
  unfolding read read_refusal
  read_kept s t =
      let raw = raw_of a.nameplate s t in
      let later = shaft_refusal (rules_on a) a.shaft raw in
      by_refusal a (at_raw a raw) (read_refusal a s t) l (λ e. at-raw-kept a l raw (before-none (step_refusal a.nameplate s t) later (before-none (axis_refusal a) _ e).1).1)

  -- ---- a preset's offset is a difference of two positions, and its value was tested
  span-least : 0 < (rules_on a).span.0
  span-least = l.shaft.sound.span-least

  pub asked-lt : (v : ℤ) (relative : Bool) → asked a v relative < (rules_on a).span.0
  unfolding asked
  asked-lt v true = modulo-lt (pos (position_of a) +ℤ v) span-least
  asked-lt v false = modulo-lt v span-least

  -- so the position becomes the one that is asked for
  pub put_is : (v : ℤ) (relative : Bool) → position_of (presetted a v relative) ≡ asked a v relative
  unfolding position_of position_at presetted unshifted_of rules_on
  put_is v relative =
      let u = unshifted (rules_on a) a.shaft in
      let n = asked a v relative in
      modulo-is (pos u +ℤ (pos n -ℤ pos u)) 0 0 (asked-lt v relative) (omega (arith, add_is (pos u) (pos n -ℤ pos u), diff_is (pos n) (pos u)))

  pub unshifted-lt : unshifted_of a < (rules_on a).span.0
  unfolding unshifted_of unshifted
  unshifted-lt = N.mod-lt _ span-least

  value-lt : (v : ℤ) → preset_refusal a v ≡ None → nat_abs v < (rules_on a).span.0
  unfolding preset_refusal value_refusal in_range
  value-lt v e =
      let f = rules_on a in
      let later = when (not (ltb (nat_abs v) f.span.0)) WrongPreset in
      let h = (before-none (when (not f.enabled) ClassOff) later (before-none (axis_refusal a) _ e).1).1 in
      ltb-true (nat_abs v) f.span.0 (when-none _ _ h)

  pub presetted-kept : (v : ℤ) (relative : Bool) → nat_abs v < (rules_on a).span.0 → Limits (presetted a v relative)
  unfolding presetted rules_on
  presetted-kept v relative h =
      record {
        none = l.none;
        shaft = l.shaft;
        offset = apart-lt (asked a v relative) (unshifted_of a) (rules_on a).span.0 (asked-lt v relative) unshifted-lt;
        preset = h;
        stored = l.stored;
      }

  pub preset-kept : (v : ℤ) (relative : Bool) → Limits (preset a v relative).axis
  unfolding preset
  preset-kept v relative = by_refusal a (presetted a v relative) (preset_refusal a v) l (λ e. presetted-kept v relative (value-lt v e))

  pub store_kept : (v : ℤ) → Limits (store a v).axis
  unfolding store rules_on
  store_kept v =
      by_refusal a (holding a v) (preset_refusal a v) l
      (λ e. record { none = l.none; shaft = l.shaft; offset = l.offset; preset = l.preset; stored = value-lt v e })

-- ---- the start: what is started is acceptable, and what is refused is no axis
pub begun_kept : (n : Nameplate) (p : Parameters) (raw : ℕ) → refusal_on n p ≡ None → raw < capacity_of n → Limits (fresh n p (shaft_started (rules_of n (fields_of p)) raw))
unfolding rules_on rules_of
begun_kept n p raw e h =
    let s = taken-sound n p e in
    record {
      none = e;
      shaft = shaft-started (rules_of n (fields_of p)) raw s h;
      offset = s.span-least;
      preset = s.span-least;
      stored = s.span-least;
    }

module _ (n : Nameplate) (p : Parameters) (raw : ℕ) (later : Option Refusal) where
  abbrev begins : Option Refusal → Next
  begins k = next (fresh n p nowhere) k (first n p raw)

  -- k is the refusal of plate, parameters and first reading; an accepted first reading is below C
  by-start : (k : Option Refusal) → (refusal_on n p before later) ≡ k → (later ≡ None → raw < capacity_of n) → (begins k).refusal ≡ None → acceptable (begins k).axis ≡ true
  by-start None e below z = let h = before-none (refusal_on n p) later e in accepts _ (begun_kept n p raw h.0 (below h.1))
  by-start (Some r) e below z = cc

  by-refused : (k : Option Refusal) → ((begins k).refusal ≡ None → ⊥) → acceptable (begins k).axis ≡ false
  by-refused None z = absurd (z refl)
  by-refused (Some r) z = outside-nowhere (acceptable (fresh n p nowhere)) refl
    where
      outside-nowhere : (b : Bool) → acceptable (fresh n p nowhere) ≡ b → b ≡ false
      outside-nowhere false e = refl
      outside-nowhere true e =
          let i = (limits_of (fresh n p nowhere) e).shaft in
          nowhere-out (rules_on (fresh n p nowhere)) true (inside_is (rules_on (fresh n p nowhere)) nowhere i)

module _ (n : Nameplate) (p : Parameters) (s t : ℕ) where
  pub started-kept : (start n p s t).refusal ≡ None → acceptable (start n p s t).axis ≡ true
  unfolding start start_refusal
  started-kept z = by-start n p (raw_of n s t) (step_refusal n s t) (start_refusal n p s t) refl (reading-lt n s t) z

  pub refused-outside : ((start n p s t).refusal ≡ None → ⊥) → acceptable (start n p s t).axis ≡ false
  unfolding start
  refused-outside z = by-refused n p (raw_of n s t) (step_refusal n s t) (start_refusal n p s t) z

module _ (n : Nameplate) (p : Parameters) (raw : ℕ) where
  -- a raw number that is taken is below C
  pub number_lt : when (leb (capacity_of n) raw) WrongTurn ≡ None → raw < capacity_of n
  number_lt none = leb-false _ _ (when-not _ _ none)

  pub raw-started-kept : (start_raw n p raw).refusal ≡ None → acceptable (start_raw n p raw).axis ≡ true
  unfolding start_raw start_raw_refusal
  raw-started-kept z = by-start n p raw (when (leb (capacity_of n) raw) WrongTurn) (start_raw_refusal n p raw) refl number_lt z

  pub raw-refused-outside : ((start_raw n p raw).refusal ≡ None → ⊥) → acceptable (start_raw n p raw).axis ≡ false
  unfolding start_raw
  raw-refused-outside z = by-refused n p raw None (start_raw_refusal n p raw) z
