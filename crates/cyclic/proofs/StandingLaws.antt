-- The raw number and the preset of a cycle. Nothing refuses a preset that is made, and the position after it is the one that it asks for.
use Rattle.std.specs.Prelude.{◌≡◌, refl, ℕ, ◌<◌, ℤ, pos, nat_abs, ◌+ℤ◌, ◌-ℤ◌, T, Result, Ok, Err, IsOk}
use Rattle.std.proofs.Common.{ap, arith, ◌∙◌}
use Rattle.std.specs.Int.Signed.{non_neg}
use Rattle.std.specs.Int.{w64, w32}
use mir.Val.{Fits, SFits}
use mir.Val.{to_z, of_z}
use Rattle.std.proofs.lemmas.Int.{to_z_pos}
use Rattle.integer.proofs.{signed, add_is, diff_is, reads, fits-abs}
use Rattle.encoder.specs.{InForce, Refusal}
use Rattle.encoder.proofs.{value-is, refused-by}
use Rattle.axis_shaft.specs.{Shaft, Reported, moved_to, shaft_refusal, moved, reported_at}
use Rattle.axis_offset.specs.{offset_by}
use Rattle.axis.specs.{Axis, rules_on, Ready, unshifted_of, positions_of, accepted, refused, with_shaft, at_raw, read_raw_refusal, read_raw, asked, shifted, presetted}
use Rattle.axis.proofs.{Limits, limits_of, apart-lt, asked-lt, put_is, unshifted-lt, ready-reported, reported-is, position-is, shifted-is, stands-none}
use Rattle.cyclic_link.specs.{Preset, Allowed}
use Rattle.cyclic.specs.{Standing, standing}
use Rattle.cyclic.proofs.CycleKept.{read-ready}

-- ---- the raw number
module _ (a : Axis) (f : InForce) (r : Ready a f) (raw : ℕ) where
  pub take-to : (k : Shaft) → Ok k ≡ moved f a.shaft raw → accepted (with_shaft a k) ≡ read_raw a raw
  unfolding read_raw read_raw_refusal at_raw moved
  take-to k m-is = let i = value-is (moved_to f a.shaft raw) (shaft_refusal f a.shaft raw) k m-is in rw (stands-none a f r, ← r.is, i.0, i.1)

  pub take_no : (n : Refusal) → Err n ≡ moved f a.shaft raw → refused a n ≡ read_raw a raw
  unfolding read_raw read_raw_refusal moved
  take_no n m-is = rw (stands-none a f r, ← r.is, refused-by (moved_to f a.shaft raw) (shaft_refusal f a.shaft raw) n m-is)

  pub took-to : (k : Shaft) → Ok k ≡ moved f a.shaft raw → Ready (with_shaft a k) f
  took-to k m-is = read-ready a f r raw (accepted (with_shaft a k)) (take-to k m-is)

pub ruleset takes = (take-to, take_no, took-to)

-- ---- the preset
module _ (a : Axis) (f : InForce) (r : Ready a f) where
  -- it always has a position
  pub has-position : (q : Result Reported Refusal) → q ≡ reported_at f (to_z w64 (of_z w64 a.offset)) a.shaft → IsOk q
  has-position q q-is = rw (ready-reported a f q r q-is ∙ reported-is a (limits_of a r.stands)) refl

  module _ (q : Reported) (q-is : Ok q ≡ reported_at f (to_z w64 (of_z w64 a.offset)) a.shaft) where
    here : q ≡ positions_of a
    here = position-is a f r q (ready-reported a f (Ok q) r q-is)

    pub stands-still : ◌≡◌ {A = Standing} (record { axis = a; position = q.position; unshifted = q.unshifted }) (standing a)
    stands-still = rw here

    -- a new offset z
    module _ (o : Preset) (p : Allowed f o) (z : ℤ) (z-is : z ≡ offset_by f.span.0 q.position.0 q.unshifted.0 (to_z w64 (of_z w64 o.value)) o.relative) where
      limits : Limits a
      limits = limits_of a r.stands

      -- the position that the preset asks for, and the new offset
      abbrev to : ℕ
      to = asked a o.value o.relative

      to-lt : to < f.span.0
      to-lt = rw r.is (asked-lt a limits o.value o.relative)

      value-fits : SFits w64 o.value
      value-fits = fits-abs o.value (omega (arith, p.below, r.shaft.sound.span-most))

      shift : shifted a z (to_z w64 (of_z w64 o.value)) ≡ presetted a o.value o.relative
      shift = shifted-is a f r o.value value-fits q q-is o.relative z z-is

      offset-is : z ≡ pos to -ℤ pos (unshifted_of a)
      unfolding presetted
      offset-is = ap (λ (x : Axis). x.offset) shift

      from-lt : unshifted_of a < f.span.0
      from-lt = rw r.is (unshifted-lt a limits)

      offset-fits : SFits w64 z
      offset-fits = rw offset-is (fits-abs _ (omega (arith, apart-lt to (unshifted_of a) f.span.0 to-lt from-lt, r.shaft.sound.span-most)))

      -- unshifted position + new offset is this position
      abbrev sum : ℤ
      sum = to_z w64 q.unshifted.0 +ℤ to_z w64 (of_z w64 z)

      sum_is : sum ≡ pos to
      sum_is =
          let n = unshifted_of a in
          let d = pos to -ℤ pos n in
          let e : pos n +ℤ d ≡ pos to = omega (signed, add_is (pos n) d, diff_is (pos to) (pos n)) in
          rw (reads offset-fits, here, to_z_pos w64 n (omega (arith, from-lt, r.shaft.sound.span-most)), offset-is) e

      to-fits : SFits w64 (pos to)
      to-fits = record { sfits = omega (arith, to-lt, r.shaft.sound.span-most) }

      pub sum_fits : SFits w64 sum
      sum_fits = rw sum_is to-fits

      pub sum-positive : T (non_neg (to_z w64 (of_z w64 sum)))
      sum-positive = rw (sum_is, reads to-fits) tt

      pub sum-32 : Fits w32 (nat_abs (to_z w64 (of_z w64 sum)))
      sum-32 = rw (sum_is, reads to-fits) (record { fits = omega (arith, to-lt, r.shaft.sound.span-most) })

      unshifted-kept : unshifted_of (presetted a o.value o.relative) ≡ unshifted_of a
      unfolding presetted unshifted_of rules_on
      unshifted-kept = refl

      pub stands-there : ◌≡◌ {A = Standing} (record { axis = shifted a (to_z w64 (of_z w64 z)) (to_z w64 (of_z w64 o.value)); position = record { 0 = nat_abs (to_z w64 (of_z w64 sum)) }; unshifted = q.unshifted }) (standing (presetted a o.value o.relative))
      stands-there = rw (sum_is, reads to-fits, reads offset-fits, shift, put_is a limits o.value o.relative, unshifted-kept, here)

pub ruleset presets = (stands-still, sum_fits, sum-positive, sum-32, stands-there)
