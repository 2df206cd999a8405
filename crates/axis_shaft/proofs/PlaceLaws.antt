-- The place: R × L and its products fit the machine's words, and each function gives what its definition says.
use Rattle.std.specs.Prelude.{◌≡◌, refl, ℕ, ◌-◌, ◌*◌, ◌/◌, ◌%◌, ◌^◌, ◌≤◌, ◌<◌, ℤ, pos, ◌+ℤ◌}
use Rattle.std.proofs.Common.{◌∙◌, arith}
use Rattle.std.specs.Int.{w64, w32}
use mir.Val.{Fits, SFits, to_z, of_z}
use Rattle.integer.specs.{◌modulo◌}
use Rattle.integer.proofs.{add_is, reads, modulo-lt, modulo-alike}
use Rattle.ring.specs.{on_ring}
use Rattle.ring.proofs.{on-ring}
use Rattle.encoder.specs.{InForce, Sound}
use Rattle.axis_shaft.specs.{Shaft, period, Inside, move_of, moved_to, unshifted, position_at}
use Rattle.axis_shaft.proofs.SensorLaws.{move-fits}
use native.Mathlib.Nat as N

-- ---- R × L
module _ (f : InForce) (s : Sound f) where
  period-most : period f ≤ 2 ^ 47
  period-most = let h : period f ≤ 65536 * 2 ^ 31 = N.mul-le-mul s.steps-most s.span-most in omega arith

  pub period-least : 0 < period f
  period-least = let h : 1 * 1 ≤ period f = N.mul-le-mul s.steps-least s.span-least in omega arith

  pub period-fits : Fits w64 (period f)
  period-fits = record { fits = omega (arith, period-most) }

module _ (f : InForce) (k : Shaft) (i : Inside f k) where
  -- ---- a reading
  pub moved-is : (raw r n : ℕ) (d : ℤ) → d ≡ move_of f k.last.0 raw → n ≡ period f → r ≡ on_ring (pos k.place.0 +ℤ to_z w64 (of_z w64 d)) n
      → record { place = record { 0 = r }; last = record { 0 = raw } } ≡ moved_to f k raw
  unfolding moved_to
  moved-is raw r n d d-is n-is r-is =
      let z = move_of f k.last.0 raw in
      let h = period-least f i.sound in
      let fits : SFits w64 d = rw d-is (move-fits f k.last.0 raw i.sound) in
      let e : r ≡ (pos k.place.0 +ℤ z) modulo period f = r-is ∙ rw (reads fits, n-is, on-ring _ _ h, d-is) in
      let p : r ≡ (moved_to f k raw).place.0
      = e ∙ modulo-alike (pos k.place.0 +ℤ z) _ 0 0 h (omega (arith, add_is (pos k.place.0) z, add_is z (pos k.place.0))) in
      rw p

  -- ---- the positions
  pub units-fit : (n : ℕ) → n ≤ 65536 → Fits w64 (k.place.0 * n)
  units-fit n most =
      let m : k.place.0 ≤ 2 ^ 47 - 1 = omega (arith, i.place, period-most f i.sound) in
      let h : k.place.0 * n ≤ (2 ^ 47 - 1) * 65536 = N.mul-le-mul m most in
      record { fits = omega arith }

  pub span_fits : (x : ℕ) → Fits w32 (x % f.span.0)
  span_fits x = record { fits = omega (arith, N.mod-lt x i.sound.span-least, i.sound.span-most) }

  pub span-lt : (x : ℕ) → x % f.span.0 < f.span.0
  span-lt x = N.mod-lt x i.sound.span-least

  pub unshifted-is : k.place.0 * f.scale.0 / f.steps.0 % f.span.0 ≡ unshifted f k
  unfolding unshifted
  unshifted-is = refl

  pub position-fits : (z : ℤ) (r : ℕ) → r ≡ on_ring z f.span.0 → Fits w32 r
  position-fits z r e =
      let h : r ≡ z modulo f.span.0 = e ∙ on-ring z _ i.sound.span-least in
      record { fits = omega (arith, modulo-lt z i.sound.span-least, i.sound.span-most) }

  pub position-is : (u r : ℕ) (offset : ℤ) → SFits w64 offset → u ≡ unshifted f k
      → r ≡ on_ring (pos u +ℤ to_z w64 (of_z w64 offset)) f.span.0 → r ≡ position_at f offset k
  unfolding position_at
  position-is u r offset fits u-is r-is =
      let x = pos (unshifted f k) in
      let h = i.sound.span-least in
      let e : r ≡ (x +ℤ offset) modulo f.span.0 = r-is ∙ rw (reads fits, on-ring _ _ h, u-is) in
      e ∙ modulo-alike (x +ℤ offset) _ 0 0 h (omega (arith, add_is x offset, add_is offset x))

pub ruleset places = (period-fits, period-least, moved-is, units-fit, span_fits, span-lt, unshifted-is, position-fits, position-is)
