-- After each entry of a batch the running values are the unshifted position and what dividing place × M by R leaves (document 02, request 4).
-- place × M goes around R × L × M. Rest, units and ranges are its digits, and an entry adds d × M to it.
use Rattle.std.specs.Prelude.{◌≡◌, refl, Bool, true, false, List, [], ◌∷◌, map, ℕ, ◌+◌, ◌*◌, ◌/◌, ◌%◌, ◌<◌, ltb, cond, ◌-◌, ℤ, pos, ◌+ℤ◌, ◌*ℤ◌}
use Rattle.std.proofs.Common.{sym, ap, arith, ltb-true, ltb-false}
use Rattle.std.proofs.Math.Arith.{digits_div}
use Rattle.integer.specs.{◌modulo◌, ◌quotient◌}
use Rattle.integer.proofs.{add_is, mul_is, modulo-lt, modulo-has, modulo-is, Splits, splits, around}
use Rattle.encoder.specs.{InForce, Sound}
use Rattle.axis_shaft.specs.{Shaft, Running, Share, Inside, period, move_of, moved_to, unshifted, Within, share_of, carried, onward, ran_to, running_of, shaft_of, runs, shafts, position_at, positions_in}
use Rattle.axis_shaft.proofs.{PlaceLaws.period-least}
use lib.{Arith.digits_mod}
use native.Mathlib.Nat as N

module _ (f : InForce) (s : Sound f) where
  abbrev R : ℕ
  R = f.steps.0

  abbrev M : ℕ
  M = f.scale.0

  abbrev L : ℕ
  L = f.span.0

  -- z is so many whole units and a rest
  record Comes (z : ℤ) (by : Share) : Type 0 where
    is : Splits z by.whole R by.part
    lt : by.part < R

  -- the rest and a move, with the carry
  carried-comes : (rest : ℕ) (d : ℤ) → rest < R → Comes (pos rest +ℤ d *ℤ pos M) (carried f rest (share_of f d))
  unfolding carried share_of
  carried-comes rest d h = go (ltb (rest + z modulo R) R) refl
    where
      z : ℤ
      z = d *ℤ pos M

      go : (b : Bool) → ltb (rest + z modulo R) R ≡ b
          → Comes (pos rest +ℤ z)
          (cond b (record { whole = z quotient R; part = rest + z modulo R }) (record { whole = z quotient R +ℤ pos 1; part = rest + z modulo R - R }))
      go true t =
          record { is = record { is = omega (arith, (splits z s.steps-least).is, add_is (pos rest) z) }; lt = ltb-true (rest + z modulo R) R t }
      go false t =
          let k = ltb-false (rest + z modulo R) R t in
          record {
            is = record { is = omega (arith, (splits z s.steps-least).is, add_is (pos rest) z, ap (λ (n : ℕ). n * R) (add_is (z quotient R) (pos 1))) };
            lt = omega (arith, modulo-lt z s.steps-least);
          }

  -- place × M goes around R × L × M as the place goes around R × L
  times-on : (place : ℕ) (d : ℤ) → (pos place +ℤ d) modulo period f * M ≡ (pos (place * M) +ℤ d *ℤ pos M) modulo (R * (L * M))
  times-on place d =
      let y = pos place +ℤ d in
      let h = modulo-has y (period-least f s) in
      sym
      (modulo-is (pos (place * M) +ℤ d *ℤ pos M) h.0 h.1
      (rw (N.mul_assoc R L M) at (N.mul-lt-mul_of_pos_right (modulo-lt y (period-least f s)) s.scale-least))
      (omega (arith, ap (λ (n : ℕ). n * M) h.2, ap (λ (n : ℕ). n * M) (add_is (pos place) d), add_is (pos (place * M)) (d *ℤ pos M), mul_is d (pos M))))

  -- units and ranges are the digits of what goes around L × M
  ranges-on : (ranges units : ℕ) (w : ℤ)
      → (pos (ranges * L + units) +ℤ w) modulo (L * M) ≡ (pos ranges +ℤ (pos units +ℤ w) quotient L) modulo M * L + (pos units +ℤ w) modulo L
  ranges-on ranges units w =
      let z = pos units +ℤ w in
      let q = z quotient L in
      around (modulo-lt z s.span-least)
      (record { is = omega (arith, (splits z s.span-least).is, add_is (pos (ranges * L + units)) w, add_is (pos units) w, ap (λ (x : ℕ). x * L) (add_is (pos ranges) q)) })
      s.scale-least

  -- one entry
  pub entry : (k : Shaft) (raw : ℕ) → ran_to f (running_of f k) raw ≡ running_of f (moved_to f k raw)
  unfolding ran_to onward running_of unshifted moved_to
  entry k raw =
      let d = move_of f k.last.0 raw in
      let x = k.place.0 * M in
      let by = carried f (x % R) (share_of f d) in
      let c = carried-comes (x % R) d (N.mod-lt x s.steps-least) in
      let u-lt = modulo-lt (pos (x / R % L) +ℤ by.whole) s.span-least in
      let h : Splits (pos x +ℤ d *ℤ pos M) (pos (x / R / L * L + x / R % L) +ℤ by.whole) R by.part
      = record {
        is = omega (
          arith,
          c.is.is,
          N.div-add-mod' x R,
          N.div-add-mod' (x / R) L,
          add_is (pos (x % R)) (d *ℤ pos M),
          add_is (pos x) (d *ℤ pos M),
          ap (λ (n : ℕ). n * R) (add_is (pos (x / R / L * L + x / R % L)) by.whole),
          ap (λ (n : ℕ). n * R) (N.div-add-mod' (x / R) L),
        );
      } in
      rw (
        times-on k.place.0 d,
        around c.lt h (N.mul-pos s.span-least s.scale-least),
        digits_mod _ c.lt,
        digits_div _ c.lt,
        ranges-on (x / R / L) (x / R % L) by.whole,
        digits_mod _ u-lt,
        digits_div _ u-lt,
      )

  -- ---- over the list
  pub each-entry : (k : Shaft) (raws : List ℕ) → runs f (running_of f k) raws ≡ map (running_of f) (shafts f k raws)
  unfolding runs shafts
  each-entry k [] = refl
  each-entry k (raw ∷ raws) = rw (entry k raw) (ap (λ (rs : List Running). running_of f (moved_to f k raw) ∷ rs) (each-entry (moved_to f k raw) raws))

  -- and each position of the batch is these units + offset, modulo L
  pub each-position : (offset : ℤ) (k : Shaft) (raws : List ℕ)
      → map (λ (r : Running). (pos r.units.0 +ℤ offset) modulo L) (runs f (running_of f k) raws) ≡ positions_in f offset k raws
  unfolding runs positions_in position_at running_of
  each-position offset k [] = refl
  each-position offset k (raw ∷ raws) =
      rw (entry k raw) (ap (λ (ps : List ℕ). position_at f offset (moved_to f k raw) ∷ ps) (each-position offset (moved_to f k raw) raws))

  -- ---- the shaft again
  pub shaft-again : (k : Shaft) → shaft_of f (running_of f k) ≡ k
  unfolding shaft_of running_of unshifted
  shaft-again k = let x = k.place.0 * M in rw (N.div-add-mod' (x / R) L, N.div-add-mod' x R, N.mul-div_cancel k.place.0 s.scale-least)

  pub running-within : (k : Shaft) → Inside f k → Within f (running_of f k)
  unfolding running_of unshifted
  running-within k i =
      let x = k.place.0 * M in
      let lt : x < M * L * R = omega (arith, N.mul-lt-mul_of_pos_right i.place s.scale-least) in
      record {
        units = N.mod-lt (x / R) s.span-least;
        rest = N.mod-lt x s.steps-least;
        ranges = (N.div-lt_iff_lt-mul s.span-least).1 ((N.div-lt_iff_lt-mul s.steps-least).1 lt);
        last = i.last;
      }
