-- Units and rest through a batch, in machine words. Units that stay within the total range need no remainder by L, nor do positions; where a total
-- range ends, the units are counted ahead by whole rounds of M total ranges and divided by L as a natural number.
use Rattle.std.specs.Prelude.{◌≡◌, refl, true, ◌&&◌, ℕ, ◌+◌, ◌*◌, ◌/◌, ◌%◌, ◌^◌, ◌≤◌, ◌<◌, T, ltb, leb, ℤ, pos, negsuc, nat_abs, ◌+ℤ◌, ◌-ℤ◌}
use Rattle.std.proofs.Common.{sym, ◌∙◌, ap, arith}
use Rattle.std.proofs.lemmas.Bool.{false≢true}
use Rattle.std.proofs.Common.{ltb-true}
use Rattle.std.specs.Int.Signed.{lt_z, non_neg}
use Rattle.std.specs.Int.{w64, w32}
use mir.Val.{Fits, SFits, to_z, of_z}
use Rattle.std.proofs.lemmas.Int.{to_z_pos}
use Rattle.integer.specs.{◌modulo◌}
use Rattle.integer.proofs.{above, below, apart, add_is, diff_is, of_eq, reads, abs_is, fits-abs, modulo-lt, modulo-is, Splits, splits-rest, splits-whole}
use Rattle.ring.specs.{on_ring}
use Rattle.ring.proofs.{on-ring}
use Rattle.encoder.specs.{InForce, Sound}
use Rattle.encoder.proofs.{and_split}
use Rattle.axis_shaft.specs.{Shaft, Running, Share, Lead, Within, lead_of, share_of, carried, onward, ran_to, running_of, shaft_of, unshifted, move_of}
use Rattle.axis_shaft.proofs.{SensorLaws.move-fits, SensorLaws.move-most}
use Rattle.axis_shaft.proofs.{ShareLaws.share-most, ShareLaws.share_part, ShareLaws.carried-most, ShareLaws.round_of, ShareLaws.rounds_of, ShareLaws.round-most, ShareLaws.lead-rounds}
use Rattle.axis_shaft.proofs.AheadLaws.{ahead-fits, ahead-above, ahead-cast, ahead-is}
use lib.{Arith.digits_lt, Signed.le_z}
use native.Mathlib.Nat as N

-- ---- the place again: units, rest and ranges tell it
module _ (f : InForce) (s : Sound f) (k : Running) (w : Within f k) where
  abbrev all : ℕ
  all = k.ranges * f.span.0 + k.units.0

  all-lt : all < round_of f
  all-lt = digits_lt w.ranges w.units

  pub ranges-fit : Fits w64 (k.ranges * f.span.0)
  ranges-fit = record { fits = omega (arith, all-lt, round-most f s) }

  pub all-fits : Fits w64 (k.ranges * f.span.0 + k.units.0)
  all-fits = record { fits = omega (arith, all-lt, round-most f s) }

  pub parts-of-fit : Fits w64 ((k.ranges * f.span.0 + k.units.0) * f.steps.0)
  parts-of-fit = record { fits = omega (arith, place-parts) }
    where
      place-parts : (all * f.steps.0 + k.rest < f.scale.0 * f.span.0 * f.steps.0) × (f.scale.0 * f.span.0 * f.steps.0 ≤ 65536 * 2 ^ 31 * 65536)
      place-parts = (digits_lt all-lt w.rest, N.mul-le-mul (round-most f s) s.steps-most)

  pub parts-all-fit : Fits w64 ((k.ranges * f.span.0 + k.units.0) * f.steps.0 + k.rest)
  parts-all-fit =
      let g = digits_lt {c = f.steps.0} all-lt w.rest in
      let h = N.mul-le-mul (round-most f s) s.steps-most in
      record { fits = omega arith }

pub shaft-is : (f : InForce) (k : Running)
    → record { place = record { 0 = ((k.ranges * f.span.0 + k.units.0) * f.steps.0 + k.rest) / f.scale.0 }; last = k.last } ≡ shaft_of f k
unfolding shaft_of
shaft-is f k = refl

pub ruleset tells = (ranges-fit, all-fits, parts-of-fit, parts-all-fit, shaft-is)

-- ---- a total range goes on
not_beyond : (z : ℤ) (n : ℕ) → (le_z (pos 0) z && lt_z z (pos n)) ≡ true → (a : ℕ) × (z ≡ pos a) × (a < n)
not_beyond (pos a) n t = (a, refl, ltb-true a n (and_split (leb 0 a) (ltb a n) t).1)
not_beyond (negsuc a) n t = absurd (false≢true t)

module _ (f : InForce) (s : Sound f) (k : Running) (w : Within f k) (by : Share) (small : nat_abs by.whole ≤ 2 ^ 51) where
  by_fits : SFits w64 by.whole
  by_fits = fits-abs by.whole (omega arith)

  abbrev to : ℤ
  to = to_z w64 k.units.0 +ℤ to_z w64 (of_z w64 by.whole)

  to_is : to ≡ pos k.units.0 +ℤ by.whole
  to_is = rw (reads by_fits, to_z_pos w64 k.units.0 (omega (arith, w.units, s.span-most)))

  pub to-fits : SFits w64 to
  to-fits =
      let z = pos k.units.0 +ℤ by.whole in
      rw to_is (fits-abs z (omega (arith, w.units, s.span-most, abs_is by.whole, abs_is z, add_is (pos k.units.0) by.whole, apart z)))

  -- a total range goes on: units below L, and no range more
  module _ (t : (le_z (pos 0) (to_z w64 (of_z w64 to)) && lt_z (to_z w64 (of_z w64 to)) (to_z w64 f.span.0)) ≡ true) where
    goes_on : (n : ℕ) × (pos k.units.0 +ℤ by.whole ≡ pos n) × (n < f.span.0)
    goes_on = not_beyond _ _ (rw (reads to-fits, to_is, to_z_pos w64 f.span.0 (omega (arith, s.span-most))) at t)

    there : nat_abs (to_z w64 (of_z w64 to)) ≡ goes_on.0
    there = rw (reads to-fits, to_is, goes_on.1)

    pub to-above : T (non_neg (to_z w64 (of_z w64 to)))
    to-above = rw (reads to-fits, to_is, goes_on.1) tt

    pub to-cast : Fits w32 (nat_abs (to_z w64 (of_z w64 to)))
    to-cast = record { fits = omega (arith, there, goes_on.2, s.span-most) }

    pub onward-is : record { units = record { 0 = nat_abs (to_z w64 (of_z w64 to)) }; rest = by.part; ranges = k.ranges; last = k.last } ≡ onward f k by
    unfolding onward
    onward-is =
        let z = pos k.units.0 +ℤ by.whole in
        let h : Splits z (pos 0) f.span.0 goes_on.0 = record { is = omega (arith, of_eq goes_on.1, N.zero-mul f.span.0) } in
        let none : (pos k.ranges +ℤ pos 0) modulo f.scale.0 ≡ k.ranges = modulo-is (pos k.ranges +ℤ pos 0) 0 0 w.ranges (omega arith) in
        rw (there, splits-rest goes_on.2 h, splits-whole goes_on.2 h, none)

  -- a total range ends: counted ahead by whole rounds, the units are a natural number, and leave what they would have left
  module _ (lead : Lead) (lead-by : lead ≡ lead_of f) where
    rounds-by : lead.rounds ≡ rounds_of f * round_of f
    unfolding lead_of
    rounds-by = ap (λ (l : Lead). l.rounds) lead-by

    pub rounds-cast : SFits w64 (pos lead.rounds)
    rounds-cast = record { sfits = omega (arith, rounds-by, lead-rounds f s) }

    pub rounds-ahead : nat_abs to ≤ lead.rounds
    rounds-ahead =
        let z = pos k.units.0 +ℤ by.whole in
        rw to_is
        (omega (arith, lead-rounds f s, rounds-by, w.units, s.span-most, abs_is by.whole, abs_is z, add_is (pos k.units.0) by.whole, apart z))

    pub rounds-most : lead.rounds ≤ 2 ^ 61
    rounds-most = omega (arith, lead-rounds f s, rounds-by)

    abbrev ahead : ℕ
    ahead = nat_abs (to_z w64 (of_z w64 (to_z w64 (of_z w64 to) +ℤ to_z w64 lead.rounds)))

    ahead-has : (ahead + below to ≡ above to + lead.rounds) × (ahead ≤ 2 ^ 54)
    ahead-has =
        let e = ahead-is to lead.rounds to-fits rounds-ahead rounds-most in
        (e, omega (arith, abs_is to, rounds-ahead, lead-rounds f s, rounds-by))

    pub units-narrow : Fits w32 (ahead % f.span.0)
    units-narrow = record { fits = omega (arith, N.mod-lt ahead s.span-least, s.span-most) }

    pub ranges-sum-fit : Fits w64 (k.ranges + ahead / f.span.0)
    ranges-sum-fit = record { fits = omega (arith, N.div-le_self ahead f.span.0, ahead-has.1, w.ranges, s.scale-most) }

    pub around-is : record { units = record { 0 = ahead % f.span.0 }; rest = by.part; ranges = (k.ranges + ahead / f.span.0) % f.scale.0; last = k.last } ≡ onward f k by
    unfolding onward
    around-is =
        let z = pos k.units.0 +ℤ by.whole in
        let n = rounds_of f * f.scale.0 in
        let q = pos (ahead / f.span.0) -ℤ pos n in
        let lt = N.mod-lt ahead s.span-least in
        let h : Splits z q f.span.0 (ahead % f.span.0)
        = record {
          is = omega (
            arith,
            ahead-has.0,
            of_eq to_is,
            rounds-by,
            N.div-add-mod' ahead f.span.0,
            ap (λ (x : ℕ). x * f.span.0) (diff_is (pos (ahead / f.span.0)) (pos n)),
          );
        } in
        let all = k.ranges + ahead / f.span.0 in
        let r : (pos k.ranges +ℤ q) modulo f.scale.0 ≡ all % f.scale.0
        = modulo-is (pos k.ranges +ℤ q) (rounds_of f) (all / f.scale.0) (N.mod-lt all s.scale-least)
        (omega (arith, add_is (pos k.ranges) q, diff_is (pos (ahead / f.span.0)) (pos n), N.div-add-mod' all f.scale.0)) in
        rw (splits-rest lt h, splits-whole lt h, r)

pub ruleset onwards = (to-fits, to-above, to-cast, onward-is, rounds-cast, rounds-ahead, rounds-most, ahead-fits, ahead-above, ahead-cast, units-narrow, ranges-sum-fit, around-is)

-- ---- the position
module _ (f : InForce) (s : Sound f) (u : ℕ) (offset : ℤ) (u-fits : Fits w32 u) (fits : SFits w64 offset) where
  abbrev at : ℤ
  at = to_z w64 u +ℤ to_z w64 (of_z w64 offset)

  at-is : at ≡ pos u +ℤ offset
  at-is = rw (reads fits, to_z_pos w64 u (omega (arith, u-fits.fits)))

  module _ (small : nat_abs offset < f.span.0) where
    pub at-fits : SFits w64 at
    at-fits =
        let z = pos u +ℤ offset in
        rw at-is (fits-abs z (omega (arith, u-fits.fits, s.span-most, abs_is offset, abs_is z, add_is (pos u) offset, apart z)))

    module _ (t : (le_z (pos 0) (to_z w64 (of_z w64 at)) && lt_z (to_z w64 (of_z w64 at)) (to_z w64 f.span.0)) ≡ true) where
      stays : (n : ℕ) × (pos u +ℤ offset ≡ pos n) × (n < f.span.0)
      stays = not_beyond _ _ (rw (reads at-fits, at-is, to_z_pos w64 f.span.0 (omega (arith, s.span-most))) at t)

      pub at_above : T (non_neg (to_z w64 (of_z w64 at)))
      at_above = rw (reads at-fits, at-is, stays.1) tt

      pub at-cast : Fits w32 (nat_abs (to_z w64 (of_z w64 at)))
      at-cast = rw (reads at-fits, at-is, stays.1) (record { fits = omega (arith, stays.2, s.span-most) })

      pub position-on : nat_abs (to_z w64 (of_z w64 at)) ≡ (pos u +ℤ offset) modulo f.span.0
      position-on = rw (reads at-fits, at-is, stays.1) (sym (modulo-is (pos stays.0) 0 0 stays.2 (omega arith)))

  pub ring-narrow : (z : ℤ) (n : ℕ) → n ≡ on_ring z f.span.0 → Fits w32 n
  ring-narrow z n e = record { fits = omega (arith, e, on-ring z _ s.span-least, modulo-lt z s.span-least, s.span-most) }

  pub position-round : (n : ℕ) → n ≡ on_ring (pos u +ℤ to_z w64 (of_z w64 offset)) f.span.0 → n ≡ (pos u +ℤ offset) modulo f.span.0
  position-round n e = e ∙ rw (on-ring _ _ s.span-least, reads fits)

pub ruleset positions = (at-fits, at_above, at-cast, position-on, ring-narrow, position-round)

-- ---- the running values of a place
pub running-is : (f : InForce) (k : Shaft)
    → record {
      units = record { 0 = k.place.0 * f.scale.0 / f.steps.0 % f.span.0 };
      rest = k.place.0 * f.scale.0 % f.steps.0;
      ranges = k.place.0 * f.scale.0 / f.steps.0 / f.span.0;
      last = k.last;
    } ≡ running_of f k
unfolding running_of unshifted
running-is f k = refl

-- ---- one more reading, by its parts
module _ (f : InForce) (s : Sound f) (k : Running) (raw : ℕ) (d : ℤ) (d-is : d ≡ move_of f k.last.0 raw) where
  read : to_z w64 (of_z w64 d) ≡ move_of f k.last.0 raw
  read = rw (d-is, reads (move-fits f k.last.0 raw s))

  pub move-small : nat_abs (to_z w64 (of_z w64 d)) ≤ 2 ^ 31
  move-small = rw read (omega (arith, move-most f k.last.0 raw s, s.capacity-most))

  module _ (b : Share) (b-is : b ≡ share_of f (to_z w64 (of_z w64 d))) where
    pub part-lt : b.part < f.steps.0
    part-lt = rw b-is (share_part f s (to_z w64 (of_z w64 d)))

    pub whole-small : nat_abs b.whole ≤ 2 ^ 50
    whole-small = rw b-is (share-most f s (to_z w64 (of_z w64 d)) move-small)

    module _ (c : Share) (c-is : c ≡ carried f k.rest b) where
      pub next_small : nat_abs c.whole ≤ 2 ^ 51
      next_small = rw c-is (carried-most f s k.rest b whole-small)

      pub ran-is : (r : Running) → r ≡ onward f k c → record { units = r.units; rest = r.rest; ranges = r.ranges; last = record { 0 = raw } } ≡ ran_to f k raw
      unfolding ran_to
      ran-is r r-is = rw (r-is, c-is, b-is, read)

pub ruleset moves = (move-small, part-lt, whole-small, next_small, ran-is)
