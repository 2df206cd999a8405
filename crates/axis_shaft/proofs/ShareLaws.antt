-- A move in units, and the rest with it. A move is counted ahead by whole turns, so that it is divided as a natural number: the turns give whole
-- units and leave nothing. So no case depends on its sign.
use Rattle.std.specs.Prelude.{◌≡◌, refl, Bool, true, false, cond, ℕ, ◌+◌, ◌-◌, ◌*◌, ◌/◌, ◌%◌, ◌^◌, ◌≤◌, ◌<◌, ltb, ℤ, pos, nat_abs, ◌+ℤ◌, ◌-ℤ◌, ◌*ℤ◌}
use Rattle.std.proofs.Common.{ap, arith}
use Rattle.std.proofs.Common.{lt-ltb, le-ltb}
use Rattle.std.specs.Int.{w64}
use mir.Val.{Fits, SFits, to_z, of_z}
use Rattle.std.proofs.lemmas.Int.{to_z_pos}
use Rattle.integer.proofs.{above, below, apart, add_is, diff_is, mul_is, reads, abs_is, fits-abs, mul-le, modulo-lt, Splits, splits-rest, splits-whole, quotient-most}
use Rattle.encoder.specs.{InForce, Sound}
use Rattle.axis_shaft.specs.{Share, Lead, share_of, carried, lead_of}
use Rattle.axis_shaft.proofs.AheadLaws.{ahead-fits, ahead-above, ahead-cast, ahead-is}
use native.Mathlib.Nat as N

-- ---- the lead: turns of 2^33 steps or more, rounds of 2^52 units or more
abbrev turns_of : InForce → ℕ
turns_of f = 2 ^ 33 / f.steps.0 + 1

-- M total ranges
abbrev pub round_of : InForce → ℕ
round_of f = f.scale.0 * f.span.0

abbrev pub rounds_of : InForce → ℕ
rounds_of f = 2 ^ 52 / round_of f + 1

module _ (f : InForce) (s : Sound f) where
  turns-most : turns_of f ≤ 2 ^ 33 + 1
  turns-most = omega (arith, N.div-le_self (2 ^ 33) f.steps.0)

  lead-steps : (2 ^ 33 < turns_of f * f.steps.0) × (turns_of f * f.steps.0 ≤ 2 ^ 33 + 65536)
  lead-steps =
      let e = N.div-add-mod' (2 ^ 33) f.steps.0 in
      let h = N.mod-lt (2 ^ 33) s.steps-least in
      (omega arith, omega (arith, s.steps-most))

  lead-units : turns_of f * f.scale.0 ≤ (2 ^ 33 + 1) * 65536
  lead-units = N.mul-le-mul turns-most s.scale-most

  pub turns_fit : Fits w64 (2 ^ 33 / f.steps.0 + 1)
  turns_fit = record { fits = omega (arith, turns-most) }

  pub lead-steps-fit : Fits w64 ((2 ^ 33 / f.steps.0 + 1) * f.steps.0)
  lead-steps-fit = record { fits = omega (arith, lead-steps) }

  pub lead-units-fit : Fits w64 ((2 ^ 33 / f.steps.0 + 1) * f.scale.0)
  lead-units-fit = record { fits = omega (arith, lead-units) }

  pub round-least : 0 < f.scale.0 * f.span.0
  round-least = N.mul-pos s.scale-least s.span-least

  pub round-most : round_of f ≤ 65536 * 2 ^ 31
  round-most = N.mul-le-mul s.scale-most s.span-most

  pub lead-rounds : (2 ^ 52 < rounds_of f * round_of f) × (rounds_of f * round_of f ≤ 2 ^ 52 + 65536 * 2 ^ 31)
  lead-rounds =
      let e = N.div-add-mod' (2 ^ 52) (round_of f) in
      let h = N.mod-lt (2 ^ 52) round-least in
      (omega arith, omega (arith, round-most))

  pub round-fits : Fits w64 (f.scale.0 * f.span.0)
  round-fits = record { fits = omega (arith, round-most) }

  pub rounds-fit : Fits w64 (2 ^ 52 / (f.scale.0 * f.span.0) + 1)
  rounds-fit = record { fits = omega (arith, N.div-le_self (2 ^ 52) (round_of f)) }

  pub lead-rounds-fit : Fits w64 ((2 ^ 52 / (f.scale.0 * f.span.0) + 1) * (f.scale.0 * f.span.0))
  lead-rounds-fit = record { fits = omega (arith, lead-rounds) }

pub lead_is : (f : InForce)
    → record {
      steps = record { 0 = (2 ^ 33 / f.steps.0 + 1) * f.steps.0 };
      units = (2 ^ 33 / f.steps.0 + 1) * f.scale.0;
      rounds = (2 ^ 52 / (f.scale.0 * f.span.0) + 1) * (f.scale.0 * f.span.0);
    } ≡ lead_of f
unfolding lead_of
lead_is f = refl

pub ruleset leads = (turns_fit, lead-steps-fit, lead-units-fit, round-least, round-fits, rounds-fit, lead-rounds-fit, lead_is)

-- ---- a move in units
module _ (f : InForce) (s : Sound f) (d : ℤ) where
  module _ (fits : SFits w64 d) (small : nat_abs d ≤ 2 ^ 31) (lead : Lead) (lead-by : lead ≡ lead_of f) where
    steps-by : lead.steps.0 ≡ turns_of f * f.steps.0
    unfolding lead_of
    steps-by = ap (λ (l : Lead). l.steps.0) lead-by

    units-by : lead.units ≡ turns_of f * f.scale.0
    unfolding lead_of
    units-by = ap (λ (l : Lead). l.units) lead-by

    pub steps-cast : SFits w64 (pos lead.steps.0)
    steps-cast = record { sfits = omega (arith, steps-by, lead-steps f s) }

    pub units-cast : SFits w64 (pos lead.units)
    units-cast = record { sfits = omega (arith, units-by, lead-units f s) }

    pub steps-ahead : nat_abs d ≤ lead.steps.0
    steps-ahead = omega (arith, lead-steps f s, steps-by)

    pub steps-most : lead.steps.0 ≤ 2 ^ 61
    steps-most = omega (arith, lead-steps f s, steps-by)

    abbrev ahead : ℕ
    ahead = nat_abs (to_z w64 (of_z w64 (to_z w64 (of_z w64 d) +ℤ to_z w64 lead.steps.0)))

    ahead-has : (ahead + below d ≡ above d + lead.steps.0) × (ahead ≤ 2 ^ 34)
    ahead-has =
        let e = ahead-is d lead.steps.0 fits steps-ahead steps-most in
        (e, omega (arith, abs_is d, steps-by, lead-steps f s))

    parts-most : ahead * f.scale.0 ≤ 2 ^ 34 * 65536
    parts-most = N.mul-le-mul ahead-has.1 s.scale-most

    pub parts-fit : Fits w64 (ahead * f.scale.0)
    parts-fit = record { fits = omega (arith, parts-most) }

    abbrev whole : ℕ
    whole = ahead * f.scale.0 / f.steps.0

    whole-most : whole ≤ 2 ^ 50
    whole-most = omega (arith, N.div-le_self (ahead * f.scale.0) f.steps.0, parts-most)

    pub whole-cast : SFits w64 (pos whole)
    whole-cast = record { sfits = omega (arith, whole-most) }

    less-is : to_z w64 whole -ℤ to_z w64 lead.units ≡ pos whole -ℤ pos lead.units
    less-is = rw (to_z_pos w64 whole (omega (arith, whole-most)), to_z_pos w64 lead.units (omega (arith, units-by, lead-units f s)))

    pub less-fits : SFits w64 (to_z w64 whole -ℤ to_z w64 lead.units)
    less-fits =
        let z = pos whole -ℤ pos lead.units in
        rw less-is (fits-abs z (omega (arith, whole-most, units-by, lead-units f s, abs_is z, diff_is (pos whole) (pos lead.units), apart z)))

    splits-so : Splits (d *ℤ pos f.scale.0) (pos whole -ℤ pos lead.units) f.steps.0 (ahead * f.scale.0 % f.steps.0)
    splits-so =
        record {
          is =
              omega (
                arith,
                mul_is d (pos f.scale.0),
                ap (λ (n : ℕ). n * f.scale.0) ahead-has.0,
                N.div-add-mod' (ahead * f.scale.0) f.steps.0,
                ap (λ (n : ℕ). n * f.steps.0) (diff_is (pos whole) (pos lead.units)),
                ap (λ (n : ℕ). n * f.scale.0) steps-by,
                ap (λ (n : ℕ). n * f.steps.0) units-by,
              );
        }

    pub share-is : record { whole = to_z w64 (of_z w64 (to_z w64 whole -ℤ to_z w64 lead.units)); part = ahead * f.scale.0 % f.steps.0 } ≡ share_of f d
    unfolding share_of
    share-is =
        let h = N.mod-lt (ahead * f.scale.0) s.steps-least in
        rw (reads less-fits, less-is, splits-whole h splits-so, splits-rest h splits-so)

  pub share-most : nat_abs d ≤ 2 ^ 31 → nat_abs (share_of f d).whole ≤ 2 ^ 50
  unfolding share_of
  share-most small =
      let z = d *ℤ pos f.scale.0 in
      omega (arith, quotient-most z f.steps.0, mul-le d (pos f.scale.0) small s.scale-most)

  pub share_part : (share_of f d).part < f.steps.0
  unfolding share_of
  share_part = modulo-lt (d *ℤ pos f.scale.0) s.steps-least

pub ruleset shares = (steps-cast, units-cast, steps-ahead, steps-most, ahead-fits, ahead-above, ahead-cast, parts-fit, whole-cast, less-fits, share-is)

-- ---- the rest, and one more unit where it is full
either : (b : Bool) (x y : Share) {m : ℕ} → nat_abs x.whole ≤ m → nat_abs y.whole ≤ m → nat_abs (cond b x y).whole ≤ m
either true x y h k = h
either false x y h k = k

module _ (f : InForce) (s : Sound f) (rest : ℕ) (by : Share) (fits : nat_abs by.whole ≤ 2 ^ 50) where
  whole-fits : SFits w64 by.whole
  whole-fits = fits-abs by.whole (omega arith)

  pub carried-less : rest + by.part < f.steps.0 → record { whole = to_z w64 (of_z w64 by.whole); part = rest + by.part } ≡ carried f rest by
  unfolding carried
  carried-less h = rw (lt-ltb _ _ h, reads whole-fits)

  more-most : (n : ℕ) → n ≤ 2 → nat_abs (by.whole +ℤ pos n) ≤ 2 ^ 51
  more-most n h = let z = by.whole +ℤ pos n in omega (arith, abs_is by.whole, abs_is z, add_is by.whole (pos n), apart z)

  pub more-fits : (n : ℕ) → n ≤ 2 → SFits w64 (to_z w64 (of_z w64 by.whole) +ℤ pos n)
  more-fits n h = rw (reads whole-fits) (fits-abs (by.whole +ℤ pos n) (omega (arith, more-most n h)))

  pub carried-full : f.steps.0 ≤ rest + by.part
      → record { whole = to_z w64 (of_z w64 (to_z w64 (of_z w64 by.whole) +ℤ pos 1)); part = rest + by.part - f.steps.0 } ≡ carried f rest by
  unfolding carried
  carried-full h = rw (le-ltb _ _ h, reads (more-fits 1 (omega arith)), reads whole-fits)

  pub carried-most : nat_abs (carried f rest by).whole ≤ 2 ^ 51
  unfolding carried
  carried-most = either (ltb (rest + by.part) f.steps.0) _ _ (omega arith) (more-most 1 (omega arith))

pub ruleset carries = (carried-less, more-fits, carried-full)
