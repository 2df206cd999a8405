-- Accepted parameters put rules within the limits in force: M and L by rows 4 and 5 with scaling on, and by the nameplate without.
use Rattle.std.specs.Prelude.{◌≡◌, refl, Bool, true, false, ◌||◌, ◌*◌, ◌^◌, ◌≤◌, None}
use Rattle.std.proofs.Common.{true≢false, arith, leb-true, le-leb, ltb-false}
use Rattle.std.proofs.lemmas.Bool.{eqb-false}
use Rattle.encoder.specs.{Nameplate, Parameters, Fields, InForce, ReservedBit, RevolutionUnits, TotalRange, when, plate_refusal, capacity_of, scaling_on}
use Rattle.encoder.specs.{reserved_wrong, fields_of, units_wrong, range_wrong, fields_refusal, refusal_on, scale_of, span_of, rules_of, rules_fit, Sound}
use Rattle.encoder.proofs.{RefusalLaws.before-none, RefusalLaws.when-not, PlateLaws.and_split, PlateLaws.plated, PlateLaws.capacity-most}
use native.Mathlib.Nat as N

-- ---- the limits, as tests and as facts
pub sound-of : (f : InForce) → rules_fit f ≡ true → Sound f
unfolding rules_fit
sound-of f e =
    let h = and_split _ _ e in
    let g = and_split _ _ h.0 in
    let d = and_split _ _ g.0 in
    let c = and_split _ _ d.0 in
    let b = and_split _ _ c.0 in
    let a = and_split _ _ b.0 in
    let z = and_split _ _ a.0 in
    record {
      steps-least = leb-true _ _ z.0;
      steps-most = leb-true _ _ z.1;
      capacity-least = leb-true _ _ a.1;
      capacity-most = leb-true _ _ b.1;
      scale-least = leb-true _ _ c.1;
      scale-most = leb-true _ _ d.1;
      span-least = leb-true _ _ g.1;
      span-most = leb-true _ _ h.1;
    }

pub fits-of : (f : InForce) → Sound f → rules_fit f ≡ true
unfolding rules_fit
fits-of f s =
    rw (
      le-leb _ _ s.steps-least,
      le-leb _ _ s.steps-most,
      le-leb _ _ s.capacity-least,
      le-leb _ _ s.capacity-most,
      le-leb _ _ s.scale-least,
      le-leb _ _ s.scale-most,
      le-leb _ _ s.span-least,
      le-leb _ _ s.span-most,
    )

-- ---- rows 4 and 5, of accepted parameters
pub or_split : (a b : Bool) → (a || b) ≡ false → (a ≡ false) × (b ≡ false)
or_split false b e = (refl, e)
or_split true b e = absurd (true≢false e)

-- M and L in force, by whether scaling is on
module _ (n : Nameplate) (f : Fields) (fits : plate_refusal n ≡ None) (none : fields_refusal n f ≡ None) where
  bounds : (b : Bool) → scaling_on f.operating ≡ b → (1 ≤ scale_of n f) × (scale_of n f ≤ 65536) × (1 ≤ span_of n f) × (span_of n f ≤ 2 ^ 31)
  unfolding fields_refusal
  bounds true on =
      let p = plated n fits in
      let past3 = before-none (when (reserved_wrong f.class4 f.operating) ReservedBit) _ none in
      let past4 = before-none (when (units_wrong n f) RevolutionUnits) _ past3.1 in
      let past5 = before-none (when (range_wrong n f) TotalRange) _ past4.1 in
      let u = or_split _ _ (rw on at (when-not (units_wrong n f) _ past4.0)) in
      let r = or_split _ _ (rw on at (when-not (range_wrong n f) _ past5.0)) in
      let a = eqb-false f.units.0 0 u.0 in
      let b = ltb-false n.steps.0 f.units.0 u.1 in
      let c = ltb-false f.range.0 f.units.0 r.0 in
      let d = ltb-false (f.units.0 * n.turns.0) f.range.0 r.1 in
      let m : f.units.0 ≤ 65536 = omega (arith, p.steps-most) in
      let k : f.units.0 * n.turns.0 ≤ 65536 * 32768 = N.mul-le-mul m p.turns-most in
      rw on (omega arith, m, omega arith, omega arith)
  bounds false off =
      let p = plated n fits in
      let k : 2 * 1 ≤ capacity_of n = N.mul-le-mul p.steps-least p.turns-least in
      rw off (omega (arith, p.steps-least), p.steps-most, omega arith, capacity-most n fits)

  in-force-sound : Sound (rules_of n f)
  unfolding rules_of
  in-force-sound =
      let b = bounds (scaling_on f.operating) refl in
      let p = plated n fits in
      let c : 2 * 1 ≤ capacity_of n = N.mul-le-mul p.steps-least p.turns-least in
      record {
        steps-least = omega (arith, p.steps-least);
        steps-most = p.steps-most;
        capacity-least = omega arith;
        capacity-most = capacity-most n fits;
        scale-least = b.0;
        scale-most = b.1;
        span-least = b.2;
        span-most = b.3;
      }

pub taken-sound : (n : Nameplate) (p : Parameters) → refusal_on n p ≡ None → Sound (rules_of n (fields_of p))
unfolding refusal_on
taken-sound n p e = let h = before-none (plate_refusal n) _ e in in-force-sound n (fields_of p) h.0 h.1
