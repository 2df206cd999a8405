-- What plate and parameters put in force (document 01, end of "Class 4 block").
use Rattle.std.specs.Prelude.{ℕ, ◌^◌, ◌≤◌, Bool, cond, ◌&&◌, leb, Result, Ok, Err}
use Rattle.encoder.specs.{declared.nameplate.Nameplate.Nameplate, declared.parameters.Parameters.Parameters, declared.parameters.Fields.Fields}
use Rattle.encoder.specs.{declared.effect.InForce.InForce, declared.refusal.Refusal.Refusal, Refusals.answer, Plate.capacity_of, Operating.class_on, Operating.scaling_on}
use Rattle.encoder.specs.{Operating.reversed_by, Rows.fields_of, Rows.refusal_on}

-- M and L: the fields as sent with scaling in force, otherwise R and C
abbrev pub scale_of : Nameplate → Fields → ℕ
scale_of n f = cond (scaling_on f.operating) f.units.0 n.steps.0

abbrev pub span_of : Nameplate → Fields → ℕ
span_of n f = cond (scaling_on f.operating) f.range.0 (capacity_of n)

-- all that is in force: R, C, M, L, the direction, whether presets are made, and the unit of velocities
unfoldable pub rules_of : Nameplate → Fields → InForce
rules_of n f =
    record {
      steps = n.steps;
      capacity = record { 0 = capacity_of n };
      scale = record { 0 = scale_of n f };
      span = record { 0 = span_of n f };
      reversed = reversed_by f.class4 f.operating;
      enabled = class_on f.operating;
      speed = f.speed;
    }

-- the answer: what is in force, or the refusal
unfoldable pub in_force : Nameplate → Parameters → Result InForce Refusal
in_force n p = answer Err (Ok (rules_of n (fields_of p))) (refusal_on n p)

-- bounds that keep every sum of the axis within its type. They are wider than what plate and parameters put in force: R may be 1, and M above R
unfoldable pub rules_fit : InForce → Bool
rules_fit f =
    leb 1 f.steps.0
    && leb f.steps.0 65536
    && leb 1 f.capacity.0
    && leb f.capacity.0 (2 ^ 31)
    && leb 1 f.scale.0
    && leb f.scale.0 65536
    && leb 1 f.span.0
    && leb f.span.0 (2 ^ 31)

-- the same, as facts
pub record Sound (f : InForce) : Type 0 where
  pub steps-least : 1 ≤ f.steps.0
  pub steps-most : f.steps.0 ≤ 65536
  pub capacity-least : 1 ≤ f.capacity.0
  pub capacity-most : f.capacity.0 ≤ 2 ^ 31
  pub scale-least : 1 ≤ f.scale.0
  pub scale-most : f.scale.0 ≤ 65536
  pub span-least : 1 ≤ f.span.0
  pub span-most : f.span.0 ≤ 2 ^ 31
