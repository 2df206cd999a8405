-- The axis record, its limits, and the position that it stands at (document 01, "The axis", rules 4 and 5; row 16).
use Rattle.std.specs.Prelude.{◌≡◌, Bool, true, not, ◌&&◌, ℕ, ◌<◌, nat_abs, Option, is_none, Result, Ok, Err}
use Rattle.ring.specs.{in_range}
use Rattle.encoder.specs.{InForce, Refusal, NoAxis, when, answer, fields_of, refusal_on, rules_of}
use Rattle.axis_shaft.specs.{Reported, inside, Inside, unshifted, position_at}
use Rattle.axis.specs.declared.Axis.{Axis}

-- what is in force on an axis
unfoldable pub rules_on : Axis → InForce
rules_on a = rules_of a.nameplate (fields_of a.parameters)

-- the limits: plate and parameters acceptable, place below R × L, last reading below C, and offset, last preset and held preset value strictly
-- between −L and L
abbrev pub keeps : InForce → Axis → Bool
keeps f a =
    inside f a.shaft && in_range a.offset f.span.0 && in_range a.preset f.span.0 && in_range a.stored f.span.0

unfoldable pub acceptable : Axis → Bool
acceptable a = is_none (refusal_on a.nameplate a.parameters) && keeps (rules_on a) a

-- 16: a record outside its limits
unfoldable pub axis_refusal : Axis → Option Refusal
axis_refusal a = when (not (acceptable a)) NoAxis

-- the answer: what is in force, or the refusal
unfoldable pub in_force_on : Axis → Result InForce Refusal
in_force_on a = answer Err (Ok (rules_on a)) (axis_refusal a)

-- an acceptable axis and what is in force on it
pub record Ready (a : Axis) (f : InForce) : Type 0 where
  pub is : f ≡ rules_on a
  pub stands : acceptable a ≡ true
  pub shaft : Inside f a.shaft
  pub offset : nat_abs a.offset < f.span.0

-- 4. the unshifted position, and 5. the position
unfoldable pub unshifted_of : Axis → ℕ
unshifted_of a = unshifted (rules_on a) a.shaft

unfoldable pub position_of : Axis → ℕ
position_of a = position_at (rules_on a) a.offset a.shaft

abbrev pub positions_of : Axis → Reported
positions_of a = record { position = record { 0 = position_of a }; unshifted = record { 0 = unshifted_of a } }

-- the answer: both, or the refusal
unfoldable pub reported : Axis → Result Reported Refusal
reported a = answer Err (Ok (positions_of a)) (axis_refusal a)
