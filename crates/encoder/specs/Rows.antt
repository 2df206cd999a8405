-- The parameters of both classes (document 01, "Class 2 telegram", "Class 4 block"; rows 4 to 7 of "When a call is turned away"; request 3).
use Rattle.std.specs.Prelude.{◌*◌, Bool, true, false, not, ◌&&◌, ◌||◌, eqb, ltb, Option}
use Rattle.integer.specs.{bit}
use Rattle.encoder.specs.{declared.nameplate.Nameplate.Nameplate, declared.parameters.Parameters.Parameters}
use Rattle.encoder.specs.{declared.parameters.Parameters.TheVariants.Class2, declared.parameters.Parameters.TheVariants.Class4}
use Rattle.encoder.specs.{declared.parameters.Fields.Fields, declared.refusal.Refusal.Refusal, declared.refusal.Refusal.TheVariants.ReservedBit, declared.refusal.Refusal.TheVariants.RevolutionUnits, declared.refusal.Refusal.TheVariants.TotalRange, declared.refusal.Refusal.TheVariants.SpeedUnit, declared.refusal.Refusal.TheVariants.LifeLimit}
use Rattle.encoder.specs.{Refusals.when, Refusals.◌before◌, Plate.plate_refusal, Operating.scaling_on, Operating.reserved_wrong}

-- the fields by which parameters are judged; class 2 has no sign-of-life limit, and no speed unit: it uses unit 0
abbrev pub fields_of : Parameters → Fields
fields_of (Class2 operating units range) = record { class4 = false; operating = operating; units = units; range = range; life = 0; speed = 0 }
fields_of (Class4 operating units range life speed) =
    record { class4 = true; operating = operating; units = units; range = range; life = life; speed = speed }

-- request 3: there is a sign of life on a class 4 axis with block bit 5 at 0 (profile version 3.1), whatever the class bit says
abbrev pub sign_of_life : Fields → Bool
sign_of_life f = f.class4 && not (bit 5 f.operating)

-- 4: scaling in force, field 0 or above R
abbrev pub units_wrong : Nameplate → Fields → Bool
units_wrong n f = scaling_on f.operating && (eqb f.units.0 0 || ltb n.steps.0 f.units.0)

-- 5: scaling in force, field below M or above M × T
abbrev pub range_wrong : Nameplate → Fields → Bool
range_wrong n f = scaling_on f.operating && (ltb f.range.0 f.units.0 || ltb (f.units.0 * n.turns.0) f.range.0)

-- 6: above 3
abbrev pub speed_wrong : Fields → Bool
speed_wrong f = ltb 3 f.speed

-- 17: sign-of-life limit 0 while bit 5 is 0; never of class 2
abbrev pub life_wrong : Fields → Bool
life_wrong f = sign_of_life f && eqb f.life 0

-- the refusal of parameters on a nameplate within its limits
unfoldable pub fields_refusal : Nameplate → Fields → Option Refusal
fields_refusal n f =
    when (reserved_wrong f.class4 f.operating) ReservedBit
    before when (units_wrong n f) RevolutionUnits
    before when (range_wrong n f) TotalRange
    before when (speed_wrong f) SpeedUnit
    before when (life_wrong f) LifeLimit

abbrev pub parameters_refusal : Nameplate → Parameters → Option Refusal
parameters_refusal n p = fields_refusal n (fields_of p)

-- and on any nameplate: the order is 7, 3, 4, 5, 6, 17
unfoldable pub refusal_on : Nameplate → Parameters → Option Refusal
refusal_on n p = plate_refusal n before parameters_refusal n p
