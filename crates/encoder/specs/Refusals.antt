-- The refusals and their numbers (document 01, "When a call is turned away"), their order, and the answer by a refusal.
use Rattle.std.specs.Prelude.{ℕ, Bool, true, false, Option, Some, None, Result, Ok, Err}
use Rattle.encoder.specs.{declared.refusal.Refusal.Refusal}
use Rattle.encoder.specs.{declared.refusal.Refusal.TheVariants.WrongLength, declared.refusal.Refusal.TheVariants.OtherIdent, declared.refusal.Refusal.TheVariants.ReservedBit}
use Rattle.encoder.specs.{declared.refusal.Refusal.TheVariants.RevolutionUnits, declared.refusal.Refusal.TheVariants.TotalRange, declared.refusal.Refusal.TheVariants.SpeedUnit}
use Rattle.encoder.specs.{declared.refusal.Refusal.TheVariants.WrongPlate, declared.refusal.Refusal.TheVariants.WrongStep, declared.refusal.Refusal.TheVariants.WrongTurn}
use Rattle.encoder.specs.{declared.refusal.Refusal.TheVariants.HalfRange, declared.refusal.Refusal.TheVariants.WrongPreset, declared.refusal.Refusal.TheVariants.ClassOff}
use Rattle.encoder.specs.{declared.refusal.Refusal.TheVariants.WrongBuffer, declared.refusal.Refusal.TheVariants.NothingElapsed, declared.refusal.Refusal.TheVariants.NoForm}
use Rattle.encoder.specs.{declared.refusal.Refusal.TheVariants.NoAxis, declared.refusal.Refusal.TheVariants.LifeLimit}

-- its row of the table
abbrev pub number : Refusal → ℕ
-- length: telegram not 17 octets, block not 11
number WrongLength = 1
-- ident: class 2 ident differs from the plate
number OtherIdent = 2
-- reserved bit: a bit with one allowed state has the other
number ReservedBit = 3
-- revolution units: scaling in force, field 0 or above R
number RevolutionUnits = 4
-- total range: scaling in force, field below M or above M × T
number TotalRange = 5
-- speed unit: above 3
number SpeedUnit = 6
-- plate: R or T outside its limits
number WrongPlate = 7
-- step: s ≥ R
number WrongStep = 8
-- turn: t ≥ T, or raw number ≥ C
number WrongTurn = 9
-- half range: difference exactly C/2
number HalfRange = 10
-- preset: v not between −L and L, ends excluded
number WrongPreset = 11
-- class off: preset called or held value set, class bit 0
number ClassOff = 12
-- buffer: a lent buffer or list not exactly of its length
number WrongBuffer = 13
-- elapsed: e is 0
number NothingElapsed = 14
-- form: line is no form; input above 60,000 octets
number NoForm = 15
-- no axis: no started axis, or a record outside its limits
number NoAxis = 16
-- sign-of-life limit (request 3): 0 while block bit 5 is 0
number LifeLimit = 17

-- the refusal where a test holds, and else none
abbrev pub when : Bool → Refusal → Option Refusal
when true r = Some r
when false r = None

-- the first refusal of two, in their order
infixr 40 ◌before◌
abbrev pub ◌before◌ : Option Refusal → Option Refusal → Option Refusal
None before later = later
Some r before later = Some r

-- an answer by its refusal: the value where there is none, else what the refusal makes
abbrev pub answer : {A : Type 0} → (Refusal → A) → A → Option Refusal → A
answer refused taken None = taken
answer refused taken (Some r) = refused r

-- as other languages get it: its number, and 0 where there is none
abbrev pub coded : Option Refusal → ℕ
coded r = answer number 0 r

-- the answer of a call that yields nothing else
abbrev pub checked : Option Refusal → Result (Unit {0}) Refusal
checked r = answer Err (Ok tt) r
