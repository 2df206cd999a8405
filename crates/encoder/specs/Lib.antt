pub mod Refusals
pub mod Plate
pub mod Operating
pub mod Rows
pub mod Force
pub mod Combinations
pub use Refusals.{◌before◌, answer, checked, coded, number, when}
unfoldable pub use Plate.{plate_refusal}
pub use Plate.{buffer_refusal, capacity_of, plain_plate}
pub use Operating.{class_on, reserved_wrong, reversed_by, scaling_on}
unfoldable pub use Rows.{fields_refusal, refusal_on}
pub use Rows.{fields_of, parameters_refusal, range_wrong, sign_of_life, speed_wrong, units_wrong}
unfoldable pub use Force.{in_force, rules_fit, rules_of}
pub use Force.{Sound, scale_of, span_of}
pub use Combinations.{Combination, combinations, plate}
pub use declared.effect.InForce.{InForce}
pub use declared.nameplate.Nameplate.{Nameplate}
pub use declared.parameters.Fields.{Fields}
pub use declared.parameters.Parameters.{Parameters}
pub use declared.parameters.Parameters.TheVariants.{Class2, Class4}
pub use declared.quantity.Steps.{Steps}
pub use declared.quantity.Turns.{Turns}
pub use declared.quantity.Units.{Units}
pub use declared.refusal.Refusal.{Refusal}
pub use declared.refusal.Refusal.TheVariants.{ClassOff, HalfRange, LifeLimit, NoAxis, NoForm, NothingElapsed, OtherIdent, ReservedBit, RevolutionUnits, SpeedUnit, TotalRange, WrongBuffer, WrongLength, WrongPlate, WrongPreset, WrongStep, WrongTurn}
