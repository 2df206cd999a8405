-- The definitions give the starred values: one list, one claim, computed.
use Rattle.std.specs.Prelude.{◌≡◌, refl, map}
use Rattle.integer.specs.{big_endian, ◌modulo◌, clamp}
use Rattle.ring.specs.{in_range}
use Rattle.encoder.specs.{plate_refusal, fields_refusal, refusal_on, rules_of, in_force, rules_fit}
use Rattle.sensor.specs.{step_refusal}
use Rattle.parameters_reader.specs.{telegram_refusal, read_telegram}
use Rattle.axis_shaft.specs.{inside, oriented, started, difference, shorter, move_of, move_refusal, moved_to, unshifted, position_at, shaft_refusal}
use Rattle.axis_offset.specs.{value_refusal}
use Rattle.axis.specs.{rules_on, acceptable, axis_refusal, unshifted_of, position_of, reported, start_refusal, start, at_raw, read_raw_refusal, read_raw, preset_refusal}
use Rattle.axis.specs.{asked, presetted, preset}
use Rattle.axis_velocity.specs.{factor_of, rate_of, velocity_refusal, velocity_at}
use Rattle.starred_values.specs.{Starred.Starred, starred}

pub starred-hold : map (λ (s : Starred). s.computed) starred ≡ map (λ (s : Starred). s.paper) starred
unfolding big_endian ◌modulo◌ clamp in_range step_refusal fields_refusal refusal_on plate_refusal rules_of in_force rules_fit telegram_refusal read_telegram inside oriented started difference shorter move_of move_refusal moved_to unshifted position_at shaft_refusal rules_on acceptable axis_refusal unshifted_of position_of reported start_refusal start at_raw read_raw_refusal read_raw value_refusal preset_refusal asked presetted preset factor_of rate_of velocity_refusal velocity_at
starred-hold = refl
