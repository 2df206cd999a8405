-- Every row of the table of combinations is what the definitions put in force: one list, one claim, computed.
use Rattle.std.specs.Prelude.{◌≡◌, refl, map, Ok}
use Rattle.encoder.specs.{plate_refusal, fields_refusal, refusal_on, rules_of, in_force, Combination, plate, combinations}

pub as-stated : map (λ (c : Combination). in_force plate c.sent) combinations ≡ map (λ (c : Combination). Ok c.stated) combinations
unfolding in_force rules_of refusal_on plate_refusal fields_refusal
as-stated = refl
