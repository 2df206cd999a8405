-- Two wrong contracts of `read_in_place`, each refuted by the definition `read`, which the right one cites: that the record is left as it was, and
-- that step and turn change places. One axis refutes both, that of document 01's listing: a reading of step 4 in turn 0 is taken and moves it, and
-- step 0 in turn 4 is refused.
use Rattle.std.specs.Prelude.{◌≡◌, refl, ℕ, None, Some}
use Rattle.std.proofs.Common.{ap, arith}
use Rattle.integer.specs.{◌modulo◌}
use Rattle.ring.specs.{in_range}
use Rattle.encoder.specs.{plate, Class2, WrongTurn, plate_refusal, fields_refusal, refusal_on, rules_of, rules_fit}
use Rattle.sensor.specs.{step_refusal}
use Rattle.axis_shaft.specs.{inside, oriented, started, difference, shorter, move_of, move_refusal, moved_to, shaft_refusal}
use Rattle.axis.specs.{Axis, rules_on, acceptable, axis_refusal, start_refusal, start, at_raw, read_refusal, read}

-- R = 10, T = 3, M = 3, L = 7, started at step 8 in turn 2: raw number 28
abbrev listing : Axis
listing = (start plate (Class2 0x0a (record { 0 = 3 }) (record { 0 = 7 })) 8 2).axis

abbrev last : Axis → ℕ
last a = a.shaft.last.0

-- computed: the last reading before and after, and the refusals of both readings
works : (last listing ≡ 28) × (last (read listing 4 0).axis ≡ 4) × ((read listing 4 0).refusal ≡ None) × ((read listing 0 4).refusal ≡ Some WrongTurn)
unfolding ◌modulo◌ in_range fields_refusal refusal_on plate_refusal rules_of rules_fit step_refusal inside oriented started difference shorter move_of move_refusal moved_to shaft_refusal rules_on acceptable axis_refusal start_refusal start at_raw read_refusal read
works = (refl, refl, refl, refl)

pub no-record-left : ((a : Axis) (s t : ℕ) → (read a s t).axis ≡ a) → ⊥
no-record-left h = omega (arith, ap last (h listing 4 0), works.0, works.1)

pub no-step-as-turn : ((a : Axis) (s t : ℕ) → (read a s t).refusal ≡ (read a t s).refusal) → ⊥
no-step-as-turn h = let w = works in let same = h listing 4 0 in cc
