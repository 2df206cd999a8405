-- The claim sees the master's sign of life (request 3): a program that is ours but forgets it breaks the claim at its second cycle. The first brings 1, which is
-- the start; the second brings 5 where 2 is expected, and a rise of bit 12. The counter reaches its stop, so 0F02h is held and no preset is made: exact is 8.4,
-- which on the ring of 7 is 1.4, and not 0.
use Rattle.std.specs.Prelude.{◌≡◌, refl, [], ◌∷◌, pos, None}
use Rattle.std.proofs.Common.{arith}
use Rattle.integer.specs.{◌modulo◌, big_endian}
use Rattle.ring.specs.{in_range}
use Rattle.encoder.specs.{plate_refusal, fields_refusal, refusal_on, rules_of, rules_fit}
use Rattle.sensor.specs.{step_refusal}
use Rattle.axis_shaft.specs.{inside, oriented, started, difference, shorter, move_of, move_refusal, moved_to, unshifted, position_at, shaft_refusal}
use Rattle.axis.specs.{rules_on, acceptable, axis_refusal, unshifted_of, position_of, reported, start_refusal, start, at_raw, read_raw_refusal, read_raw, asked, presetted}
use Rattle.cyclic_link.specs.{life_of, counter, expected, Class4.made, Class4.link, code, link_refusal, within}
use Rattle.cyclic.specs.{faulty_at, taken_at, counted, sign, Class4.axis, link_after, axis_after, length_refusal, cycle_refusal, cycle}
use Rattle.accuracy.specs.{First, first_reading, Call, cycling, Device, start_by, Program, TrueSteps, Supposed, with_readings, Accurate, Claim.Claim, at, forgets_life, device4}
use Rattle.accuracy.specs.Worked.{o, o12}
use Rattle.accuracy.proofs.{OneUnit.told, Listing.event}

-- class 4 with bit 5 at 0 and limit 1, at step 2 of turn 0, which is raw number 2 and oriented number 28; it stands still
abbrev device : Device
device = device4 0x0b

abbrev there : First
there = first_reading 2 0

abbrev begins : Call
begins = cycling 2 (o 0x14 0 0 0) (o12 0 0 0 0)

abbrev fails : Call
fails = cycling 2 (o 0x54 0 0x10 0) (o12 0 0 0 0)

abbrev second : (p : Program) → p.State
second p = p.call (p.call (p.start device.plate device.parameters there) begins) fails

started-there : start_by device there ≡ None
unfolding start_refusal step_refusal refusal_on plate_refusal fields_refusal
started-there = refl

presets : forgets_life.position (second forgets_life) ≡ at 0 1
unfolding ◌modulo◌ big_endian in_range plate_refusal fields_refusal refusal_on rules_of rules_fit step_refusal inside oriented started difference shorter move_of move_refusal moved_to unshifted position_at shaft_refusal rules_on acceptable axis_refusal unshifted_of position_of reported start_refusal start at_raw read_raw_refusal read_raw asked presetted life_of counter expected made link code link_refusal within faulty_at taken_at counted sign axis link_after axis_after length_refusal cycle_refusal cycle
presets = refl

no-preset : (p : Program) → Claim p → p.position (second p) ≡ at 0 1 → ⊥
unfolding Accurate Supposed with_readings length_refusal big_endian counted sign life_of counter expected code move_refusal difference oriented ◌modulo◌ rules_of link_after link
no-preset p h e =
    let still : TrueSteps device 2 2 (pos 0) = record { small = omega arith; times = pos 0; same = refl } in
    let t = (((h device there started-there (event begins (pos 0) ∷ event fails (pos 0) ∷ [])).1 (still, tt)).2.1 (still, tt)).2 in
    let a = told device _ 0 (rw e at t) in
    omega arith

pub no-forgets_life : Claim forgets_life → ⊥
no-forgets_life h = no-preset forgets_life h presets
