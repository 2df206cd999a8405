-- The claim sees the octets of telegram 83: a program that is ours but for their order breaks it at its first such cycle. G1_XIST1 would then be read
-- out of the status words 0200h 2000h, which on the ring of 7 are 4; exact is 8.4, which is 1.4.
use Rattle.std.specs.Prelude.{◌≡◌, refl, [], ◌∷◌, ◌++◌, pos, None}
use Rattle.std.proofs.Common.{arith}
use Rattle.integer.specs.{◌modulo◌, clamp, big_endian, octets}
use Rattle.ring.specs.{in_range, complement}
use Rattle.encoder.specs.{plate_refusal, fields_refusal, refusal_on, rules_of, rules_fit}
use Rattle.sensor.specs.{step_refusal}
use Rattle.axis_shaft.specs.{inside, oriented, started, difference, shorter, move_of, move_refusal, moved_to, unshifted, position_at, shaft_refusal}
use Rattle.axis.specs.{rules_on, acceptable, axis_refusal, unshifted_of, position_of, start_refusal, start, at_raw, read_raw_refusal, read_raw}
use Rattle.axis_velocity.specs.{factor_of, rate_of}
use Rattle.cyclic_link.specs.{life_of, Class4.made, Class4.link, code, zsw, link_refusal, within}
use Rattle.cyclic.specs.{faulty_at, taken_at, counted, Class4.axis, Class4.input, link_after, axis_after, input_of, nist_b, input83, refusal83, cycle83_refusal}
use Rattle.cyclic.specs.{cycle83_input}
use Rattle.accuracy.specs.{First, first_reading, Call, measuring, Device, start_by, deed, Program, Supposed, with_readings, Accurate, Claim.Claim, shifts_octets, device4, opened}
use Rattle.accuracy.specs.Worked.{o}
use Rattle.accuracy.proofs.{OneUnit.told, Listing.steady, Listing.event}

-- class 4 at step 2 of turn 0, which is raw number 2 and oriented number 28; it stands still for 1 ms
abbrev device : Device
device = device4 0x2b

abbrev there : First
there = first_reading 2 0

abbrev measures : Call
measures = measuring 2 1 (o 4 0 0 0) (o 0 0 0 0 ++ o 0 0 0 0 ++ o 0 0 0 0 ++ o 0 0 0 0)

abbrev first : (p : Program) → p.State
first p = p.start device.plate device.parameters there

started-there : start_by device there ≡ None
unfolding start_refusal step_refusal refusal_on plate_refusal fields_refusal
started-there = refl

stands-still : Supposed device 2 (deed device (opened device 2) measures).numbers (steady (pos 0))
unfolding Supposed refusal83 move_refusal difference oriented ◌modulo◌ rules_of
stands-still = (record { small = omega arith; times = pos 0; same = refl }, tt)

shows : shifts_octets.lent (first shifts_octets) measures ≡ o 0 0 0 0 ++ o 0x02 0x00 0x20 0x00 ++ o 0 0 0 1 ++ o 0 0 0 1
unfolding ◌modulo◌ clamp big_endian octets in_range complement plate_refusal fields_refusal refusal_on rules_of rules_fit step_refusal inside oriented started difference shorter move_of move_refusal moved_to unshifted position_at shaft_refusal rules_on acceptable axis_refusal unshifted_of position_of start_refusal start at_raw read_raw_refusal read_raw factor_of rate_of made link life_of code zsw link_refusal within faulty_at taken_at counted axis input link_after axis_after input_of nist_b input83 refusal83 cycle83_refusal cycle83_input
shows = refl

read-there : (p : Program) → Claim p → p.lent (first p) measures ≡ o 0 0 0 0 ++ o 0x02 0x00 0x20 0x00 ++ o 0 0 0 1 ++ o 0 0 0 1 → ⊥
unfolding Accurate with_readings refusal83 big_endian counted life_of code move_refusal difference oriented ◌modulo◌ rules_of
read-there p h e =
    let t = ((h device there started-there (event measures (pos 0) ∷ [])).1 stands-still).1 in
    let a = told device _ 0x02002000 (((rw e at t) refl).xist1 refl refl) in
    omega arith

pub no-shifts_octets : Claim shifts_octets → ⊥
no-shifts_octets h = read-there shifts_octets h shows
