-- The definitions give what was worked out by hand: computed.
use Rattle.std.specs.Prelude.{◌≡◌, refl}
use Rattle.integer.specs.{◌modulo◌, clamp, big_endian, octets}
use Rattle.ring.specs.{in_range, complement}
use Rattle.encoder.specs.{plate_refusal, fields_refusal, refusal_on, rules_of, rules_fit}
use Rattle.sensor.specs.{step_refusal}
use Rattle.axis_shaft.specs.{inside, oriented, started, difference, shorter, move_of, move_refusal, moved_to, unshifted, position_at, shaft_refusal, refusal_in}
use Rattle.axis_offset.specs.{value_refusal}
use Rattle.axis.specs.{rules_on, acceptable, axis_refusal, unshifted_of, position_of, reported, start_refusal, start, at_raw, read_raw_refusal, read_raw, read_refusal, read}
use Rattle.axis.specs.{preset_refusal, asked, presetted, preset, store}
use Rattle.axis_batch.specs.{first_refusal, after, positions_of, batch_refusal, batch, batch_list}
use Rattle.axis_velocity.specs.{factor_of, rate_of}
use Rattle.cyclic_link.specs.{Class2.made as made2, Class2.link as link2, life_of, counter, expected, code, link_refusal, within, Class4.made as made4, Class4.link as link4, zsw}
use Rattle.cyclic.specs.{faulty_at, taken_at, Class2.axis as axis2, Class2.input as input2, counted, sign, Class4.axis as axis4, Class4.input as input4, length_refusal}
use Rattle.cyclic.specs.{cycle_refusal, link_after, axis_after, input_of, cycle, cycle_input, nist_b, input83, refusal83, cycle83_refusal, cycle83, cycle83_input}
use Rattle.accuracy.specs.{opened, with_readings, listing, device4, run2, run4, run4u, run4l, begun, traced}

pub worked : (traced listing (begun listing 8 2) (opened listing 28) run2 ≡ run2)
    × (traced (device4 0x2b) (begun (device4 0x2b) 2 0) (opened (device4 0x2b) 2) run4 ≡ run4)
    × (traced (device4 0x2f) (begun (device4 0x2f) 2 0) (opened (device4 0x2f) 2) run4u ≡ run4u)
    × (traced (device4 0x0b) (begun (device4 0x0b) 2 0) (opened (device4 0x0b) 2) run4l ≡ run4l)
unfolding ◌modulo◌ big_endian octets in_range fields_refusal refusal_on plate_refusal rules_of rules_fit step_refusal inside oriented started difference shorter move_of move_refusal moved_to unshifted position_at shaft_refusal refusal_in rules_on acceptable axis_refusal unshifted_of position_of reported start_refusal start at_raw read_raw_refusal read_raw read_refusal read value_refusal preset_refusal asked presetted preset store first_refusal after positions_of batch_refusal batch batch_list faulty_at taken_at made2 axis2 link2 input2 counted sign life_of counter expected code link_refusal within made4 axis4 link4 zsw input4 length_refusal cycle_refusal link_after axis_after input_of cycle cycle_input clamp factor_of rate_of complement nist_b input83 refusal83 cycle83_refusal cycle83 cycle83_input with_readings traced
worked = (refl, refl, refl, refl)
