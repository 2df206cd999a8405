-- The cycle of class 4, telegram 81: out STW2_ENC and G1_STW, in ZSW2_ENC, G1_ZSW, G1_XIST1 and G1_XIST2 (document 01, "One cycle", from its
-- third paragraph on).
use Rattle.std.specs.Prelude.{ℕ, ◌/◌, ◌%◌, ◌^◌, Bool, cond, List, ◌++◌}
use Rattle.integer.specs.{bit, part, big_endian, octets}
use Rattle.encoder.specs.{fields_of}
use Rattle.axis.specs.{Axis, rules_on, unshifted_of, position_of}
use Rattle.cyclic_link.specs.{Link, Life, Control, heard, at_stop, Class4.preset, zsw}
use Rattle.cyclic.specs.Preset.{preset_by}

-- ---- the control words
abbrev pub stw2 : List ℕ → ℕ
stw2 output = big_endian (part 1 2 output)

abbrev pub stw : List ℕ → ℕ
stw output = big_endian (part 3 4 output)

-- if STW2_ENC bit 10 is 0, G1_STW counts as 0
unfoldable pub counted : List ℕ → ℕ
counted output = cond (bit 10 (stw2 output)) (stw output) 0

-- request 3: bits 12 to 15 of STW2_ENC are the master's sign of life, whatever bit 10 is
unfoldable pub sign : List ℕ → ℕ
sign output = stw2 output / 2 ^ 12 % 2 ^ 4

abbrev pub control : List ℕ → Control
control output = record { word = counted output; sign = sign output }

-- the link once this cycle is counted, and whether its counter then stands at its stop
abbrev pub heard_in : Life → Link → List ℕ → Link
heard_in w k output = heard w k (sign output)

abbrev pub stopped_in : Life → Link → List ℕ → Bool
stopped_in w k output = at_stop w (heard_in w k output)

-- ---- the axis after the raw number, with the preset of the held preset value, relative by bit 11, if one is made
unfoldable pub axis : Axis → Link → Bool → Bool → ℕ → Axis
axis a k stopped faulty word = preset_by a (preset (rules_on a) k stopped faulty word a.stored)

-- ---- the input, filled after any preset
-- ZSW2_ENC
abbrev pub zsw2 : ℕ
zsw2 = 0x0200

-- G1_XIST1 is the position, or the unshifted one under block bit 2
abbrev pub unshifted_shown : Axis → Bool
unshifted_shown a = bit 2 (fields_of a.parameters).operating

abbrev pub xist1 : Axis → ℕ
xist1 a = cond (unshifted_shown a) (unshifted_of a) (position_of a)

-- G1_XIST2 is the code of the error while one is held (request 3), else the position
abbrev pub xist2 : Link → Axis → ℕ
xist2 k a = cond k.error k.code (position_of a)

-- G1_ZSW, G1_XIST1 and G1_XIST2 behind ZSW2_ENC
abbrev pub words : ℕ → ℕ → ℕ → List ℕ
words status first second = octets 2 zsw2 ++ octets 2 status ++ octets 4 first ++ octets 4 second

unfoldable pub input : Link → ℕ → Axis → List ℕ
input k word a = words (zsw k word) (xist1 a) (xist2 k a)
