-- The cycle of class 2: 4 octets out, 4 in (document 01, "One cycle", its second paragraph).
use Rattle.std.specs.Prelude.{ℕ, Bool, List}
use Rattle.integer.specs.{big_endian, octets}
use Rattle.axis.specs.{Axis, rules_on, position_of}
use Rattle.cyclic_link.specs.{Link, Class2.preset}
use Rattle.cyclic.specs.Preset.{preset_by}

-- the output word
abbrev pub word_of : List ℕ → ℕ
word_of output = big_endian output

-- the axis after the raw number, with the preset if one is made
unfoldable pub axis : Axis → Link → Bool → ℕ → Axis
axis a k faulty word = preset_by a (preset (rules_on a) k faulty word)

-- the input is the position
unfoldable pub input : Axis → List ℕ
input a = octets 4 (position_of a)
