-- What a cycle of class 2 makes of its output word (document 01, "One cycle", its second paragraph). By request 2 a preset that could not be made at once
-- is due while bit 31 stays up.
use Rattle.std.specs.Prelude.{ℕ, ◌%◌, ◌^◌, Bool, false, not, ◌&&◌, ◌||◌, ltb, pos, Option}
use Rattle.std.specs.Bool.{then_some}
use Rattle.integer.specs.{bit}
use Rattle.encoder.specs.{InForce}
use Rattle.cyclic_link.specs.{declared.Link.Link, declared.Preset.Preset, declared.Reaction.Reaction}

-- bit 31 of the output asks for an absolute preset
abbrev pub asked : ℕ → Bool
asked word = bit 31 word

-- its value is bits 0 to 30
abbrev pub value : ℕ → ℕ
value word = word % 2 ^ 31

-- request 2: a rise of bit 31 (1 now, 0 as last counted) makes a preset due, and it stays due while the bit is 1
abbrev pub due : Link → ℕ → Bool
due k word = asked word && (not k.requested || k.due)

-- it is made in the first cycle, that of the rise included, with the bit still 1 that is not faulty and has a value below L; only the making asks for the
-- class on
unfoldable pub made : InForce → Link → Bool → ℕ → Bool
made f k faulty word = due k word && f.enabled && not faulty && ltb (value word) f.span.0

-- it is due no more once made or once the bit is 0
abbrev pub still_due : InForce → Link → Bool → ℕ → Bool
still_due f k faulty word = due k word && not (made f k faulty word)

-- what the cycle leaves for the next; class 2 does not touch class 4's part of the link
unfoldable pub link : InForce → Link → Bool → ℕ → Link
link f k faulty word =
    record {
      faulty = faulty;
      requested = asked word;
      error = k.error;
      acknowledged = k.acknowledged;
      executed = k.executed;
      due = still_due f k faulty word;
      counter = k.counter;
      expected = k.expected;
      code = k.code;
    }

-- the preset, if one is made; then link and preset together
abbrev pub preset : InForce → Link → Bool → ℕ → Option Preset
preset f k faulty word = then_some (made f k faulty word) (record { value = pos (value word); relative = false })

abbrev pub reaction : InForce → Link → Bool → ℕ → Reaction
reaction f k faulty word = record { link = link f k faulty word; preset = preset f k faulty word }
