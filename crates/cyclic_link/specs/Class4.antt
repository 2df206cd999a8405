-- What a cycle of class 4 makes of G1_STW, as counted, and G1_ZSW (document 01, "One cycle", the table and the text below it). By request 3 an error has a
-- code. The link is that once the cycle is counted, and `stopped` tells that its counter stands at its stop.
use Rattle.std.specs.Prelude.{ℕ, ◌+◌, Bool, cond, not, ◌&&◌, ◌||◌, eqb, ℤ, Option}
use Rattle.std.specs.Bool.{then_some}
use Rattle.integer.specs.{bit, at}
use Rattle.encoder.specs.{InForce}
use Rattle.cyclic_link.specs.{declared.Link.Link, declared.Preset.Preset, declared.Reaction.Reaction}

-- ---- the bits of G1_STW; bit 13 is ignored
abbrev pub acknowledges : ℕ → Bool
acknowledges word = bit 15 word

abbrev pub parked : ℕ → Bool
parked word = bit 14 word

abbrev pub asked : ℕ → Bool
asked word = bit 12 word

abbrev pub relative : ℕ → Bool
relative word = bit 11 word

-- ---- the codes of errors (request 3)
-- the cycle was faulty
abbrev pub sensor_fault : ℕ
sensor_fault = 0x0001

-- the master's sign of life has failed
abbrev pub life_fault : ℕ
life_fault = 0x0f02

-- ---- in order
-- 0001h arises where the cycle is faulty and not parked, otherwise 0F02h where the counter stands at its stop; 0: none arises
abbrev pub arises : Bool → Bool → Bool → ℕ
arises stopped faulty park = cond (faulty && not park) sensor_fault (cond stopped life_fault 0)

-- an error already held keeps its code
abbrev pub coded : Link → ℕ → ℕ
coded k arisen = cond k.error k.code arisen

-- if acknowledge was seen last cycle and bit 15 is now 0, the error is cleared, but only when neither cause is present: the cycle faulty, parked or not;
-- the counter at its stop
abbrev pub clears : Link → Bool → Bool → Bool → Bool
clears k stopped faulty acknowledge = k.acknowledged && not acknowledge && not (faulty || stopped)

abbrev pub code_by : Link → Bool → Bool → Bool → Bool → ℕ
code_by k stopped faulty park acknowledge = cond (clears k stopped faulty acknowledge) 0 (coded k (arises stopped faulty park))

-- the code that is held, 0 for none; and that an error is held
unfoldable pub code : Link → Bool → Bool → ℕ → ℕ
code k stopped faulty word = code_by k stopped faulty (parked word) (acknowledges word)

abbrev pub held : Link → Bool → Bool → ℕ → Bool
held k stopped faulty word = not (eqb (code k stopped faulty word) 0)

-- acknowledge seen = error held and bit 15
abbrev pub seen : Link → Bool → Bool → ℕ → Bool
seen k stopped faulty word = held k stopped faulty word && acknowledges word

-- a preset is made on a rise of bit 12 when the class is on, no error is held and the cycle is not faulty
unfoldable pub made : InForce → Link → Bool → Bool → ℕ → Bool
made f k stopped faulty word = not k.requested && asked word && f.enabled && not (held k stopped faulty word) && not faulty

-- preset executed is then 1 and stays so until bit 12 is 0
abbrev pub executed : InForce → Link → Bool → Bool → ℕ → Bool
executed f k stopped faulty word = asked word && (made f k stopped faulty word || k.executed)

-- what the cycle leaves for the next; class 4 does not touch class 2's part of the link
unfoldable pub link : InForce → Link → Bool → Bool → ℕ → Link
link f k stopped faulty word =
    record {
      faulty = faulty;
      requested = asked word;
      error = held k stopped faulty word;
      acknowledged = seen k stopped faulty word;
      executed = executed f k stopped faulty word;
      due = k.due;
      counter = k.counter;
      expected = k.expected;
      code = code k stopped faulty word;
    }

-- the preset, of the held preset value, if one is made; then link and preset together
abbrev pub preset : InForce → Link → Bool → Bool → ℕ → ℤ → Option Preset
preset f k stopped faulty word stored = then_some (made f k stopped faulty word) (record { value = stored; relative = relative word })

abbrev pub reaction : InForce → Link → Bool → Bool → ℕ → ℤ → Reaction
reaction f k stopped faulty word stored = record { link = link f k stopped faulty word; preset = preset f k stopped faulty word stored }

-- ---- G1_ZSW, by the link that the cycle leaves; other status bits are 0
unfoldable pub zsw : Link → ℕ → ℕ
zsw k word = at k.error 15 + at (parked word) 14 + at (not k.error) 13 + at k.executed 12 + at k.acknowledged 11
