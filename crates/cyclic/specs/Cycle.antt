-- One cycle, put together from its parts (document 01, "One cycle"; rows 13 and 16; request 3): an axis runs the cycle of the class that its parameters
-- came from.
use Rattle.std.specs.Prelude.{ℕ, Bool, cond, not, ◌&&◌, List, eqb, length, Option, None, Some, is_some, Result, Ok, Err}
use Rattle.encoder.specs.{Parameters, InForce, Refusal, WrongBuffer, when, ◌before◌, answer, fields_of}
use Rattle.axis.specs.{Axis, Next, rules_on, axis_refusal}
use Rattle.cyclic_link.specs.{Link, Life, Control, Reaction, life_of, link_refusal, Classes.reaction}
use Rattle.cyclic.specs.{declared.Cycled.Cycled, Raw.faulty_at, Raw.taken_at, Preset.preset_by}
use Rattle.cyclic_link.specs.Class2 as Link2
use Rattle.cyclic_link.specs.Class4 as Link4
use Rattle.cyclic.specs.Class2 as Class2
use Rattle.cyclic.specs.Class4 as Class4

-- the class that parameters came from: true for class 4
abbrev pub class4 : Parameters → Bool
class4 p = (fields_of p).class4

-- 4 octets out; 4 in, or 12 in telegram 81; else 13
abbrev pub input_octets : Bool → ℕ
input_octets class = cond class 12 4

unfoldable pub length_refusal : Bool → ℕ → ℕ → Option Refusal
length_refusal class output input = when (not (eqb output 4 && eqb input (input_octets class))) WrongBuffer

-- the sign of life of an axis with these parameters (request 3)
abbrev pub life : Parameters → Life
life p = life_of (fields_of p)

-- 16, of the axis or of the link, 13
unfoldable pub cycle_refusal : Axis → Link → List ℕ → List ℕ → Option Refusal
cycle_refusal a k output input =
    axis_refusal a
    before link_refusal (life a.parameters) k
    before length_refusal (class4 a.parameters) (length output) (length input)

-- what the control sends and the input, by the class
abbrev pub control_by : Bool → List ℕ → Control
control_by class output = cond class (Class4.control output) (record { word = Class2.word_of output; sign = 0 })

abbrev pub input_by : Bool → Link → ℕ → Axis → List ℕ
input_by class k word a = cond class (Class4.input k word a) (Class2.input a)

-- the link that a cycle leaves, by what is in force
unfoldable pub link_after : InForce → Parameters → Link → Bool → List ℕ → Link
link_after f p k faulty output =
    cond (class4 p) (Link4.link f (Class4.heard_in (life p) k output) (Class4.stopped_in (life p) k output) faulty (Class4.counted output))
    (Link2.link f k faulty (Class2.word_of output))

-- the axis that it leaves: the raw number first, and then the preset, if one is made
unfoldable pub axis_after : Axis → Link → ℕ → List ℕ → Axis
axis_after a k raw output =
    let w = life a.parameters in
    cond (class4 a.parameters)
    (Class4.axis (taken_at a raw) (Class4.heard_in w k output) (Class4.stopped_in w k output) (faulty_at a raw) (Class4.counted output))
    (Class2.axis (taken_at a raw) k (faulty_at a raw) (Class2.word_of output))

-- the input, by the link and the axis that it leaves
unfoldable pub input_of : Link → Axis → List ℕ → List ℕ
input_of k a output = cond (class4 a.parameters) (Class4.input k (Class4.counted output) a) (Class2.input a)

-- the link and the input that a cycle with this raw number leaves
abbrev pub link_left : Axis → Link → ℕ → List ℕ → Link
link_left a k raw output = link_after (rules_on a) a.parameters k (faulty_at a raw) output

abbrev pub input_left : Axis → Link → ℕ → List ℕ → List ℕ
input_left a k raw output = input_of (link_left a k raw output) (axis_after a k raw output) output

-- the answer by its refusal: refused, axis and link are kept
abbrev pub done : Axis → Link → Cycled
done a k = record { axis = a; link = k; refusal = None }

abbrev pub refused : Axis → Link → Refusal → Cycled
refused a k r = record { axis = a; link = k; refusal = Some r }

abbrev pub cycled : Axis → Link → Axis → Link → Option Refusal → Cycled
cycled a k b j n = answer (refused a k) (done b j) n

-- and by the cycle that is run
abbrev pub cycled_by : Axis → Link → Result Cycled Refusal → Cycled
cycled_by a k (Ok c) = c
cycled_by a k (Err r) = refused a k r

-- the part of an accepted cycle that follows on the raw number, where x is the answer to that number: the reaction to the output octets, then the axis
-- with the preset that the reaction makes, and its link
abbrev pub reaction_to : Bool → Life → InForce → Link → Next → List ℕ → Reaction
reaction_to class w f k x output = reaction class w f k (is_some x.refusal) (control_by class output) x.axis.stored

abbrev pub responded : Bool → Life → InForce → Link → Next → List ℕ → Cycled
responded class w f k x output =
    let q = reaction_to class w f k x output in
    done (preset_by x.axis q.preset) q.link

-- the whole call
unfoldable pub cycle : Axis → Link → ℕ → List ℕ → List ℕ → Cycled
cycle a k raw output input = cycled a k (axis_after a k raw output) (link_left a k raw output) (cycle_refusal a k output input)

-- the lent input octets: kept where the cycle is refused
unfoldable pub cycle_input : Axis → Link → ℕ → List ℕ → List ℕ → List ℕ
cycle_input a k raw output input = answer (λ _. input) (input_left a k raw output) (cycle_refusal a k output input)
