-- Request 2, the operator's case: a value too large is corrected while bit 31 stays up. Here are the cycles as data; `corrected` in proofs/Correction.antt
-- is the theorem on them.
use Rattle.std.specs.Prelude.{ℕ, ◌≡◌, Bool, true, false, ◌||◌, List, [], ◌∷◌, leb, None}
use Rattle.axis.specs.{Axis, rules_on, read_raw}
use Rattle.cyclic_link.specs.{Link, Class2.asked, value}
use Rattle.cyclic.specs.{declared.Cycled.Cycled, Raw.faulty_at, Class2.word_of, Cycle.class4, Cycle.cycle_refusal, Cycle.cycle, Cycle.cycle_input}

-- a cycle: the axis as it stands then, since other calls may come between two cycles; the raw number, the output octets and the lent input octets
pub record Exchange : Type 0 where
  pub axis : Axis
  pub raw : ℕ
  pub output : List ℕ
  pub input : List ℕ

-- its answer and the input octets that it leaves, on the link of the cycle before
abbrev pub answered : Link → Exchange → Cycled
answered k x = cycle x.axis k x.raw x.output x.input

abbrev pub filled : Link → Exchange → List ℕ
filled k x = cycle_input x.axis k x.raw x.output x.input

-- the link behind cycles, one after the other
unfoldable pub link_behind : Link → List Exchange → Link
link_behind k [] = k
link_behind k (x ∷ xs) = link_behind (answered k x).link xs

-- on the link of the cycle before it is not refused, its axis is of class 2 with the class on, and bit 31 is 1
pub record Up (k : Link) (x : Exchange) : Type 0 where
  pub taken : cycle_refusal x.axis k x.output x.input ≡ None
  pub class2 : class4 x.axis.parameters ≡ false
  pub on : (rules_on x.axis).enabled ≡ true
  pub up : asked (word_of x.output) ≡ true

-- it is faulty; the value that it sends, and L
abbrev pub faulty : Exchange → Bool
faulty x = faulty_at x.axis x.raw

abbrev pub sent : Exchange → ℕ
sent x = value (word_of x.output)

abbrev pub range : Exchange → ℕ
range x = (rules_on x.axis).span.0

-- the bit is up, and it is faulty or has a value too large
abbrev pub Waits : Link → Exchange → Type 0
Waits k x = Up k x × ((faulty x || leb (range x) (sent x)) ≡ true)

-- it makes no preset: it leaves the axis as the reading of its raw number does
abbrev pub NoPreset : Link → Exchange → Type 0
NoPreset k x = (answered k x).axis ≡ (read_raw x.axis x.raw).axis

-- so is each of these, on the link of the one before
unfoldable pub Each : (Link → Exchange → Type 0) → Link → List Exchange → Type 0
Each so k [] = Unit
Each so k (x ∷ xs) = so k x × Each so (answered k x).link xs
