-- One cycle by the rules before request 3: document 01, "One cycle", with requests 1 and 2, as they stood. The link has neither sign of life nor code, and no
-- limits; G1_XIST2 is 0001h while an error is held.
use Rattle.std.specs.Prelude.{ℕ, ◌+◌, Bool, false, cond, not, ◌&&◌, ◌||◌, List, ◌++◌, ltb, pos, length, Option, None, Some}
use Rattle.std.specs.Bool.{then_some}
use Rattle.integer.specs.{at, octets}
use Rattle.ring.specs.{complement}
use Rattle.encoder.specs.{Parameters, InForce, Refusal, ◌before◌, answer}
use Rattle.axis.specs.{Axis, rules_on, axis_refusal, position_of}
use Rattle.cyclic_link.specs.{Link}
use Rattle.cyclic.specs.{Cycled as Now, faulty_at, taken_at, preset_by, word_of, counted, words, xist1, class4, length_refusal, nist_b, refusal83, Class2.input as input2}
use Rattle.cyclic_link.specs.Class2 as Class2
use Rattle.cyclic_link.specs.Class4 as Class4

pub record FormerLink : Type 0 where
  pub faulty : Bool
  pub requested : Bool
  pub error : Bool
  pub acknowledged : Bool
  pub executed : Bool
  pub due : Bool

-- the rest of a link: all but counter, expected value and code
abbrev pub rest : Link → FormerLink
rest k =
    record { faulty = k.faulty; requested = k.requested; error = k.error; acknowledged = k.acknowledged; executed = k.executed; due = k.due }

-- ---- class 2
abbrev pub due : FormerLink → ℕ → Bool
due k word = Class2.asked word && (not k.requested || k.due)

unfoldable pub made2 : InForce → FormerLink → Bool → ℕ → Bool
made2 f k faulty word = due k word && f.enabled && not faulty && ltb (Class2.value word) f.span.0

unfoldable pub link2 : InForce → FormerLink → Bool → ℕ → FormerLink
link2 f k faulty word =
    record {
      faulty = faulty;
      requested = Class2.asked word;
      error = k.error;
      acknowledged = k.acknowledged;
      executed = k.executed;
      due = due k word && not (made2 f k faulty word);
    }

-- ---- class 4
-- a faulty cycle that is not parked holds the error
abbrev pub arises : FormerLink → Bool → Bool → Bool
arises k faulty park = k.error || (faulty && not park)

-- if acknowledge was seen last cycle and bit 15 is now 0, the error stays held only if this cycle is faulty
abbrev pub held_by : FormerLink → Bool → Bool → Bool → Bool
held_by k faulty park acknowledge = cond (k.acknowledged && not acknowledge) (arises k faulty park && faulty) (arises k faulty park)

unfoldable pub held : FormerLink → Bool → ℕ → Bool
held k faulty word = held_by k faulty (Class4.parked word) (Class4.acknowledges word)

unfoldable pub made4 : InForce → FormerLink → Bool → ℕ → Bool
made4 f k faulty word = not k.requested && Class4.asked word && f.enabled && not (held k faulty word) && not faulty

unfoldable pub link4 : InForce → FormerLink → Bool → ℕ → FormerLink
link4 f k faulty word =
    record {
      faulty = faulty;
      requested = Class4.asked word;
      error = held k faulty word;
      acknowledged = held k faulty word && Class4.acknowledges word;
      executed = Class4.asked word && (made4 f k faulty word || k.executed);
      due = k.due;
    }

abbrev pub zsw : FormerLink → ℕ → ℕ
zsw k word = at k.error 15 + at (Class4.parked word) 14 + at (not k.error) 13 + at k.executed 12 + at k.acknowledged 11

-- G1_XIST2 is 0001h while an error is held, else the position
abbrev pub xist2 : FormerLink → Axis → ℕ
xist2 k a = cond k.error 0x0001 (position_of a)

-- ---- the axis, the link and the input that a cycle leaves
unfoldable pub link_after : InForce → Parameters → FormerLink → Bool → List ℕ → FormerLink
link_after f p k faulty output = cond (class4 p) (link4 f k faulty (counted output)) (link2 f k faulty (word_of output))

abbrev pub axis2 : Axis → FormerLink → Bool → ℕ → Axis
axis2 a k faulty word = preset_by a (then_some (made2 (rules_on a) k faulty word) (record { value = pos (Class2.value word); relative = false }))

abbrev pub axis4 : Axis → FormerLink → Bool → ℕ → Axis
axis4 a k faulty word = preset_by a (then_some (made4 (rules_on a) k faulty word) (record { value = a.stored; relative = Class4.relative word }))

unfoldable pub axis_after : Axis → FormerLink → ℕ → List ℕ → Axis
axis_after a k raw output =
    cond (class4 a.parameters) (axis4 (taken_at a raw) k (faulty_at a raw) (counted output)) (axis2 (taken_at a raw) k (faulty_at a raw) (word_of output))

unfoldable pub input_of : FormerLink → Axis → List ℕ → List ℕ
input_of k a output = cond (class4 a.parameters) (words (zsw k (counted output)) (xist1 a) (xist2 k a)) (input2 a)

abbrev pub link_left : Axis → FormerLink → ℕ → List ℕ → FormerLink
link_left a k raw output = link_after (rules_on a) a.parameters k (faulty_at a raw) output

abbrev pub input_left : Axis → FormerLink → ℕ → List ℕ → List ℕ
input_left a k raw output = input_of (link_left a k raw output) (axis_after a k raw output) output

-- ---- the calls: next axis, next link, the refusal, and the lent input octets. Refused, they are kept
pub record Cycled : Type 0 where
  pub axis : Axis
  pub link : FormerLink
  pub refusal : Option Refusal
  pub input : List ℕ

abbrev pub cycled : Axis → FormerLink → List ℕ → Axis → FormerLink → List ℕ → Option Refusal → Cycled
cycled a k input b j filled n =
    answer (λ (r : Refusal). record { axis = a; link = k; refusal = Some r; input = input }) (record { axis = b; link = j; refusal = None; input = filled }) n

-- an answer of today and the input octets beside it, as the former rules know them
abbrev pub known : Now → List ℕ → Cycled
known c input = record { axis = c.axis; link = rest c.link; refusal = c.refusal; input = input }

-- 16, 13
unfoldable pub cycle : Axis → FormerLink → ℕ → List ℕ → List ℕ → Cycled
cycle a k raw output input =
    cycled a k input (axis_after a k raw output) (link_left a k raw output) (input_left a k raw output) (axis_refusal a before length_refusal (class4 a.parameters) (length output) (length input))

-- telegram 83: 16, 13, 14
unfoldable pub cycle83 : Axis → FormerLink → ℕ → ℕ → List ℕ → List ℕ → Cycled
cycle83 a k raw e output input =
    cycled a k input (axis_after a k raw output) (link_left a k raw output) (input_left a k raw output ++ octets 4 (complement (nist_b a raw e))) (axis_refusal a before refusal83 (class4 a.parameters) (length output) (length input) e)
