-- Request 1, telegram 83: a cycle of its own for a class 4 axis, with the velocity in its input. 4 octets out, as in telegram 81; 16 in, the twelve of
-- telegram 81 and then NIST_B. It is given the elapsed milliseconds e. Axis and link go forward as in telegram 81 (rows 13, 14 and 16).
use Rattle.std.specs.Prelude.{ℕ, Bool, cond, not, ◌&&◌, List, ◌++◌, eqb, ℤ, pos, length, Option}
use Rattle.integer.specs.{octets}
use Rattle.ring.specs.{complement}
use Rattle.encoder.specs.{Refusal, WrongBuffer, NothingElapsed, when, ◌before◌, answer}
use Rattle.axis.specs.{Axis, rules_on, axis_refusal, read_raw}
use Rattle.axis_velocity.specs.{velocity_of}
use Rattle.cyclic_link.specs.{Link, link_refusal}
use Rattle.cyclic.specs.{declared.Cycled.Cycled, declared.standing.Measured.Measured, Raw.faulty_at, Cycle.class4, Cycle.life, Cycle.axis_after, Cycle.link_left}
use Rattle.cyclic.specs.{Cycle.input_left, Cycle.cycled}

-- NIST_B is the velocity at this cycle's raw number, of the axis as it stood before the cycle: so a preset has no part in it. In a faulty cycle it is 0
unfoldable pub nist_b : Axis → ℕ → ℕ → ℤ
nist_b a raw e = cond (faulty_at a raw) (pos 0) (velocity_of (rules_on a) a.shaft raw e)

-- the answer to the raw number, with NIST_B
abbrev pub measured : Axis → ℕ → ℕ → Measured
measured a raw e = record { next = read_raw a raw; velocity = nist_b a raw e }

-- the twelve octets of telegram 81, then NIST_B as a signed number of 32 bits
unfoldable pub input83 : Axis → Link → ℕ → ℕ → List ℕ → List ℕ
input83 a k raw e output = input_left a k raw output ++ octets 4 (complement (nist_b a raw e))

-- 13: other lengths than 4 and 16, and a class 2 axis whatever the lengths. 14: nothing elapsed, whatever the raw number
unfoldable pub refusal83 : Bool → ℕ → ℕ → ℕ → Option Refusal
refusal83 class output input e =
    when (not (class && eqb output 4 && eqb input 16)) WrongBuffer
    before when (eqb e 0) NothingElapsed

-- 16, of the axis or of the link (request 3), 13, 14
unfoldable pub cycle83_refusal : Axis → Link → ℕ → List ℕ → List ℕ → Option Refusal
cycle83_refusal a k e output input =
    axis_refusal a
    before link_refusal (life a.parameters) k
    before refusal83 (class4 a.parameters) (length output) (length input) e

-- the next axis and the next link are those of telegram 81; refused, they are kept
unfoldable pub cycle83 : Axis → Link → ℕ → ℕ → List ℕ → List ℕ → Cycled
cycle83 a k raw e output input = cycled a k (axis_after a k raw output) (link_left a k raw output) (cycle83_refusal a k e output input)

-- the lent input octets: kept where the cycle is refused
unfoldable pub cycle83_input : Axis → Link → ℕ → ℕ → List ℕ → List ℕ → List ℕ
cycle83_input a k raw e output input = answer (λ _. input) (input83 a k raw e output) (cycle83_refusal a k e output input)
