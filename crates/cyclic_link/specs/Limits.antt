-- The limits of a link that is brought (request 3; row 16). They ask for the parameters of the axis: a link that one axis has left may get 16 on another.
use Rattle.std.specs.Prelude.{ℕ, Bool, cond, not, ◌&&◌, ◌||◌, eqb, leb, Option}
use Rattle.encoder.specs.{Refusal, NoAxis, when}
use Rattle.cyclic_link.specs.{declared.Link.Link, declared.Life.Life, Class4.sensor_fault, Class4.life_fault}

-- the counter is 0, or not above its stop on an axis with a sign of life
abbrev pub counter_within : Life → Link → Bool
counter_within w k = eqb k.counter 0 || w.on && leb k.counter w.stop

-- an error has the code 0001h, or 0F02h on an axis with a sign of life; the code is 0 without an error
abbrev pub of_error : Life → ℕ → Bool
of_error w n = eqb n sensor_fault || w.on && eqb n life_fault

abbrev pub code_within : Life → Link → Bool
code_within w k = cond k.error (of_error w k.code) (eqb k.code 0)

-- and the expected value is not above 15
unfoldable pub within : Life → Link → Bool
within w k = counter_within w k && leb k.expected 15 && code_within w k

-- 16: a link outside its limits
unfoldable pub link_refusal : Life → Link → Option Refusal
link_refusal w k = when (not (within w k)) NoAxis
