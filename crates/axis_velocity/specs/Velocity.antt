-- Velocity (document 01, "Velocity"; row 14).
use Rattle.std.specs.Prelude.{cond, not, ℕ, ◌*◌, eqb, ℤ, pos, negsuc, ◌*ℤ◌, Option, Result, Ok, Err}
use Rattle.std.specs.Int.Signed.{quot_z}
use Rattle.integer.specs.{clamp}
use Rattle.encoder.specs.{InForce, Refusal, NothingElapsed, NoAxis, when, ◌before◌, answer}
use Rattle.sensor.specs.{raw_of, step_refusal}
use Rattle.axis_shaft.specs.{Shaft, inside, move_of, move_refusal, moved_to, shaft_refusal}
use Rattle.axis.specs.{Axis, rules_on, axis_refusal}
use Rattle.axis_velocity.specs.{declared.MovedAt.MovedAt}

-- what the move is multiplied by: M × k for units per second, per 100 ms and per 10 ms (speed unit 0, 1, 2: k = 1000, 100, 10), and 60000 for
-- turns per minute (3); class 2 uses unit 0
unfoldable pub factor_of : InForce → ℕ
factor_of f =
    cond (eqb f.speed 0) (f.scale.0 * 1000)
    (cond (eqb f.speed 1) (f.scale.0 * 100)
    (cond (eqb f.speed 2) (f.scale.0 * 10)
    60000))

-- the least and the greatest number of 32 bits with a sign
abbrev pub least : ℤ
least = negsuc 0x7fff_ffff

abbrev pub greatest : ℤ
greatest = pos 0x7fff_ffff

-- of a move by d steps in e milliseconds: divided by R × e and cut towards zero, then limited to signed 32 bits
unfoldable pub rate_of : InForce → ℤ → ℕ → ℤ
rate_of f d e = clamp least greatest (quot_z (d *ℤ pos (factor_of f)) (pos (f.steps.0 * e)))

-- the velocity of a shaft at raw number raw, e milliseconds after its last reading: that of its move
abbrev pub velocity_of : InForce → Shaft → ℕ → ℕ → ℤ
velocity_of f k raw e = rate_of f (move_of f k.last.0 raw) e

-- ---- the call: 16, 14, 8, 9, 10
unfoldable pub velocity_refusal : Axis → ℕ → ℕ → ℕ → Option Refusal
velocity_refusal a s t e =
    axis_refusal a
    before when (eqb e 0) NothingElapsed
    before step_refusal a.nameplate s t
    before shaft_refusal (rules_on a) a.shaft (raw_of a.nameplate s t)

-- the answer for step s and turn t, e milliseconds after the last reading: the velocity, or the refusal; the axis is not moved
unfoldable pub velocity_at : Axis → ℕ → ℕ → ℕ → Result ℤ Refusal
velocity_at a s t e =
    answer Err (Ok (velocity_of (rules_on a) a.shaft (raw_of a.nameplate s t) e)) (velocity_refusal a s t e)

-- ---- for the cycle with velocity (request 1), the same of a shaft that moves: 16, 14, 9, 10
unfoldable pub moved_at_refusal : InForce → Shaft → ℕ → ℕ → Option Refusal
moved_at_refusal f k raw e =
    when (not (inside f k)) NoAxis
    before when (eqb e 0) NothingElapsed
    before move_refusal f k.last.0 raw

-- the shaft after the reading and the velocity of its move, or the refusal
unfoldable pub moved_at : InForce → Shaft → ℕ → ℕ → Result MovedAt Refusal
moved_at f k raw e = answer Err (Ok (record { shaft = moved_to f k raw; velocity = velocity_of f k raw e })) (moved_at_refusal f k raw e)
