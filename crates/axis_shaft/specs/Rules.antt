-- The shaft: its place and its last reading (document 01, "The axis", rules 1 to 5; rows 9, 10 and 16).
use Rattle.std.specs.Prelude.{Bool, cond, not, ◌&&◌, ℕ, ◌-◌, ◌*◌, ◌/◌, ◌%◌, ◌^◌, ◌<◌, eqb, ltb, leb, ℤ, pos, neg_ℤ, ◌+ℤ◌, ◌-ℤ◌, Option, Result, Ok, Err}
use Rattle.integer.specs.{◌modulo◌}
use Rattle.encoder.specs.{InForce, Refusal, WrongTurn, HalfRange, NoAxis, when, ◌before◌, answer, rules_fit, Sound}
use Rattle.axis_shaft.specs.{declared.Shaft.Shaft, declared.MovedBy.MovedBy, declared.Reported.Reported}

-- R × L, steps × range. After so many steps place and position repeat: they are L turns, and M total ranges
abbrev pub period : InForce → ℕ
period f = f.steps.0 * f.span.0

-- the limits: what is in force is within its own, the place is below R × L and the last reading below C
unfoldable pub inside : InForce → Shaft → Bool
inside f k = rules_fit f && (ltb k.place.0 (period f) && ltb k.last.0 f.capacity.0)

-- the same, as facts
pub record Inside (f : InForce) (k : Shaft) : Type 0 where
  pub sound : Sound f
  pub place : k.place.0 < period f
  pub last : k.last.0 < f.capacity.0

-- before a first reading; no sensor has such a last reading
abbrev pub nowhere : Shaft
nowhere = record { place = record { 0 = 0 }; last = record { 0 = 2 ^ 64 - 1 } }

-- 1. the oriented number is the raw number, or with the code sequence in force (C − raw) modulo C
unfoldable pub oriented : InForce → ℕ → ℕ
oriented f raw = cond f.reversed ((f.capacity.0 - raw) % f.capacity.0) raw

-- 2, 4. the place is at first the oriented number, and is kept modulo R × L from the start on
unfoldable pub started : InForce → ℕ → Shaft
started f raw = record { place = record { 0 = oriented f raw % period f }; last = record { 0 = raw } }

-- 3. the difference of oriented numbers modulo C
unfoldable pub difference : InForce → ℕ → ℕ → ℕ
difference f last raw = (pos (oriented f raw) -ℤ pos (oriented f last)) modulo f.capacity.0

-- the shorter way on a ring of c: n ahead, or c − n back
unfoldable pub shorter : ℕ → ℕ → ℤ
shorter n c = cond (ltb n (c - n)) (pos n) (neg_ℤ (pos (c - n)))

-- a new reading moves the place by d, the difference taken the shorter way
unfoldable pub move_of : InForce → ℕ → ℕ → ℤ
move_of f last raw = shorter (difference f last raw) f.capacity.0

-- 10: a difference n of exactly C/2
abbrev pub half_refusal : ℕ → ℕ → Option Refusal
half_refusal n c = when (eqb (2 * n) c) HalfRange

-- 9: raw number ≥ C; then 10
unfoldable pub move_refusal : InForce → ℕ → ℕ → Option Refusal
move_refusal f last raw = when (leb f.capacity.0 raw) WrongTurn before half_refusal (difference f last raw) f.capacity.0

-- the move, or the refusal
unfoldable pub approach_from : InForce → ℕ → ℕ → Result ℤ Refusal
approach_from f last raw = answer Err (Ok (move_of f last raw)) (move_refusal f last raw)

-- 3, 4. the shaft after the reading
unfoldable pub moved_to : InForce → Shaft → ℕ → Shaft
moved_to f k raw = record { place = record { 0 = (pos k.place.0 +ℤ move_of f k.last.0 raw) modulo period f }; last = record { 0 = raw } }

-- 4. the unshifted position is place × M / R rounded down, modulo L
unfoldable pub unshifted : InForce → Shaft → ℕ
unshifted f k = k.place.0 * f.scale.0 / f.steps.0 % f.span.0

-- 5. the position is unshifted + offset, modulo L
unfoldable pub position_at : InForce → ℤ → Shaft → ℕ
position_at f offset k = (pos (unshifted f k) +ℤ offset) modulo f.span.0

-- both
abbrev pub positions_at : InForce → ℤ → Shaft → Reported
positions_at f offset k = record { position = record { 0 = position_at f offset k }; unshifted = record { 0 = unshifted f k } }

-- ---- the answers, by the refusal: 16, 9, 10
unfoldable pub begin_refusal : InForce → ℕ → Option Refusal
begin_refusal f raw = when (not (rules_fit f)) NoAxis before when (leb f.capacity.0 raw) WrongTurn

unfoldable pub begun : InForce → ℕ → Result Shaft Refusal
begun f raw = answer Err (Ok (started f raw)) (begin_refusal f raw)

unfoldable pub shaft_refusal : InForce → Shaft → ℕ → Option Refusal
shaft_refusal f k raw = when (not (inside f k)) NoAxis before move_refusal f k.last.0 raw

unfoldable pub approached : InForce → Shaft → ℕ → Result ℤ Refusal
approached f k raw = answer Err (Ok (move_of f k.last.0 raw)) (shaft_refusal f k raw)

unfoldable pub moved : InForce → Shaft → ℕ → Result Shaft Refusal
moved f k raw = answer Err (Ok (moved_to f k raw)) (shaft_refusal f k raw)

-- the same with the move, for the velocity in the cycle (request 1)
unfoldable pub moved_by : InForce → Shaft → ℕ → Result MovedBy Refusal
moved_by f k raw = answer Err (Ok (record { shaft = moved_to f k raw; d = move_of f k.last.0 raw })) (shaft_refusal f k raw)

unfoldable pub reported_at : InForce → ℤ → Shaft → Result Reported Refusal
reported_at f offset k = answer Err (Ok (positions_at f offset k)) (when (not (inside f k)) NoAxis)
