-- A reading and its raw number (document 01, "Plate and reading"; rows 8 and 9 of "When a call is turned away").
use Rattle.std.specs.Prelude.{ℕ, ◌+◌, ◌*◌, leb, Option, Result, Ok, Err}
use Rattle.encoder.specs.{Nameplate, Refusal, WrongStep, WrongTurn, when, ◌before◌, answer, plate_refusal}

-- the raw number t × R + s
abbrev pub raw_of : Nameplate → ℕ → ℕ → ℕ
raw_of n s t = t * n.steps.0 + s

-- 7; then step s is 0 to R − 1 (8), turn t is 0 to T − 1 (9)
unfoldable pub step_refusal : Nameplate → ℕ → ℕ → Option Refusal
step_refusal n s t = plate_refusal n before when (leb n.steps.0 s) WrongStep before when (leb n.turns.0 t) WrongTurn

-- the answer: the raw number of step s and turn t, or the refusal
unfoldable pub numbered : Nameplate → ℕ → ℕ → Result ℕ Refusal
numbered n s t = answer Err (Ok (raw_of n s t)) (step_refusal n s t)
