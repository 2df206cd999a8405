-- A batch, document 01's pass: each raw number as if read singly (rule 7).
use Rattle.std.specs.Prelude.{not, List, [], ◌∷◌, ℕ, eqb, length, Option, None}
use Rattle.encoder.specs.{Refusal, WrongBuffer, when, ◌before◌, answer}
use Rattle.axis.specs.{Axis, Next, axis_refusal, position_of, next, read_raw}

-- the first refusal, entry after entry
unfoldable pub first_refusal : Axis → List ℕ → Option Refusal
first_refusal a [] = None
first_refusal a (raw ∷ raws) = (read_raw a raw).refusal before first_refusal (read_raw a raw).axis raws

-- the axis after the readings, and its position after each
unfoldable pub after : Axis → List ℕ → Axis
after a [] = a
after a (raw ∷ raws) = after (read_raw a raw).axis raws

unfoldable pub positions_of : Axis → List ℕ → List ℕ
positions_of a [] = []
positions_of a (raw ∷ raws) = position_of (read_raw a raw).axis ∷ positions_of (read_raw a raw).axis raws

-- 16, 13, then 9 and 10
unfoldable pub batch_refusal : Axis → List ℕ → List ℕ → Option Refusal
batch_refusal a raws out = axis_refusal a before when (not (eqb (length raws) (length out))) WrongBuffer before first_refusal a raws

unfoldable pub batch : Axis → List ℕ → List ℕ → Next
batch a raws out = next a (batch_refusal a raws out) (after a raws)

-- the lent list of positions: kept where the batch is refused
unfoldable pub batch_list : Axis → List ℕ → List ℕ → List ℕ
batch_list a raws out = answer (λ _. out) (positions_of a raws) (batch_refusal a raws out)
