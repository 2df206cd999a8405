-- A batch, document 01's pass: a list of raw numbers, and a list of positions of the same length, each as if read singly (rule 7).
use Rattle.std.specs.Prelude.{Bool, false, cond, not, ◌&&◌, ◌||◌, List, [], ◌∷◌, ℕ, ◌-◌, ◌/◌, eqb, leb, ℤ, length, Option, None, Result, Ok, Err}
use Rattle.ring.specs.{in_range}
use Rattle.encoder.specs.{InForce, Refusal, WrongBuffer, NoAxis, when, ◌before◌, answer}
use Rattle.axis_shaft.specs.{declared.Shaft.Shaft, Rules.inside}
use Rattle.axis_shaft.specs.{Rules.move_refusal, Rules.moved_to, Rules.position_at}

-- the first refusal, entry after entry
unfoldable pub refusal_in : InForce → ℕ → List ℕ → Option Refusal
refusal_in f last [] = None
refusal_in f last (raw ∷ raws) = move_refusal f last raw before refusal_in f raw raws

-- a quick look at all readings: some are C or above, or C/2 from the one before. If none is, none is refused
abbrev pub gap : ℕ → ℕ → ℕ
gap a b = cond (leb a b) (b - a) (a - b)

unfoldable pub doubtful : ℕ → ℕ → List ℕ → Bool
doubtful c last [] = false
doubtful c last (raw ∷ raws) = (leb c raw || eqb (gap last raw) (c / 2)) || doubtful c raw raws

-- the shaft after the readings
unfoldable pub after : InForce → Shaft → List ℕ → Shaft
after f k [] = k
after f k (raw ∷ raws) = after f (moved_to f k raw) raws

-- and the position at each
unfoldable pub positions_in : InForce → ℤ → Shaft → List ℕ → List ℕ
positions_in f offset k [] = []
positions_in f offset k (raw ∷ raws) = position_at f offset (moved_to f k raw) ∷ positions_in f offset (moved_to f k raw) raws

-- for a list of so many positions: 16, 13, then 9 and 10
unfoldable pub batch_refusal : InForce → Shaft → ℤ → List ℕ → ℕ → Option Refusal
batch_refusal f k offset raws room =
    when (not (inside f k && in_range offset f.span.0)) NoAxis
    before when (not (eqb (length raws) room)) WrongBuffer
    before refusal_in f k.last.0 raws

unfoldable pub batched : InForce → Shaft → ℤ → List ℕ → List ℕ → Result Shaft Refusal
batched f k offset raws out = answer Err (Ok (after f k raws)) (batch_refusal f k offset raws (length out))

-- the lent list of positions: kept where the batch is refused
unfoldable pub batched_list : InForce → Shaft → ℤ → List ℕ → List ℕ → List ℕ
batched_list f k offset raws out = answer (λ _. out) (positions_in f offset k raws) (batch_refusal f k offset raws (length out))
