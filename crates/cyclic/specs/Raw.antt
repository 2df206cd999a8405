-- The raw number that a cycle takes first (document 01, "One cycle", its first paragraph).
use Rattle.std.specs.Prelude.{ℕ, Bool, is_some}
use Rattle.axis.specs.{Axis, read_raw}

-- if 9 or 10 would refuse it, the cycle is faulty
unfoldable pub faulty_at : Axis → ℕ → Bool
faulty_at a raw = is_some (read_raw a raw).refusal

-- and the axis keeps its place; otherwise it has moved
unfoldable pub taken_at : Axis → ℕ → Axis
taken_at a raw = (read_raw a raw).axis
