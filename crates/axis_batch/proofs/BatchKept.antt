-- A batch keeps the limits: it is readings one after the other.
use Rattle.std.specs.Prelude.{List, [], ◌∷◌, ℕ}
use Rattle.axis.specs.{Axis, read_raw}
use Rattle.axis.proofs.{Limits, by_refusal, raw-kept}
use Rattle.axis_batch.specs.{after, batch_refusal, batch}

after_kept : (a : Axis) (s : List ℕ) → Limits a → Limits (after a s)
unfolding after
after_kept a [] l = l
after_kept a (raw ∷ s) l = after_kept (read_raw a raw).axis s (raw-kept a l raw)

pub batch-kept : (a : Axis) (s out : List ℕ) → Limits a → Limits (batch a s out).axis
unfolding batch
batch-kept a s out l = by_refusal a (after a s) (batch_refusal a s out) l (λ e. after_kept a s l)
