-- A batch from its start on, in one call.
use Rattle.std.specs.Prelude.{ℕ, List, length, Option}
use Rattle.encoder.specs.{Nameplate, Parameters, Refusal, ◌before◌, answer, buffer_refusal}
use Rattle.axis.specs.{start_raw}
use Rattle.axis_batch.specs.{batch, batch_list}

-- 7 and 13; then those of the start: 3, 4, 5, 6, 17, and 9 of the first raw number; then those of the batch: 9 and 10, entry after entry
unfoldable pub run_refusal : Nameplate → Parameters → ℕ → List ℕ → List ℕ → Option Refusal
run_refusal n p first raws out =
    buffer_refusal n (length raws) (length out) (start_raw n p first).refusal
    before (batch (start_raw n p first).axis raws out).refusal

-- the lent list of positions: that of the batch on the started axis, or as it was
unfoldable pub ran : Nameplate → Parameters → ℕ → List ℕ → List ℕ → List ℕ
ran n p first raws out = answer (λ _. out) (batch_list (start_raw n p first).axis raws out) (run_refusal n p first raws out)
