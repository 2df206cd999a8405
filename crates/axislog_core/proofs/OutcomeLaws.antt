-- What an accepted call tells of its two lengths, and that the answers fit into the buffer.
use Rattle.std.specs.Prelude.{◌≡◌, List, not, ℕ, ◌≤◌, length, take, eqb, ltb, None, Ok}
use Rattle.std.proofs.Common.{sym, arith, length-take-le, ltb-false, eqb-true}
use Rattle.encoder.specs.{NoForm, WrongBuffer, when}
use Rattle.encoder.proofs.{before-none, when-not, when-none, value-is}
use Rattle.axislog_core.specs.{answers, call_refusal, outcome}
use Rattle.axislog_core.proofs.RoomLaws.{answers-room}

pub call-taken : (input output : ℕ) → call_refusal input output ≡ None → (input ≤ 60000) × (output ≡ 780000)
call-taken input output none =
    let h = before-none (when (ltb 60000 input) NoForm) (when (not (eqb output 780000)) WrongBuffer) none in
    (ltb-false _ _ (when-not _ _ h.0), eqb-true _ _ (when-none _ _ h.1))

-- ---- what a caller may take from the buffer
written-within : (input out : List ℕ) (n : ℕ) → Ok n ≡ outcome input out → n ≤ length out
unfolding outcome
written-within input out n e =
    let t = value-is (length (answers input)) (call_refusal (length input) (length out)) n e in
    let h = call-taken (length input) (length out) t.0 in
    omega (arith, h.1, t.1, answers-room input h.0)

module _ (input out out' : List ℕ) (n : ℕ) (n-is : Ok n ≡ outcome input out) (l : length out' ≡ length out) where
  pub answers-in : n ≤ length out'
  answers-in = let h = written-within input out n n-is in omega arith

  pub answers-cut : n ≡ length (take n out')
  answers-cut = sym (length-take-le n out' answers-in)
