-- Acknowledging, by the link alone (document 01, "One cycle", its last paragraph, as request 3 words it). Bit 15 is 1 in one cycle and 0 in the next. An error
-- that the first leaves is acknowledged by its bit 15, so that the second clears it where neither cause is present; where one is, the error stays, with its
-- code. By cases on what the first leaves.
use Rattle.std.specs.Prelude.{◌≡◌, Bool, true, false, not, ◌&&◌, ◌||◌, ℕ}
use Rattle.std.proofs.Math.Bool.{and-true}
use Rattle.encoder.specs.{InForce}
use Rattle.cyclic_link.specs.{Life, Link, acknowledges, heard, code, held, Class4.link}
use Rattle.cyclic_link.proofs.SignOfLifeLaws.{heard-error}
use mathlib.{Core.Bool.and-false}

gone-by : (j : Link) (word : ℕ) (h : Bool) → j.error ≡ h → j.acknowledged ≡ h → acknowledges word ≡ false → code j false false word ≡ 0
unfolding code
gone-by j word true e s down = rw (e, s, down)
gone-by j word false e s down = rw (e, s)

-- neither cause: the cycle is not faulty, and the counter is not at its stop
pub gone : (w : Life) (f : InForce) (k : Link) (stopped faulty : Bool) (one two v : ℕ) → acknowledges one ≡ true → acknowledges two ≡ false
    → code (heard w (link f k stopped faulty one) v) false false two ≡ 0
unfolding link
gone w f k stopped faulty one two v up down =
    let j = link f k stopped faulty one in
    let s = heard-error w j v in
    gone-by (heard w j v) two (held k stopped faulty one) s.0 (rw (s.1, up) (and-true (held k stopped faulty one))) down

-- a cause is present
pub stays : (k : Link) (stopped faulty : Bool) (word : ℕ) → k.error ≡ true → (faulty || stopped) ≡ true → code k stopped faulty word ≡ k.code
unfolding code
stays k stopped faulty word e cause = rw (cause, and-false (k.acknowledged && not (acknowledges word)), e)
