-- Parameters as numbers in a lent list: what a reader answers fills it, or is the refusal.
use Rattle.std.specs.Prelude.{◌≡◌, refl, List, ℕ, length, Option, None, Some, Result, Ok, Err}
use Rattle.std.proofs.Common.{◌∙◌}
use Rattle.encoder.specs.{Nameplate, Parameters, Refusal, answer, checked, coded, buffer_refusal}
use Rattle.encoder.proofs.{buffer-later, buffer-passed, buffer-refused}
use Rattle.parameters_reader.specs.{telegram_refusal, telegram_parameters, read_telegram, block_refusal, block_parameters, read_block}
use Rattle.exports.specs.{code_of, numbers_of, Fills, readers_refusal, take_refusal, taken}

-- ---- the number of an answer
pub code-is : (n : Option Refusal) (x : Result (Unit {0}) Refusal) (k : ℕ) → x ≡ checked n → k ≡ code_of x → k ≡ coded n
code-is None x k x-is k-is = k-is ∙ rw x-is
code-is (Some r) x k x-is k-is = k-is ∙ rw x-is

-- ---- what a reader answers fills a list of its class
by_refusal : (size : ℕ) (k : Option Refusal) (p : Parameters) → length (numbers_of p) ≡ size → Fills size (answer Err (Ok p) k)
by_refusal size None p h = h
by_refusal size (Some r) p h = tt

module _ (n : Nameplate) (t : List ℕ) (x : Result Parameters Refusal) where
  pub telegram-fills : x ≡ read_telegram n t → Fills 3 x
  unfolding read_telegram
  telegram-fills e = rw e (by_refusal 3 (telegram_refusal n t) (telegram_parameters t) refl)

  pub block-fills : x ≡ read_block n t → Fills 5 x
  unfolding read_block
  block-fills e = rw e (by_refusal 5 (block_refusal n t) (block_parameters t) refl)

-- ---- nameplate or length refuse, or what the reader answers decides
module _ (n : Nameplate) (x : Result Parameters Refusal) (size : ℕ) (out : List ℕ) where
  pub take-refused : (r : Refusal) → buffer_refusal n (length out) size None ≡ Some r → take_refusal n size x out ≡ Some r
  unfolding take_refusal
  take-refused r e = buffer-refused n (length out) size r (readers_refusal x) e

  pub take-later : buffer_refusal n (length out) size None ≡ None → take_refusal n size x out ≡ readers_refusal x
  unfolding take_refusal
  take-later e = buffer-later n (length out) size (readers_refusal x) e

  pub take-unread : (r : Refusal) → buffer_refusal n (length out) size None ≡ None → x ≡ Err r → take_refusal n size x out ≡ Some r
  take-unread r e x-is = take-later e ∙ rw x-is

  pub take-read : (p : Parameters) → buffer_refusal n (length out) size None ≡ None → x ≡ Ok p → take_refusal n size x out ≡ None
  take-read p e x-is = take-later e ∙ rw x-is

  pub take-fits : (p : Parameters) → buffer_refusal n (length out) size None ≡ None → Fills size x → x ≡ Ok p → length out ≡ length (numbers_of p)
  take-fits p e fills x-is = let h : length (numbers_of p) ≡ size = rw x-is at fills in rw h (buffer-passed n (length out) size None e).1

-- ---- the same, of the plate that the numbers stand for
module _ (n m : Nameplate) (x y : Result Parameters Refusal) (size : ℕ) (out : List ℕ) where
  pub take-code-by : (r : ℕ) → r ≡ coded (take_refusal n size x out) → n ≡ m → x ≡ y → r ≡ coded (take_refusal m size y out)
  take-code-by r r-is n-is x-is = rw (← n-is, ← x-is) r-is

  pub take-list-by : (l : List ℕ) → l ≡ taken n size x out → n ≡ m → x ≡ y → l ≡ taken m size y out
  take-list-by l l-is n-is x-is = rw (← n-is, ← x-is) l-is

module _ (n m : Nameplate) (t : List ℕ) (x : Result Parameters Refusal) where
  pub telegram-by : x ≡ read_telegram n t → n ≡ m → x ≡ read_telegram m t
  telegram-by x-is n-is = rw (← n-is) x-is

  pub block-by : x ≡ read_block n t → n ≡ m → x ≡ read_block m t
  block-by x-is n-is = rw (← n-is) x-is

pub ruleset reading = (telegram-fills, block-fills, telegram-by, block-by, take-code-by, take-list-by)
