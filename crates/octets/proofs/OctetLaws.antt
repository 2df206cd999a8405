-- What the fold and the loop over octets keep, and what a bit is.
use Rattle.std.specs.Prelude.{◌≡◌, refl, false, List, ◌++◌, ℕ, zero, suc, ◌+◌, ◌-◌, ◌*◌, ◌/◌, ◌%◌, ◌^◌, ◌<◌, ◌≤◌}
use Rattle.std.proofs.Common.{append_assoc, arith}
use Rattle.std.specs.Int.{w8}
use Rattle.std.specs.Prelude.{length, get_or, take, drop, set}
use Rattle.std.proofs.Common.{take_all, drop-cons}
use Rattle.std.specs.List.{fold}
use Rattle.std.proofs.lemmas.List.Sums.{fold_push}
use Rattle.std.specs.Int.Bits.{bit_and}
use Rattle.std.proofs.lemmas.Nat.{and_mask}
use mir.Val.{Fits}
use Rattle.integer.specs.{big_endian, octets, bit}
use Rattle.integer.proofs.{big_endian-snoc}
use lib.{Seq.take-suc, Seq.drop-set-lt, Seq.get_or-set_same, Seq.lt-length-set}
use native.Mathlib.Nat as N

-- the number of the first octets, one after the other, and so of all
firsts : (s : List ℕ) → ((i : ℕ) → Fits w8 (get_or s i 0)) → (i : ℕ) → i ≤ length s → fold (λ n o. n % 16777216 * 256 + o) 0 (take i s) ≡ big_endian (take i s) % 2 ^ 32
unfolding big_endian
firsts s k zero h = refl
firsts s k (suc i) h =
    let l : i < length s = omega arith in
    rw (take-suc s i 0 l, fold_push, big_endian-snoc) (omega (arith, firsts s k i (omega arith), (k i).fits))

pub number-fold : (s : List ℕ) → ((i : ℕ) → Fits w8 (get_or s i 0)) → fold (λ n o. n % 16777216 * 256 + o) 0 s ≡ big_endian s % 2 ^ 32
number-fold s k = rw (take_all (length s) s (N.le_refl (length s))) at (firsts s k (length s) (N.le_refl (length s)))

-- the octets still to be written, in front of those written: one further and at the end
pub put-more : (s l : List ℕ) (i n : ℕ) → 0 < i → i ≤ length s → octets i n ++ drop i s ≡ l
    → octets (i - 1) (n / 256) ++ drop (i - 1) (set s (i - 1) (n % 256)) ≡ l
unfolding octets
put-more s l zero n k h e = absurd (omega arith)
put-more s l (suc i) n k h e =
    let j : suc i - 1 ≡ i = omega arith in
    let o = n % 256 in
    rw (j, drop-cons (set s i o) i 0 (lt-length-set s i o h), get_or-set_same s i o 0 h, drop-set-lt (suc i) s i o (N.le_refl (suc i)))
    (rw append_assoc at e)

pub put_all : (s l : List ℕ) (i n : ℕ) → i ≤ 0 → octets i n ++ drop i s ≡ l → s ≡ l
unfolding octets
put_all s l zero n h e = e
put_all s l (suc i) n h e = absurd (omega arith)

-- a bit past the word's end is 0, and a mask of one bit is a remainder
pub bit_past : (n w : ℕ) → w < 2 ^ 32 → 32 ≤ n → false ≡ bit n w
bit_past n w h k = rw (N.div-eq_of_lt (N.lt_of_lt_of_le h (N.pow-le-pow_right {n = 2} (omega arith) k)))

pub low_bit : (m : ℕ) → bit_and m 1 ≡ m % 2
low_bit m = and_mask m 1
