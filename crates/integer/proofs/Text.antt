-- A text stands at the start of a buffer, and `copy_from_slice` writes another one behind it: then both stand at the start, and the rest is as it was.
use Rattle.std.specs.Prelude.{◌≡◌, refl, List, [], ◌∷◌, ◌++◌, ℕ, zero, suc, ◌≤◌, length, take, drop}
use Rattle.std.proofs.Common.{sym, ◌∙◌, append_assoc, arith, length-append}
use Rattle.std.proofs.Common.{take_at, drop_at, drop-drop, length-take-le}
use Rattle.std.proofs.Math.Seq.{take-length}
use borrow.Rule.Slice.PartMut.{put_mid, same_len_mid}
use Rattle.integer.specs.{over}
use lib.{ListN.take-append-drop}

pub over_first : (j t u : List ℕ) → u ≡ take (length j) j ++ drop (length j) t → u ≡ over j t
over_first j t u u-is = u-is ∙ rw (take-length j)

-- of a list: behind the first m of b elements, and behind the b
behind : (m b : ℕ) (x : List ℕ) → m ≤ b → drop m (take b x) ++ drop b x ≡ drop m x
behind zero b x h = take-append-drop b x
behind (suc m) zero x h = absurd (omega arith)
behind (suc m) (suc b) [] h = refl
behind (suc m) (suc b) (y ∷ x) h = behind m b x (omega arith)

-- j copied into the part of u that has b elements from a on
pub part-over : (u j l : List ℕ) (a b : ℕ) → a ≤ length u → length j ≤ b → l ≡ take (length j) j ++ drop (length j) (take b (drop a u))
    → put_mid a b u l ≡ over (take a u ++ j) u
part-over u j l a b ha hb l-is =
    rw (l-is, take-length j, append_assoc j, behind (length j) b (drop a u) hb, length-append, length-take-le a u ha, drop-drop)
    (sym (append_assoc (take a u) j _))

-- a lent part keeps its length, and so does the buffer
pub part_end : (u l : List ℕ) (a b n : ℕ) → length u ≡ n → length l ≡ length (take b (drop a u)) → n ≤ length (put_mid a b u l)
part_end u l a b n u-long l-long = omega (arith, same_len_mid a b u l l-long)

-- ---- where s stands at the start of the buffer already, j then stands behind it
module _ (s t u : List ℕ) (a : ℕ) (s-long : length s ≡ a) (u-is : u ≡ over s t) where
  pub over-again : (j : List ℕ) → over (take a u ++ j) u ≡ over (s ++ j) t
  over-again j =
      let front : take a u ≡ s = rw u-is (take_at s (drop (length s) t) a s-long) in
      let rest : drop (length s) u ≡ drop (length s) t = rw u-is (drop_at s (drop (length s) t) (length s) refl) in
      rw (front, length-append, ← drop-drop (length j) (length s) u, rest, drop-drop)

  pub over-next : (j l : List ℕ) (b : ℕ) → length j ≤ b → l ≡ take (length j) j ++ drop (length j) (take b (drop a u)) → put_mid a b u l ≡ over (s ++ j) t
  over-next j l b h l-is =
      let in-u : a ≤ length u = rw (u-is, length-append) (omega arith) in part-over u j l a b in-u h l-is ∙ over-again j
