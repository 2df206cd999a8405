-- Lists of a known length, and numbers as octets: the laws hold for every number of octets.
use Rattle.std.specs.Prelude.{◌≡◌, refl, List, [], ◌∷◌, ◌++◌, ℕ, zero, suc, ◌+◌, ◌*◌, ◌/◌, ◌%◌, ◌^◌, ◌<◌, ◌≤◌}
use Rattle.std.proofs.Common.{sym, ap, ◌∙◌, append_assoc, append-nil, arith}
use Rattle.std.specs.Prelude.{length, get_or, take, drop}
use Rattle.std.proofs.Common.{add-one, length-append, length-take, length-drop, length-take-le, take_at, drop_at}
use Rattle.std.specs.Int.{w8}
use mir.Val.{Fits}
use Rattle.std.proofs.Common.{drop-drop}
use Rattle.std.proofs.Math.Seq.{drop-length}
use borrow.Rule.Slice.PartMut.{put_mid, post_of}
use Rattle.integer.specs.{big_endian, octets}
use lib.{Seq.get_or-drop}
use native.Mathlib.Nat as N

-- a list of known length is the list of its elements, so that definitions by list compute
abbrev pub firsts : ℕ → List ℕ → List ℕ
firsts zero l = []
firsts (suc n) l = get_or l 0 0 ∷ firsts n (drop 1 l)

pub known : (n : ℕ) (l : List ℕ) → length l ≡ n → l ≡ firsts n l
known zero [] h = refl
known zero (a ∷ l) h = absurd (omega arith)
known (suc n) [] h = absurd (omega arith)
known (suc n) (a ∷ l) h = ap (λ (k : List ℕ). a ∷ k) (known n l (omega arith))

-- one octet more, the least significant
pub big_endian-snoc : (os : List ℕ) (o : ℕ) → big_endian (os ++ (o ∷ [])) ≡ big_endian os * 256 + o
unfolding big_endian
big_endian-snoc [] o = omega arith
big_endian-snoc (x ∷ os) o =
    let e : 256 ^ length (os ++ (o ∷ [])) ≡ 256 ^ length os * 256 = rw (length-append, add-one) (N.pow-suc 256 (length os)) in
    omega (arith, big_endian-snoc os o, ap (λ (n : ℕ). x * n) e)

-- a number below 256 ^ k is the number of its k octets
pub big_endian-octets : (k n : ℕ) → n < 256 ^ k → big_endian (octets k n) ≡ n
unfolding octets big_endian
big_endian-octets zero n h = omega arith
big_endian-octets (suc k) n h =
    let l : n / 256 < 256 ^ k = (N.div-lt_iff_lt-mul {k = 256} (omega arith)).1 (rw N.pow-suc at h) in
    rw (big_endian-snoc, big_endian-octets k (n / 256) l) (N.div-add-mod' n 256)

-- each element is below 256: the machine guarantees this of a lent slice of octets
abbrev pub Octets : List ℕ → Type 0
Octets os = (i : ℕ) → Fits w8 (get_or os i 0)

-- so the number of k octets is below 256 ^ k
pub big_endian-lt : (os : List ℕ) → Octets os → big_endian os < 256 ^ length os
unfolding big_endian
big_endian-lt [] h = omega arith
big_endian-lt (o ∷ os) h =
    let p : o * 256 ^ length os ≤ 255 * 256 ^ length os = N.mul-le-mul_right (256 ^ length os) (omega (arith, (h 0).fits)) in
    rw N.pow-suc (omega (arith, big_endian-lt os (λ i. h (suc i))))

-- a part of octets consists of octets, so that up to four of them are a number of 32 bits
take-octets : (k : ℕ) (os : List ℕ) → Octets os → Octets (take k os)
take-octets zero os h i = record { fits = omega arith }
take-octets (suc k) [] h i = record { fits = omega arith }
take-octets (suc k) (o ∷ os) h zero = h 0
take-octets (suc k) (o ∷ os) h (suc i) = take-octets k os (λ j. h (suc j)) i

drop-octets : (k : ℕ) (os : List ℕ) → Octets os → Octets (drop k os)
drop-octets k os h i = rw get_or-drop (h (k + i))

pub big_endian-part : (os : List ℕ) (k l : ℕ) → l ≤ 4 → Octets os → big_endian (take l (drop k os)) % 2 ^ 32 ≡ big_endian (take l (drop k os))
big_endian-part os k l h o =
    let p = take l (drop k os) in
    let a : length p ≤ 4 = rw length-take (N.le_trans (N.min-le_left l (length (drop k os))) h) in
    let b : 256 ^ length p ≤ 256 ^ 4 = N.pow-le-pow_right {n = 256} (omega arith) a in
    N.mod-eq_of_lt (N.lt_of_lt_of_le (big_endian-lt p (take-octets l (drop k os) (drop-octets k os o))) b)

-- ---- parts of a buffer, lent one after the other: s is written so far, and behind it stands the rest of the buffer t
put_next : (s j t : List ℕ) (a b : ℕ) → length s ≡ a → put_mid a b (s ++ drop a t) j ≡ s ++ j ++ drop (a + b) t
put_next s j t a b h = rw (take_at s (drop a t) a h, drop_at s (drop a t) a h, drop-drop) (sym (append_assoc s j (drop (a + b) t)))

more-long : (s j : List ℕ) (a b : ℕ) → length s ≡ a → length j ≡ b → length (s ++ j) ≡ a + b
more-long s j a b h k = rw (length-append, h, k)

-- four parts fill it
pub four-parts : (a b c d : ℕ) (t i j k l : List ℕ) → length t ≡ a + b + c + d → length i ≡ a → length j ≡ b → length k ≡ c → length l ≡ d
    → put_mid (a + b + c) d (put_mid (a + b) c (put_mid a b (i ++ post_of 0 a t) j) k) l ≡ i ++ j ++ k ++ l
four-parts a b c d t i j k l h hi hj hk hl =
    let ij = more-long i j a b hi hj in
    let ijk = more-long (i ++ j) k (a + b) c ij hk in
    rw (put_next i j t a b hi, put_next (i ++ j) k t (a + b) c ij, put_next (i ++ j ++ k) l t (a + b + c) d ijk, ← h, drop-length t, append-nil)

-- and so do four numbers, each in as many octets as its part has
octets-long : (k n : ℕ) → length (octets k n) ≡ k
unfolding octets
octets-long zero n = refl
octets-long (suc k) n = rw (length-append, octets-long k (n / 256)) (add-one k)

number-next : (s t j : List ℕ) (a b n : ℕ) → length s ≡ a → a + b ≤ length t → j ≡ octets (length (take b (drop a (s ++ drop a t)))) n → j ≡ octets b n
number-next s t j a b n h room e =
    let long : b ≤ length (drop a t) = rw length-drop (omega arith) in
    e ∙ rw (drop_at s (drop a t) a h, length-take-le b (drop a t) long)

-- a part, and a number behind it
pub then-number : (a b : ℕ) (t i j : List ℕ) (n : ℕ) → length t ≡ a + b → length i ≡ a
    → j ≡ octets (length (take b (drop a (i ++ post_of 0 a t)))) n
    → put_mid a b (i ++ post_of 0 a t) j ≡ i ++ octets b n
then-number a b t i j n h hi e =
    let js = number-next i t j a b n hi (omega arith) e in
    rw (put_next i j t a b hi, ← h, drop-length t, append-nil, js)

pub four-numbers : (a b c d : ℕ) (t i j k l : List ℕ) (w x y z : ℕ) → length t ≡ a + b + c + d
    → i ≡ octets (length (take a t)) w
    → j ≡ octets (length (take b (drop a (i ++ post_of 0 a t)))) x
    → k ≡ octets (length (take c (drop (a + b) (put_mid a b (i ++ post_of 0 a t) j)))) y
    → l ≡ octets (length (take d (drop (a + b + c) (put_mid (a + b) c (put_mid a b (i ++ post_of 0 a t) j) k)))) z
    → put_mid (a + b + c) d (put_mid (a + b) c (put_mid a b (i ++ post_of 0 a t) j) k) l ≡ octets a w ++ octets b x ++ octets c y ++ octets d z
four-numbers a b c d t i j k l w x y z h p q r s =
    let is : i ≡ octets a w = number-next [] t i 0 a w refl (omega arith) p in
    let hi : length i ≡ a = rw is (octets-long a w) in
    let js : j ≡ octets b x = number-next i t j a b x hi (omega arith) q in
    let hj : length j ≡ b = rw js (octets-long b x) in
    let ij = more-long i j a b hi hj in
    let ks : k ≡ octets c y = number-next (i ++ j) t k (a + b) c y ij (omega arith) (rw (put_next i j t a b hi) at r) in
    let hk : length k ≡ c = rw ks (octets-long c y) in
    let ijk = more-long (i ++ j) k (a + b) c ij hk in
    let ls : l ≡ octets d z = number-next (i ++ j ++ k) t l (a + b + c) d z ijk (omega arith) (rw (put_next i j t a b hi, put_next (i ++ j) k t (a + b) c ij) at s) in
    four-parts a b c d t i j k l h hi hj hk (rw ls (octets-long d z)) ∙ rw (is, js, ks, ls)
