-- The line of each answer: word, digits and end are copied one after the other, and sixteen octets hold them.
use Rattle.std.specs.Prelude.{◌≡◌, refl, List, ◌++◌, ℕ, ◌+◌, ◌-◌, ◌≤◌, length, take, drop, replicate}
use Rattle.std.proofs.Common.{arith, length-append, length-take, length-drop, append-nil, drop_of_length-le}
use Rattle.std.proofs.Math.Seq.{take-length}
use Rattle.std.specs.Int.{w8}
use mir.Val.{Fits}
use borrow.Rule.Slice.PartMut.{put_mid}
use Rattle.integer.specs.{ascii}
use Rattle.integer.proofs.{over-next, part_end}
use Rattle.axislog_answers.specs.{Answer, Ready, At, Refused, Line, decimal, number_form, text, held, line}
use Rattle.axislog_answers.proofs.DecimalLaws.{decimal-long, decimal-short}

abbrev zeros : List ℕ
zeros = replicate 16 0

-- ---- a text as it stands
pub fixed-is : (t u : List ℕ) → u ≡ t → ◌≡◌ {A = Line} (record { octets = u ++ drop (length t) zeros; length = length t }) (held t)
unfolding held
fixed-is t u u-is = rw u-is

-- ---- a word, the digits d, the end: u, l and o are what each copy leaves
whole : (j x : List ℕ) (b : ℕ) → b ≡ length j → j ≡ take (length j) j ++ drop (length j) (take b x)
whole j x b e = let short : length (take b x) ≤ length j = omega (arith, length-take b x) in rw (take-length j, drop_of_length-le (take b x) short, append-nil j)

-- where they end
pub digits-end : (word d u : List ℕ) → u ≡ word → length word + length d ≤ 14 → length word + length d ≤ length (u ++ drop (length word) zeros)
digits-end word d u u-is room = rw (u-is, length-append word, length-drop (length word) zeros) (omega arith)

pub line-end : (word u l : List ℕ) (b n : ℕ) → u ≡ word → n ≤ 16 → length word ≤ 14 → length l ≡ length (take b (drop (length word) (u ++ drop (length word) zeros)))
    → n ≤ length (put_mid (length word) b (u ++ drop (length word) zeros) l)
line-end word u l b n u-is fits room l-long =
    let long : length (u ++ drop (length word) zeros) ≡ 16 = rw (u-is, length-append word, length-drop (length word) zeros) (omega arith) in
    omega (arith, part_end (u ++ drop (length word) zeros) l (length word) b 16 long l-long)

pub numbered_is : (word d u l o : List ℕ) (n : ℕ) → d ≡ decimal n → length word + length (decimal n) ≤ 14 → u ≡ word → l ≡ d → o ≡ ascii ")\n"
    → ◌≡◌ {A = Line}
    (record { octets = put_mid (length word + length d) (length word + length d + 2 - (length word + length d)) (put_mid (length word) (length word + length d - length word) (u ++ drop (length word) zeros) l) o; length = length word + length d + 2 })
    (held (number_form word n))
unfolding held number_form
numbered_is word d u l o n d-is room u-is l-is o_is =
    let s = word ++ d in
    let a = length word in
    let b = length word + length d in
    let end = ascii ")\n" in
    let long : length s ≡ b = length-append word d in
    let v-is = over-next word zeros (word ++ drop a zeros) a refl refl d d (b - a) (omega arith) (whole d _ (b - a) (omega arith)) in
    let done = over-next s zeros _ b long v-is end end (b + 2 - b) (omega arith) (whole end _ (b + 2 - b) (omega arith)) in
    rw (u-is, l-is, o_is, done, ← d-is, length-append s, long)

-- ---- the three answers
pub at_room : (n : ℕ) → length (ascii "(at ") + length (decimal n) ≤ 14
at_room n = omega (arith, decimal-long n)

pub refused-room : (n : ℕ) → Fits w8 n → length (ascii "(refused ") + length (decimal n) ≤ 14
refused-room n h = omega (arith, decimal-short 2 n (omega arith))

module _ (a : Answer) (r : Line) where
  pub line-ready : a ≡ Ready → r ≡ held (ascii "(axis ready)\n") → r ≡ line a
  unfolding line text
  line-ready e r-is = rw e r-is

  module _ (n : ℕ) where
    pub line_at : a ≡ At n → r ≡ held (number_form (ascii "(at ") n) → r ≡ line a
    unfolding line text
    line_at e r-is = rw e r-is

    pub line_refused : a ≡ Refused n → r ≡ held (number_form (ascii "(refused ") n) → r ≡ line a
    unfolding line text
    line_refused e r-is = rw e r-is

pub ruleset answers = (at_room, refused-room, line-ready, line_at, line_refused)
