-- A form as written is read as that form. Each law starts at a position p where the line continues as w ++ s and ends behind w, where it continues as s.
-- So no law names what stands before p.
use Rattle.std.specs.Prelude.{◌≡◌, refl, Bool, true, false, cond, List, [], ◌∷◌, ◌++◌, ℕ, zero, suc, ◌+◌, ◌/◌, ◌%◌, ◌^◌}
use Rattle.std.proofs.Common.{sym, ap, ◌∙◌, append_assoc, append-nil}
use Rattle.std.specs.Prelude.{◌≤◌, ◌<◌, ltb, eqb, ℤ, pos, negsuc, length, drop, Some, None}
use Rattle.std.proofs.Common.{arith, length-append, length-drop, drop-drop, lt-ltb, le-ltb, eq-eqb}
use Rattle.std.proofs.Math.IntN.{+ℤ_idl}
use Rattle.std.proofs.Common.{ne_eqb, ltb-true, ltb-false, eqb-true}
use Rattle.integer.specs.{ascii}
use Rattle.axislog_lexer.specs.{past, ends, digit_of, digits, found, number, labelled, last}
use Rattle.axislog_lexer.proofs.{digit_low, digit-is}
use Rattle.axislog_forms.specs.{Setup, Form, Axis, Read, Preset, read, preset, scale, sequence, axis, form}
use Rattle.axislog_answers.specs.{decimal_below, decimal}
use Rattle.axislog_grammar.specs.{signed, turning, scaling, written, unscaled, Sized, Writable}
use lib.{Dec.eqb-suc-zero, Seq.drop-append_seam}
use native.Mathlib.Nat.{div-add-mod'}

-- ---- words
past_word : (w s : List ℕ) (p : ℕ) → past w p (w ++ s) ≡ Some (p + length w)
unfolding past
past_word [] s p = ap Some (omega arith)
past_word (x ∷ w) s p = rw (eq-eqb x x refl, past_word w s (p + 1)) (ap Some (omega arith))

-- ---- numbers: a text is read as the digits of n, whatever follows
abbrev Spells : List ℕ → ℕ → Type 0
Spells t n = (p : ℕ) (s : List ℕ) → number p (t ++ s) ≡ digits n (p + length t) s

digit-back : (d : ℕ) → d < 10 → digit_of (48 + d) ≡ Some d
digit-back d h = sym (digit-is (48 + d) (omega arith) (omega arith)) ∙ ap Some (omega arith)

one-digit : (n : ℕ) → n < 10 → Spells ((48 + n) ∷ []) n
unfolding number
one-digit n h p s = rw (digit-back n h)

one_more : (t : List ℕ) (n : ℕ) → 10 ≤ n → n ≤ 4294967295 → Spells t (n / 10) → Spells (t ++ ((48 + n % 10) ∷ [])) n
unfolding digits
one_more t n l m r p s =
    rw
    (append_assoc, r p, digit-back (n % 10) (omega arith), ne_eqb (n / 10) 0 (omega arith), div-add-mod' n 10, le-ltb _ _ m)
    (ap (λ (q : ℕ). digits n q s) (omega (arith, length-append t ((48 + n % 10) ∷ []))))

below-spells : (f n : ℕ) → n < 10 ^ suc f → n ≤ 4294967295 → Spells (decimal_below (suc f) n) n
unfolding decimal_below
below-spells zero n h m = rw (lt-ltb n 10 h) (one-digit n h)
below-spells (suc f) n h m = go (ltb n 10) refl (below-spells f (n / 10) (omega arith) (omega arith))
  where
    go : (b : Bool) → ltb n 10 ≡ b → Spells (decimal_below (suc f) (n / 10)) (n / 10)
        → Spells (cond b ((48 + n) ∷ []) (decimal_below (suc f) (n / 10) ++ ((48 + n % 10) ∷ []))) n
    go true e r = one-digit n (ltb-true n 10 e)
    go false e r = one_more (decimal_below (suc f) (n / 10)) n (ltb-false n 10 e) m r

-- a text that begins with a number does not begin with a sign
no_sign : (p n q : ℕ) (t : List ℕ) → number p t ≡ found n q → past (ascii "-") p t ≡ None
unfolding past number digit_of
no_sign p n q [] e = refl
no_sign p n q (x ∷ t) e = go (eqb x 45) refl
  where
    go : (b : Bool) → eqb x 45 ≡ b → cond b (Some (p + 1)) None ≡ None
    go true i = cc (e, eqb-true x 45 i)
    go false i = refl

module _ (line : List ℕ) where
  -- ---- a word and a number at a position of the line
  rest : (w s : List ℕ) (p : ℕ) → drop p line ≡ w ++ s → drop (p + length w) line ≡ s
  rest w s p e = rw (← drop-drop, e, drop-append_seam)

  word_at : (w s : List ℕ) (p : ℕ) → drop p line ≡ w ++ s → (q : ℕ) × (past w p (drop p line) ≡ Some q) × (drop q line ≡ s)
  word_at w s p e = (p + length w, rw (e, past_word), rest w s p e)

  ends_at : (w : List ℕ) (p : ℕ) → drop p line ≡ w → 0 < length w → ends w p line ≡ true
  unfolding ends
  ends_at w p e h = rw (e, rw append-nil at (past_word w [] p)) (eq-eqb (p + length w) (length line) (omega (arith, length-drop p line, ap length e)))

  -- an octet below 48 behind a number is no digit
  module _ (n x : ℕ) (s : List ℕ) (p : ℕ) (m : n ≤ 4294967295) (h : x < 48) where
    number_at : drop p line ≡ decimal n ++ (x ∷ s) → (q : ℕ) × (number p (drop p line) ≡ found n q) × (drop q line ≡ x ∷ s)
    unfolding decimal digits
    number_at e = (p + length (decimal n), rw (e, below-spells 9 n (omega arith) m p (x ∷ s), ← digit_low x h), rest (decimal n) (x ∷ s) p e)

    last-at : drop p line ≡ decimal n ++ (x ∷ s) → (q : ℕ) × (last (x ∷ s) p line ≡ found n q)
    unfolding last
    last-at e = let a = number_at e in (a.0, rw (a.1, ends_at (x ∷ s) a.0 a.2 (omega arith)))

  labelled-at : (w : List ℕ) (n x : ℕ) (s : List ℕ) (p : ℕ) → n ≤ 4294967295 → x < 48 → drop p line ≡ w ++ (decimal n ++ (x ∷ s))
      → (q : ℕ) × (labelled w p line ≡ found n q) × (drop q line ≡ x ∷ s)
  unfolding labelled
  labelled-at w n x s p m h e =
      let a = word_at w _ p e in
      let b = number_at n x s a.0 m h a.2 in
      (b.0, rw (a.1, b.1), b.2)

  -- ---- a reading and a preset
  read_at : (p n : ℕ) → Writable (Read n) → drop p line ≡ decimal n ++ ascii ")" → read p line ≡ Some (Read n)
  unfolding read
  read_at p n m e = rw (last-at n 41 [] p m (omega arith) e).1

  preset-at : (p : ℕ) (v : ℤ) → Writable (Preset v) → drop p line ≡ signed v ++ ascii ")" → preset p line ≡ Some (Preset v)
  unfolding preset
  preset-at p (pos n) m e = rw (no_sign p n _ _ (number_at n 41 [] p m (omega arith) e).1, (last-at n 41 [] p m (omega arith) e).1)
  preset-at p (negsuc n) m e =
      let a = word_at (ascii "-") _ p e in
      rw (a.1, (last-at (suc n) 41 [] a.0 m (omega arith) a.2).1, eqb-suc-zero n, +ℤ_idl (negsuc n))

  -- ---- an axis, from its last part to the whole
  module _ (s : Setup) (m : Sized s) where
    scale_at : (p : ℕ) (b : Bool) → s.scaling ≡ b → unscaled b s → drop p line ≡ scaling b s ++ ascii ")"
        → scale p line s.steps s.turns s.reversed ≡ Some (Axis s)
    unfolding scale ends past
    scale_at p true t u e =
        let a = labelled-at (ascii " (scale ") s.units 32 _ p m.units (omega arith) (simp append_assoc at e) in
        let b = word_at (ascii " ") _ a.0 a.2 in
        rw (e, a.1, b.1, (last-at s.range 41 (ascii ")") b.0 m.range (omega arith) b.2).1, t)
    scale_at p false t u e = rw (ends_at (ascii ")") p e (omega arith), t, u.0, u.1)

    sequence-at : (p : ℕ) (c : Bool) → s.reversed ≡ c
        → drop p line ≡ ascii ") (sequence " ++ (turning c ++ (ascii ")" ++ (scaling s.scaling s ++ ascii ")")))
        → sequence p line s.steps s.turns ≡ Some (Axis s)
    unfolding sequence past
    sequence-at p true t e =
        let a = word_at (ascii ") (sequence ") _ p e in
        let b = word_at (ascii "ccw)") _ a.0 a.2 in
        rw (a.1, ap (past (ascii "cw)") a.0) a.2, b.1, ← t) (scale_at b.0 _ refl m.unscaled b.2)
    sequence-at p false t e =
        let a = word_at (ascii ") (sequence ") _ p e in
        let b = word_at (ascii "cw)") _ a.0 a.2 in
        rw (a.1, b.1, ← t) (scale_at b.0 _ refl m.unscaled b.2)

    axis-at : line ≡ written (Axis s) → axis line ≡ Some (Axis s)
    unfolding axis written
    axis-at e =
        let a = labelled-at (ascii "(axis (steps ") s.steps 41 _ 0 m.steps (omega arith) (simp append_assoc at e) in
        let b = labelled-at (ascii ") (turns ") s.turns 41 _ a.0 m.turns (omega arith) a.2 in
        rw (a.1, b.1) (sequence-at b.0 _ refl b.2)

-- ---- a line: its first word tells which form it is
pub reads-back : (f : Form) → Writable f → form (written f) ≡ Some f
unfolding form written past
reads-back (Read n) m = read_at _ 6 n m refl
reads-back (Preset v) m = preset-at _ 8 v m refl
reads-back (Axis s) m = axis-at _ s m refl
