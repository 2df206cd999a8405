-- The loop over the lines of a log: what is written and the answers to come make up all answers.
use Rattle.std.specs.Prelude.{◌≡◌, refl, List, [], ◌∷◌, ◌++◌, Bool, true, false, cond, not, ℕ, suc, ◌+◌, ◌-◌, ◌≤◌, ◌<◌, min, Option}
use Rattle.std.proofs.Common.{sym, ap, ◌∙◌, append_assoc, append-nil, arith}
use Rattle.std.specs.Prelude.{eqb, length, take, drop}
use Rattle.std.proofs.Common.{length-append, length-take, drop_of_length-le, eqb-true}
use Rattle.std.proofs.lemmas.List.{take-append-le, nil_from_length, Folds.prefix_len-append}
use Rattle.std.proofs.lemmas.List.Sums.{prefix_len-le-length, position_or_len_is}
use Rattle.std.proofs.Math.Seq.{take-length, drop-append_seam}
use Rattle.std.specs.List.{IsFirstMatchOrLen}
use Rattle.std.specs.Int.{w64}
use mir.Val.{Fits}
use borrow.Rule.Slice.PartMut.{put_mid}
use Rattle.integer.specs.{over}
use Rattle.integer.proofs.{part-over, over-again}
use Rattle.axislog_forms.specs.{Form, form}
use Rattle.axislog_answers.specs.{Answer, Line, text, line}
use Rattle.axislog_answers.proofs.{line-text, line-in, line-cut}
use Rattle.axislog_state.specs.{State, Reply, empty, reply}
use Rattle.axislog_core.specs.{joined, line_length, lines, answers_from, answers}
use Rattle.axislog_core.proofs.RoomLaws.{answers-room}

-- ---- the first line and the others
lines_step : (t : List ℕ) → 0 < length t → lines t ≡ take (line_length t) t ∷ lines (drop (suc (line_length t)) t)
unfolding lines
lines_step [] h = absurd (omega arith)
lines_step (x ∷ []) h = go (eqb x 10)
  where
    go : (b : Bool) → cond b ([] ∷ []) (joined x []) ≡ take (cond (not b) (1 + 0) 0) (x ∷ []) ∷ lines (drop (suc (cond (not b) (1 + 0) 0)) (x ∷ []))
    go true = refl
    go false = refl
lines_step (x ∷ y ∷ ys) h = go (eqb x 10) _ refl (lines_step (y ∷ ys) (omega arith))
  where
    t : List ℕ
    t = y ∷ ys

    go : (b : Bool) (n : ℕ) → n ≡ cond (not b) (1 + line_length t) 0 → lines t ≡ take (line_length t) t ∷ lines (drop (suc (line_length t)) t)
        → cond b ([] ∷ lines t) (joined x (lines t)) ≡ take n (x ∷ t) ∷ lines (drop (suc n) (x ∷ t))
    go true n n-is e = rw n-is
    go false n n-is e = let m : n ≡ suc (line_length t) = omega arith in rw m (ap (joined x) e)

-- the next part x of a text, as far as its first newline and with it, and the part u behind it
pub record NextLine (t x u : List ℕ) : Type 0 where
  pub whole : t ≡ x ++ u
  pub some : 0 < length t
  pub i : ℕ
  pub long : length x ≡ min (i + 1) (length t)
  pub first : IsFirstMatchOrLen (λ y. eqb y 10) t i

module _ (t x u : List ℕ) (next : NextLine t x u) where
  within : line_length u ≤ length u
  within = prefix_len-le-length _ u

  ends : line_length t ≡ min next.i (length t)
  ends = position_or_len_is (λ y. eqb y 10) t (min next.i (length t)) 0 (omega arith) (λ k h. next.first.0 k 0 (omega arith) (omega arith))
      (λ h. let e : min next.i (length t) ≡ next.i = omega arith in rw e (next.first.1 (omega arith) 0))

  of_first : line_length x ≡ line_length t
  of_first = go (eqb (line_length x) (length x)) refl
    where
      both : line_length t ≡ cond (eqb (line_length x) (length x)) (length x + line_length u) (line_length x)
      both = ap line_length next.whole ∙ prefix_len-append (λ y. not (eqb y 10)) x u

      go : (b : Bool) → eqb (line_length x) (length x) ≡ b → line_length x ≡ line_length t
      go true e = omega (arith, rw e at both, eqb-true _ _ e, ends, next.long, within, ap length next.whole, length-append x u)
      go false e = sym (rw e at both)

  -- its newline stands at its end, if it has one
  pub one_line : length x ≤ line_length x + 1
  one_line = omega (arith, of_first, ends, next.long)

  line_is : take (line_length t) t ≡ take (line_length x) x
  line_is = rw (← of_first, next.whole) (take-append-le (line_length x) x u (prefix_len-le-length _ x))

  others : drop (suc (line_length t)) t ≡ u
  others = go u next.whole
    where
      go : (v : List ℕ) → t ≡ x ++ v → drop (suc (line_length t)) t ≡ v
      go [] e =
          let n : length t ≤ suc (line_length t) = omega (arith, ends, next.long, ap length e, length-append x []) in
          drop_of_length-le t n
      go (y ∷ v) e =
          let n : suc (line_length t) ≡ length x = omega (arith, ends, next.long, ap length e, length-append x (y ∷ v)) in
          rw (n, e) (drop-append_seam x (y ∷ v))

  pub split_is : lines t ≡ take (line_length x) x ∷ lines u
  split_is = lines_step t next.some ∙ rw (line_is, others)

-- ---- one answer written behind the others
-- a whole text copied over a part that is no longer than it
whole_text : (j x : List ℕ) (b : ℕ) → b ≡ length j → j ≡ take (length j) j ++ drop (length j) (take b x)
whole_text j x b e = let short : length (take b x) ≤ length j = omega (arith, length-take b x) in rw (take-length j, drop_of_length-le (take b x) short, append-nil j)

module _ (a : Answer) (r : Line) (r-is : r ≡ line a) (b : List ℕ) (at : ℕ) (room : at + length (text a) ≤ length b) where
  long : r.length ≡ length (text a)
  long = line-cut a r r-is ∙ ap length (line-text a r r-is)

  pub put-end : at + r.length ≡ at + length (text a)
  put-end = omega (arith, long)

  pub put-room : at + r.length ≤ length b
  put-room = omega (arith, long)

  pub put-fits : Fits w64 (length b) → Fits w64 (at + r.length)
  put-fits f = record { fits = omega (arith, long, f.fits) }

  pub put_is : (l : List ℕ) → l ≡ take r.length r.octets → put_mid at (at + r.length - at) b l ≡ over (take at b ++ text a) b
  put_is l l-is =
      let n : at + r.length - at ≡ length (text a) = omega (arith, long) in
      part-over b (text a) l at _ (omega arith) (omega arith) (l-is ∙ line-text a r r-is ∙ whole_text (text a) (drop at b) _ n)

-- ---- the loop: `done` is written so far, `rest` is to come
pub record Running (input out₀ out rest : List ℕ) (at : ℕ) (s : State) : Type 0 where
  pub short : length input ≤ 60000
  pub done : List ℕ
  pub at-is : at ≡ length done
  pub same : length out ≡ length out₀
  pub out-is : out ≡ over done out₀
  pub total : done ++ answers_from s (lines rest) ≡ answers input

pub run-start : (input out rest : List ℕ) (s : State) → length input ≤ 60000 → s ≡ empty → rest ≡ input → Running input out out rest 0 s
unfolding answers
run-start input out rest s h s-is rest-is = record { short = h; done = []; at-is = refl; same = refl; out-is = refl; total = rw (s-is, rest-is) }

module _ (input out₀ out rest : List ℕ) (at : ℕ) (s : State) (inv : Running input out₀ out rest at s) where
  module _ (x u : List ℕ) (next : NextLine rest x u) (f : Option Form) (f-is : f ≡ form (take (line_length x) x)) (q : Reply) (q-is : q ≡ reply s f) where
    to_come : inv.done ++ (text q.answer ++ answers_from q.state (lines u)) ≡ answers input
    unfolding answers_from
    to_come = rw (q-is, f-is) (rw (split_is rest x u next) at inv.total)

    pub run_room : length out₀ ≡ 780000 → at + length (text q.answer) ≤ length out
    run_room l =
        let e = ap length to_come in
        omega (arith, inv.at-is, inv.same, answers-room input inv.short, simp (length-append) at e)

    pub run_more : (out' : List ℕ) (at' : ℕ) → at' ≡ at + length (text q.answer) → out' ≡ over (take at out ++ text q.answer) out
        → length out' ≡ length out → Running input out₀ out' u at' q.state
    run_more out' at' at'-is out'-is l = record {
      short = inv.short;
      done = inv.done ++ text q.answer;
      at-is = at'-is ∙ rw (inv.at-is, length-append);
      same = l ∙ inv.same;
      out-is = out'-is ∙ over-again inv.done out₀ out at (sym inv.at-is) inv.out-is (text q.answer);
      total = append_assoc inv.done (text q.answer) _ ∙ to_come;
    }

  module _ (none : length rest ≡ 0) where
    whole : inv.done ≡ answers input
    unfolding answers_from lines
    whole = sym (append-nil inv.done) ∙ (rw (nil_from_length rest none) at inv.total)

    pub run-count : at ≡ length (answers input)
    run-count = inv.at-is ∙ ap length whole

    pub run-written : out ≡ over (answers input) out₀
    run-written = rw whole at inv.out-is

pub ruleset logs = (line-in, put-room, put-fits, put-end, put_is, run-start, run-count, run-written)
