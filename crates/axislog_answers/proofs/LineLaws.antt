-- The text of an answer stands at the start of its line.
use Rattle.std.specs.Prelude.{◌≡◌, refl, ◌≤◌, length, take}
use Rattle.std.proofs.Common.{sym, ap, ◌∙◌, arith, length-append, take_at}
use Rattle.axislog_answers.specs.{Answer, Line, text, held, line}

module _ (a : Answer) (r : Line) (r-is : r ≡ line a) where
  pub line-text : take r.length r.octets ≡ text a
  unfolding line held
  line-text = rw r-is (take_at (text a) _ _ refl)

  pub line-in : r.length ≤ length r.octets
  unfolding line held
  line-in = rw (r-is, length-append) (omega arith)

  pub line-cut : r.length ≡ length (take r.length r.octets)
  unfolding line held
  line-cut = ap (λ (l : Line). l.length) r-is ∙ sym (ap length line-text)
