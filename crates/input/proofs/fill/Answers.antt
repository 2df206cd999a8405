-- A read into the part behind the octets so far puts its own octets next to them.
use Rattle.std.proofs.Common.{◌≡◌, ℕ, ◌+◌, ◌≤◌, List, ◌++◌, rules, length, take, sym, ap, ◌∙◌, subst, length-take-le}
use Rattle.std.proofs.Math.Seq.{take-append-add}
use Rattle.std.proofs.lemmas.List.{take-append-le}
use Rattle.std.specs.Io.KnownBytes.{Consumes}
use Rattle.std.proofs.KnownBytes.{Consumes-trans}
use borrow.Rule.Slice.PartMut.{put_mid, post_of}
use Rattle.input.proofs.fill.Goals as goal

-- the first n + m elements, once ys has been put behind the first n
take_put : (n k m : ℕ) (xs ys : List ℕ) → n ≤ length xs → m ≤ length ys → take n xs ++ take m ys ≡ take (n + m) (put_mid n k xs ys)
take_put n k m xs ys within fits =
    let behind = post_of n k xs in
    let cut = take-append-add (take n xs) (ys ++ behind) m in
    sym (ap (λ i. take (i + m) (put_mid n k xs ys)) (sym (length-take-le n xs within)) ∙ cut ∙ ap (λ l. take n xs ++ l) (take-append-le m ys behind fits))

pub loop-n-preserved : goal.loop-n-preserved
loop-n-preserved g c = record {
  within = search rules;
  consumed = subst (Consumes _ _) (take_put c.loop-n.n _ c.in-Ok.more c.loop-n.buffer c.read.new.buf c.loop-n.invariant.within c.in-Ok.ensures.bound.0)
      (Consumes-trans _ _ _ _ _ c.loop-n.invariant.consumed c.in-Ok.ensures.bytes.0);
}
