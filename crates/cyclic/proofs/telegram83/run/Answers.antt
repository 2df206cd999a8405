-- The first refusal is that of the axis, of the link, of class and lengths or of the time. Without one the calls yield the rest: the raw number with NIST_B,
-- what follows on it, and the octets of NIST_B behind the twelve.
use Rattle.std.proofs.Common.{ap, arith, length-drop, length-take, refl, ◌∙◌, rules, Ok, Err}
use Rattle.encoder.proofs.{answer-no, answer-yes, refused-by, unrefused}
use Rattle.axis.proofs.{outside-answer, ready_of}
use Rattle.cyclic.specs.{cycle83_refusal, cycle83_input}
use Rattle.cyclic.proofs.Telegram83Laws.{answer-83, next-fields, octets-83, passed-83, refusal83-is}
use Rattle.cyclic.proofs.telegram83.run.Goals as goal

pub returns-in_err-rules : goal.returns-in_err-rules
unfolding cycle83_refusal cycle83_input
returns-in_err-rules c =
    let f = c.in_err-rules.ensures in
    (outside-answer _ _ _ _ _ f (search rules) _, outside-answer _ _ _ _ _ f refl _)

pub returns-in_err-check : goal.returns-in_err-check
unfolding cycle83_input
returns-in_err-check c =
    let a = c.args in
    let by = refusal83-is _ _ _ _ a.link a.elapsed a.output.now a.input.now (ready_of _ _ c.in_ok-rules.ensures) c.fields-fields.ensures c.life_of-life.ensures in
    let n = by ∙ refused-by _ _ _ c.in_err-check.ensures in
    (answer-no Err _ _ _ _ n (search rules), answer-no (λ _. a.input.now) _ _ _ _ n refl)

pub measure-measured-requires : goal.measure-measured-requires
measure-measured-requires c =
    let l = passed-83 _ _ _ _ _ _ (unrefused _ _ _ c.in_ok-check.ensures) in
    (ready_of _ _ c.in_ok-rules.ensures, l.1)

pub slice_bounds-respond-end : goal.slice_bounds-respond-end
slice_bounds-respond-end c =
    let l = passed-83 _ _ _ _ _ _ (unrefused _ _ _ c.in_ok-check.ensures) in
    omega (arith, l.3)

pub respond-done-requires : goal.respond-done-requires
respond-done-requires c =
    let a = c.args in
    let l = passed-83 _ _ _ _ _ _ (unrefused _ _ _ c.in_ok-check.ensures) in
    let m = c.measure-measured.ensures in (
      m.1,
      next-fields _ _ (ready_of _ _ c.in_ok-rules.ensures) a.link _ _ a.output.now _ c.fields-fields.ensures l.0 _ c.life_of-life.ensures _ m.0,
      l.2,
      rw l.0 (simp (length-take, length-drop) (omega (arith, l.3))),
    )

pub slice_bounds-put_velocity-end : goal.slice_bounds-put_velocity-end
slice_bounds-put_velocity-end c =
    let l = passed-83 _ _ _ _ _ _ (unrefused _ _ _ c.in_ok-check.ensures) in
    let long = l.3 in
    search rules

pub returns : goal.returns
unfolding cycle83_input
returns c =
    let a = c.args in
    let r = ready_of _ _ c.in_ok-rules.ensures in
    let g = c.fields-fields.ensures in
    let w = c.life_of-life.ensures in
    let k = unrefused _ _ _ c.in_ok-check.ensures in
    let none = refusal83-is _ _ _ _ a.link a.elapsed a.output.now a.input.now r g w ∙ k in
    let l = passed-83 _ _ _ _ _ _ k in
    let m = c.measure-measured.ensures.0 in
    let d = c.respond-done.ensures in (
      answer-yes Err _ _ _ none (ap Ok (answer-83 _ _ r _ _ _ _ _ g l.0 _ w _ m _ d.0)),
      answer-yes (λ _. a.input.now) _ _ _ none (octets-83 _ _ r _ _ _ _ _ g l.0 _ w _ m _ d.0 a.input.now _ _ l.3 d.1 c.put_velocity.ensures),
    )
