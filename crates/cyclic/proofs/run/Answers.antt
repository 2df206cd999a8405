-- The first refusal is that of the axis, of the link or of the lengths. Without one the raw number comes first, and then what follows on it.
use Rattle.std.proofs.Common.{ap, refl, ◌∙◌, rules, Ok, Err}
use Rattle.encoder.proofs.{answer-no, answer-yes, refused-by, unrefused}
use Rattle.axis.proofs.{outside-answer, ready_of}
use Rattle.cyclic.specs.{cycle_refusal, cycle_input}
use Rattle.cyclic.proofs.CycleLaws.{left-answer, left-input, lengths, refusal-is, taken-fields}
use Rattle.cyclic.proofs.run.Goals as goal

pub returns-in_err-rules : goal.returns-in_err-rules
unfolding cycle_refusal cycle_input
returns-in_err-rules c =
    let f = c.in_err-rules.ensures in
    (outside-answer _ _ _ _ _ f (search rules) _, outside-answer _ _ _ _ _ f refl _)

pub returns-in_err-check : goal.returns-in_err-check
unfolding cycle_input
returns-in_err-check c =
    let by = refusal-is _ _ _ _ c.args.link c.args.output.now c.args.input.now (ready_of _ _ c.in_ok-rules.ensures) c.fields-fields.ensures c.life_of-life.ensures in
    let n = by ∙ refused-by _ _ _ c.in_err-check.ensures in
    (answer-no Err _ _ _ _ n (search rules), answer-no (λ _. c.args.input.now) _ _ _ _ n refl)

pub take-next-requires : goal.take-next-requires
take-next-requires c = ready_of _ _ c.in_ok-rules.ensures

pub respond-requires : goal.respond-requires
respond-requires c =
    let r = ready_of _ _ c.in_ok-rules.ensures in
    let l = lengths _ _ _ _ _ (unrefused _ _ _ c.in_ok-check.ensures) in
    let t = c.take-next.ensures in
    (t.1, taken-fields _ _ r c.args.link _ c.args.output.now _ c.fields-fields.ensures _ c.life_of-life.ensures _ t.0, l.0, l.1)

pub returns : goal.returns
unfolding cycle_input
returns c =
    let r = ready_of _ _ c.in_ok-rules.ensures in
    let g = c.fields-fields.ensures in
    let w = c.life_of-life.ensures in
    let none = refusal-is _ _ _ _ c.args.link c.args.output.now c.args.input.now r g w ∙ unrefused _ _ _ c.in_ok-check.ensures in
    let x = c.take-next.ensures.0 in
    let d = c.respond.ensures in (
      answer-yes Err _ _ _ none (ap Ok (left-answer _ _ r _ _ _ _ g _ w _ x _ d.0)),
      answer-yes (λ _. c.args.input.now) _ _ _ none (left-input _ _ r _ _ _ _ g _ w _ x _ d.0 _ d.1),
    )
