-- The first refusal is that of the axis, or the one that the test of link and length makes.
use Rattle.std.proofs.Common.{refl, rules, Err}
use Rattle.encoder.proofs.{answer-no, answer-yes, refused-by, unrefused}
use Rattle.axis.proofs.{outside-answer, ready_of}
use Rattle.diagnosis.proofs.DiagnosisLaws.{right-length}
use Rattle.diagnosis.proofs.diagnosis.Goals as goal

pub returns-in_err-rules : goal.returns-in_err-rules
returns-in_err-rules c =
    let f = c.in_err-rules.ensures in
    (outside-answer _ _ _ _ _ f (search rules) _, outside-answer _ _ _ _ _ f refl _)

pub check-requires : goal.check-requires
check-requires c = (ready_of _ _ c.in_ok-rules.ensures, c.fields-fields.ensures)

pub returns-in_err-check : goal.returns-in_err-check
returns-in_err-check c =
    let n = refused-by _ _ _ c.in_err-check.ensures in
    (answer-no Err _ _ _ _ n (search rules), answer-no (λ _. c.args.buffer.now) _ _ _ _ n refl)

pub fill-requires : goal.fill-requires
fill-requires c =
    let r = ready_of _ _ c.in_ok-rules.ensures in
    (r, c.fields-fields.ensures, right-length _ _ _ _ r (unrefused _ _ _ c.in_ok-check.ensures))

pub returns : goal.returns
returns c =
    let none = unrefused _ _ _ c.in_ok-check.ensures in
    (answer-yes Err _ _ _ none refl, answer-yes (λ _. c.args.buffer.now) _ _ _ none c.fill.ensures)
