use Rattle.std.proofs.Common.{refl, rules, ◌∙◌, Err}
use Rattle.encoder.proofs.{answer-no, answer-yes, refused-by, unrefused}
use Rattle.exports.specs.{taken}
use Rattle.exports.proofs.NumbersLaws.{take-read, take-refused, take-unread}
use Rattle.exports.proofs.take.take.Goals as goal

pub returns-in_err-check_buffer : goal.returns-in_err-check_buffer
unfolding taken
returns-in_err-check_buffer c =
    let a = c.args in
    let n = take-refused _ a.received _ a.list.now _ (refused-by _ _ _ c.in_err-check_buffer.ensures) in
    (answer-no Err _ _ _ _ n (search rules), answer-no (λ _. a.list.now) _ _ _ _ n refl)

pub returns-in_err-received : goal.returns-in_err-received
unfolding taken
returns-in_err-received c =
    let a = c.args in
    let n = take-unread _ _ _ a.list.now _ (unrefused _ _ _ c.in_ok-check_buffer.ensures) c.in_err-received.was in
    (answer-no Err _ _ _ _ n (search rules), answer-no (λ _. a.list.now) _ _ _ _ n refl)

pub returns : goal.returns
unfolding taken
returns c =
    let a = c.args in
    let n = take-read _ _ _ a.list.now _ (unrefused _ _ _ c.in_ok-check_buffer.ensures) c.in_ok-received.was in
    (answer-yes Err _ _ _ n refl, answer-yes (λ _. a.list.now) _ _ _ n (c.put.ensures ∙ rw c.in_ok-received.was))
