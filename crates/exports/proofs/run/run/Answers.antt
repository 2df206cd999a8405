use Rattle.std.proofs.Common.{refl, rules, ◌∙◌, Err}
use Rattle.encoder.proofs.{answer-no, answer-yes, refused-by, unrefused, value-is}
use Rattle.exports.specs.{ran}
use Rattle.exports.proofs.RunLaws.{run-batch, run-list, run-refused, run-unstarted}
use Rattle.exports.proofs.run.run.Goals as goal

pub returns-in_err-check_buffer : goal.returns-in_err-check_buffer
unfolding ran
returns-in_err-check_buffer c =
    let a = c.args in
    let n = run-refused _ a.parameters a.first a.raws.now a.positions.now _ (refused-by _ _ _ c.in_err-check_buffer.ensures) in
    (answer-no Err _ _ _ _ n (search rules), answer-no (λ _. a.positions.now) _ _ _ _ n refl)

pub returns-in_err-axis : goal.returns-in_err-axis
unfolding ran
returns-in_err-axis c =
    let a = c.args in
    let k = unrefused _ _ _ c.in_ok-check_buffer.ensures in
    let n = run-unstarted _ _ _ a.raws.now a.positions.now _ c.start_raw.ensures k _ (refused-by _ _ _ c.in_err-axis.ensures) in
    (answer-no Err _ _ _ _ n (search rules), answer-no (λ _. a.positions.now) _ _ _ _ n refl)

pub returns-in_err-taken : goal.returns-in_err-taken
returns-in_err-taken c =
    let k = unrefused _ _ _ c.in_ok-check_buffer.ensures in
    let s = value-is _ _ _ c.in_ok-axis.ensures in
    let x = rw s.1 at c.batch.ensures in
    let n = run-batch _ _ _ _ _ _ c.start_raw.ensures k s.0 _ x.0 ∙ refused-by _ _ _ c.in_err-taken.ensures in
    (answer-no Err _ _ _ _ n (search rules), run-list _ _ _ _ _ _ c.start_raw.ensures k s.0 _ x.1)

pub returns : goal.returns
returns c =
    let k = unrefused _ _ _ c.in_ok-check_buffer.ensures in
    let s = value-is _ _ _ c.in_ok-axis.ensures in
    let x = rw s.1 at c.batch.ensures in
    let n = run-batch _ _ _ _ _ _ c.start_raw.ensures k s.0 _ x.0 ∙ unrefused _ _ _ c.in_ok-taken.ensures in
    (answer-yes Err _ _ _ n refl, run-list _ _ _ _ _ _ c.start_raw.ensures k s.0 _ x.1)
