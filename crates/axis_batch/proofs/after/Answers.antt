use Rattle.std.proofs.Common.{refl, rules}
use Rattle.axis.proofs.{outside-answer, ready_of}
use Rattle.axis_batch.specs.{batch_refusal, batch_list}
use Rattle.axis_batch.proofs.BatchLaws.{batch-list, batch-no, batch-to}
use Rattle.axis_batch.proofs.after.Goals as goal

pub returns : goal.returns
returns c =
    let r = ready_of _ _ c.in_ok-rules.ensures in
    let i = batch-to _ _ r _ _ _ c.in_ok-shaft.ensures.0 in
    (search rules, batch-list _ _ r _ _ _ c.batch.ensures.1)

pub returns-in_err-rules : goal.returns-in_err-rules
unfolding batch_refusal batch_list
returns-in_err-rules c =
    let f = c.in_err-rules.ensures in
    (outside-answer _ _ _ _ _ f (search rules) _, outside-answer _ _ _ _ _ f refl _)

pub returns-in_err-shaft : goal.returns-in_err-shaft
returns-in_err-shaft c =
    let r = ready_of _ _ c.in_ok-rules.ensures in
    (batch-no _ _ r _ _ _ _ c.in_err-shaft.ensures.0 (search rules), batch-list _ _ r _ _ _ c.batch.ensures.1)
