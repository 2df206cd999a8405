-- The library tells where a part of the text ends: behind its first newline.
use Rattle.std.proofs.Common.{rules, tests, ◌≡◌, take}
use Rattle.std.specs.Prelude.{eqb}
use Rattle.std.proofs.lemmas.List.Sorted.{answers_always}
use Rattle.axislog_forms.specs.{form}
use Rattle.axislog_core.specs.{line_length}
use Rattle.axislog_core.proofs.LogLaws.{NextLine, logs, one_line, run_more, run_room}
use Rattle.axislog_core.proofs.each_line.Goals as goal

pub loop-text-init : goal.loop-text-init
loop-text-init c = search (rules, logs)

pub without_newline-requires : goal.without_newline-requires
without_newline-requires c =
    let g = c.in-Some.ensures.steps in
    let first = g.1.2 (λ y. eqb y 10) (answers_always _ _ _ (λ f a r q h. search (rules, tests))) in
    let next : NextLine _ _ _ = record { whole = g.0; some = g.2; i = g.1.0; long = g.1.1; first = first.1 } in
    one_line _ _ _ next

pub put-at-requires : goal.put-at-requires
put-at-requires c =
    let inv = c.loop-text.invariant in
    let g = c.in-Some.ensures.steps in
    let first = g.1.2 (λ y. eqb y 10) (answers_always _ _ _ (λ f a r q h. search (rules, tests))) in
    let next : NextLine _ _ _ = record { whole = g.0; some = g.2; i = g.1.0; long = g.1.1; first = first.1 } in
    let form_is : c.parse.result ≡ form (take (line_length c.in-Some.text.now) c.in-Some.text.now) = rw c.without_newline.ensures at c.parse.ensures in
    run_room _ _ _ _ _ _ inv.1 _ _ next _ form_is _ c.reply-reply.ensures inv.0

pub loop-text-preserved : goal.loop-text-preserved
loop-text-preserved c =
    let inv = c.loop-text.invariant in
    let g = c.in-Some.ensures.steps in
    let first = g.1.2 (λ y. eqb y 10) (answers_always _ _ _ (λ f a r q h. search (rules, tests))) in
    let next : NextLine _ _ _ = record { whole = g.0; some = g.2; i = g.1.0; long = g.1.1; first = first.1 } in
    let form_is : c.parse.result ≡ form (take (line_length c.in-Some.text.now) c.in-Some.text.now) = rw c.without_newline.ensures at c.parse.ensures in
    let more = run_more _ _ _ _ _ _ inv.1 _ _ next _ form_is _ c.reply-reply.ensures in
    (inv.0, more _ _ c.put-at.ensures.0 c.put-at.ensures.1 c.put-at.auto.output)

pub returns : goal.returns
returns c = let none = c.in-None.ensures.steps.0 in search (rules, logs)
