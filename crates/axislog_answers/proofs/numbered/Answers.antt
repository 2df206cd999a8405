use Rattle.std.proofs.Common.{arith, ◌≡◌, ◌∙◌, ◌+◌, ◌≤◌, length}
use Rattle.axislog_answers.specs.{decimal}
use Rattle.axislog_answers.proofs.{AnswerLaws.numbered_is, AnswerLaws.digits-end, AnswerLaws.line-end, DecimalLaws.decimal-is}
use Rattle.axislog_answers.proofs.numbered.Goals as goal

pub slice_bounds-octets-end-2 : goal.slice_bounds-octets-end-2
slice_bounds-octets-end-2 c =
    let e : c.as_bytes-digits.result.now ≡ decimal c.args.n = c.as_bytes-digits.ensures.value ∙ c.format.ensures.text ∙ decimal-is c.args.n c.ranges.n in
    digits-end c.args.word.now c.as_bytes-digits.result.now _ c.copy_from_slice.ensures.after (rw e c.requires)

pub slice_bounds-octets-end-3 : goal.slice_bounds-octets-end-3
slice_bounds-octets-end-3 c =
    let e : c.as_bytes-digits.result.now ≡ decimal c.args.n = c.as_bytes-digits.ensures.value ∙ c.format.ensures.text ∙ decimal-is c.args.n c.ranges.n in
    let most : length c.args.word.now + length c.as_bytes-digits.result.now ≤ 14 = rw e c.requires in
    line-end c.args.word.now _ _ _ _ c.copy_from_slice.ensures.after (omega arith) (omega arith) c.copy_from_slice-2.ensures.len

pub returns : goal.returns
returns c =
    let e : c.as_bytes-digits.result.now ≡ decimal c.args.n = c.as_bytes-digits.ensures.value ∙ c.format.ensures.text ∙ decimal-is c.args.n c.ranges.n in
    numbered_is _ _ _ _ _ c.args.n e c.requires c.copy_from_slice.ensures.after c.copy_from_slice-2.ensures.after c.copy_from_slice-3.ensures.after
