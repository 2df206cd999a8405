use Rattle.axislog_answers.proofs.{AnswerLaws.fixed-is}
use Rattle.axislog_answers.proofs.fixed.Goals as goal

pub returns : goal.returns
returns c = fixed-is _ _ c.copy_from_slice.ensures.after
