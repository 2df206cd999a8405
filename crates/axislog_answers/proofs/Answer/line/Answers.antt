use Rattle.std.proofs.Common.{rules}
use Rattle.axislog_answers.proofs.{AnswerLaws.answers}
use Rattle.axislog_answers.proofs.Answer.line.Goals as goal

pub numbered-requires : goal.numbered-requires
numbered-requires c = search (rules, answers)

pub numbered-requires-in-Refused : goal.numbered-requires-in-Refused
numbered-requires-in-Refused c = search (rules, answers)

pub returns-in-Ready : goal.returns-in-Ready
returns-in-Ready c = search (rules, answers)

pub returns-in-At : goal.returns-in-At
returns-in-At c = search (rules, answers)

pub returns-in-Refused : goal.returns-in-Refused
returns-in-Refused c = search (rules, answers)
