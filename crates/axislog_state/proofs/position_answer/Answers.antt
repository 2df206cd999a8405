use Rattle.std.proofs.Common.{rules}
use Rattle.axislog_state.specs.{position_answer}
use Rattle.axislog_state.proofs.position_answer.Goals as goal

pub returns-in-Ok : goal.returns-in-Ok
unfolding position_answer
returns-in-Ok c = search rules

pub returns-in-Err : goal.returns-in-Err
unfolding position_answer
returns-in-Err c = search rules
