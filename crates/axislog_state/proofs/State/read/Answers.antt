use Rattle.std.proofs.Common.{rules}
use Rattle.axislog_state.proofs.{StateLaws.replies}
use Rattle.axislog_state.proofs.State.read.Goals as goal

pub returns-in-NoAxis : goal.returns-in-NoAxis
returns-in-NoAxis c = search (rules, replies)

pub returns-in-Waiting : goal.returns-in-Waiting
returns-in-Waiting c = search (rules, replies)

pub returns-in-Started : goal.returns-in-Started
returns-in-Started c = search (rules, replies)
