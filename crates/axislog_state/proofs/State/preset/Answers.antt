use Rattle.std.proofs.Common.{rules}
use Rattle.axislog_state.specs.{preset}
use Rattle.axislog_state.proofs.{StateLaws.replies}
use Rattle.axislog_state.proofs.State.preset.Goals as goal

pub returns-in-NoAxis : goal.returns-in-NoAxis
unfolding preset
returns-in-NoAxis c = search rules

pub returns-in-Started : goal.returns-in-Started
returns-in-Started c = search (rules, replies)
