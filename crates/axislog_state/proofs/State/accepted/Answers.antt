use Rattle.std.proofs.Common.{rules}
use Rattle.axislog_state.specs.{reply}
use Rattle.axislog_state.proofs.{StateLaws.replies}
use Rattle.axislog_state.proofs.State.accepted.Goals as goal

pub returns-in_err-setup : goal.returns-in_err-setup
unfolding reply
returns-in_err-setup c = search rules

pub returns-in-Axis : goal.returns-in-Axis
unfolding reply
returns-in-Axis c = search (rules, replies)

pub returns-in-Read : goal.returns-in-Read
unfolding reply
returns-in-Read c = search (rules, replies)

pub returns-in-Preset : goal.returns-in-Preset
unfolding reply
returns-in-Preset c = search (rules, replies)
