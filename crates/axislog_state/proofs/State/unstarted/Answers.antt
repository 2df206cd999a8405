use Rattle.std.proofs.Common.{rules}
use Rattle.axislog_state.proofs.{StateLaws.set-ups}
use Rattle.axislog_state.proofs.State.unstarted.Goals as goal

pub returns : goal.returns
returns c = search (rules, set-ups)
