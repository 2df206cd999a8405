use Rattle.std.proofs.Common.{ap, rules, Ok}
use Rattle.axislog_answers.specs.{Ready}
use Rattle.axislog_state.proofs.StateLaws.{set-up-refused, set-up-ready}
use Rattle.axislog_state.proofs.set_up.Goals as goal

pub returns-in_err-check : goal.returns-in_err-check
returns-in_err-check c = set-up-refused _ _ c.unstarted-state.ensures _ _ c.in_err-check.ensures (search rules)

pub returns : goal.returns
returns c = set-up-ready _ _ c.unstarted-state.ensures _ _ c.in_ok-check.ensures (ap (λ t. Ok (record { state = t; answer = Ready })) c.unstarted-state.ensures)
