use Rattle.std.proofs.Common.{rules}
use Rattle.cyclic.proofs.StandingLaws.{take-to, take_no, took-to}
use Rattle.cyclic.proofs.standing.take.Goals as goal

pub returns-in-Ok : goal.returns-in-Ok
returns-in-Ok c =
    let i = take-to _ _ c.requires _ _ c.in-Ok.ensures in
    let r = took-to _ _ c.requires _ _ c.in-Ok.ensures in
    search rules

pub returns-in-Err : goal.returns-in-Err
returns-in-Err c = (take_no _ _ c.requires _ _ c.in-Err.ensures, c.requires)
