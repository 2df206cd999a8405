use Rattle.std.proofs.Common.{rules}
use Rattle.cyclic.proofs.Telegram83Laws.{measured-at, measured-no, measured-ready}
use Rattle.cyclic.proofs.standing.measure.Goals as goal

pub returns-in-Ok : goal.returns-in-Ok
returns-in-Ok c =
    let i = measured-at _ _ c.requires.0 _ _ c.requires.1 _ c.in-Ok.ensures in
    let r = measured-ready _ _ c.requires.0 _ _ c.requires.1 _ c.in-Ok.ensures in
    search rules

pub returns-in-Err : goal.returns-in-Err
returns-in-Err c = (measured-no _ _ c.requires.0 _ _ c.requires.1 _ c.in-Err.ensures, c.requires.0)
