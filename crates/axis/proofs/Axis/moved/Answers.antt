use Rattle.std.proofs.Common.{rules}
use Rattle.encoder.proofs.{exits}
use Rattle.axis_shaft.specs.{moved}
use Rattle.axis.proofs.{ReadingLaws.moved-on}
use Rattle.axis.proofs.Axis.moved.Goals as goal

pub returns-in_err-shaft : goal.returns-in_err-shaft
unfolding moved
returns-in_err-shaft c = search (rules, exits)

pub returns : goal.returns
returns c = let i = moved-on _ _ _ _ c.requires c.in_ok-shaft.ensures in search rules
