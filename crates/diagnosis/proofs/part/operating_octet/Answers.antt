-- A mask of class 4, and class 2 as it is.
use Rattle.std.proofs.Common.{rules}
use Rattle.diagnosis.specs.{operating_octet}
use Rattle.diagnosis.proofs.{PartLaws.masked}
use Rattle.diagnosis.proofs.part.operating_octet.Goals as goal

pub returns-then-fields : goal.returns-then-fields
unfolding operating_octet
returns-then-fields c = rw c.if-fields.true (masked c.args.fields.operating)

pub returns : goal.returns
unfolding operating_octet
returns c = search rules
