use Rattle.std.proofs.Common.{rules}
use Rattle.parameters_writer.specs.{octets_of}
use Rattle.parameters_writer.proofs.fill.Goals as goal

pub returns-in-Class2 : goal.returns-in-Class2
unfolding octets_of
returns-in-Class2 c = search rules

pub returns-in-Class4 : goal.returns-in-Class4
unfolding octets_of
returns-in-Class4 c = search rules
