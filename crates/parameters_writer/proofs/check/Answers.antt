use Rattle.std.proofs.Common.{rules}
use Rattle.encoder.proofs.{exits}
use Rattle.parameters_writer.specs.{write_refusal}
use Rattle.parameters_writer.proofs.{WriteLaws.write-refused, WriteLaws.write-later}
use Rattle.parameters_writer.proofs.check.Goals as goal

pub returns-in_err-check_buffer : goal.returns-in_err-check_buffer
unfolding write_refusal
returns-in_err-check_buffer c = search (rules, exits, write-refused)

pub returns : goal.returns
returns c = search (rules, exits, write-later)
