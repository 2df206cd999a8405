use Rattle.std.proofs.Common.{rules}
use Rattle.encoder.proofs.{exits}
use Rattle.parameters_writer.proofs.{WriteLaws.right-length}
use Rattle.parameters_writer.proofs.write_parameters.Goals as goal

pub fill-requires : goal.fill-requires
fill-requires c = search (rules, exits, right-length)
