-- A store keeps the length, and the parts and stores leave what block-filled says.
use Rattle.std.proofs.Common.{rules}
use Rattle.parameters_writer.proofs.{WriteLaws.block-filled}
use Rattle.parameters_writer.proofs.fill_block.Goals as goal

pub returns : goal.returns
returns c = search (rules, block-filled)
