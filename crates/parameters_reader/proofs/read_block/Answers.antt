use Rattle.std.proofs.Common.{rules}
use Rattle.encoder.proofs.{stepwise}
use Rattle.parameters_reader.specs.{block_refusal, read_block}
use Rattle.parameters_reader.proofs.{ReadLaws.framed}
use Rattle.parameters_reader.proofs.read_block.Goals as goal

pub returns-in_err-check_frame : goal.returns-in_err-check_frame
unfolding read_block block_refusal
returns-in_err-check_frame c = search (rules, stepwise)

pub take_block-requires : goal.take_block-requires
take_block-requires c = search (rules, stepwise, framed)

pub returns : goal.returns
unfolding read_block block_refusal
returns c = search (rules, stepwise)
