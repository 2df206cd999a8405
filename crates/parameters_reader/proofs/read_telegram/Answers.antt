use Rattle.std.proofs.Common.{rules}
use Rattle.encoder.proofs.{stepwise}
use Rattle.parameters_reader.specs.{telegram_refusal, read_telegram}
use Rattle.parameters_reader.proofs.{ReadLaws.framed}
use Rattle.parameters_reader.proofs.read_telegram.Goals as goal

pub returns-in_err-check_frame : goal.returns-in_err-check_frame
unfolding read_telegram telegram_refusal
returns-in_err-check_frame c = search (rules, stepwise)

pub take_telegram-requires : goal.take_telegram-requires
take_telegram-requires c = search (rules, stepwise, framed)

pub returns : goal.returns
unfolding read_telegram telegram_refusal
returns c = search (rules, stepwise)
