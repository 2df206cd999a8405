-- A store keeps the length, and the parts and stores leave what telegram-filled says.
use Rattle.std.proofs.Common.{rules}
use Rattle.parameters_writer.proofs.{WriteLaws.telegram-filled}
use Rattle.parameters_writer.proofs.fill_telegram.Goals as goal

pub returns : goal.returns
returns c = search (rules, telegram-filled)
