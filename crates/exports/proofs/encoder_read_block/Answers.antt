-- What the reader answers fills the list.
use Rattle.std.proofs.Common.{rules}
use Rattle.exports.proofs.{NumbersLaws.reading}
use Rattle.exports.proofs.encoder_read_block.Goals as goal

pub take-requires : goal.take-requires
take-requires c = search (rules, reading)
