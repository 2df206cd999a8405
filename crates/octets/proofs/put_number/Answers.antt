-- The loop keeps what is still to be written in front of what is written.
use Rattle.std.proofs.Common.{rules}
use Rattle.octets.proofs.{OctetLaws.put-more, OctetLaws.put_all}
use Rattle.octets.proofs.put_number.Goals as goal

pub loop-i-preserved : goal.loop-i-preserved
loop-i-preserved c = search (rules, put-more)

pub returns : goal.returns
returns c = search (rules, put_all)
