-- A line is read as a form just if it is that form as written.
use Rattle.axislog_grammar.specs.{Exact}
use Rattle.axislog_grammar.proofs.{ReadsBack.reads-back, ReadsOnly.reads_only}

pub exact : Exact
exact = record { back = reads-back; only = reads_only }
