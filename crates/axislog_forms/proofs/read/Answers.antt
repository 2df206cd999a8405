use Rattle.std.proofs.Common.{rules}
use Rattle.axislog_forms.specs.{read}
use Rattle.axislog_forms.proofs.read.Goals as goal

pub returns-in_err-raw : goal.returns-in_err-raw
unfolding read
returns-in_err-raw c = search rules

pub returns : goal.returns
unfolding read
returns c = search rules
