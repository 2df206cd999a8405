use Rattle.std.proofs.Common.{length}
use Rattle.vectors.proofs.numbers.Numbers.pass_blanks.Given as goal

-- each turn goes one further
abbrev pub decreases-loop-rest : goal.decreases-loop-rest
decreases-loop-rest l = length l.self.rest.now
