use Rattle.std.proofs.Common.{length}
use Rattle.vectors.proofs.numbers.Numbers.number.Given as goal

-- each turn goes one further
abbrev pub decreases-loop-c : goal.decreases-loop-c
decreases-loop-c l = length l.self.rest.now
