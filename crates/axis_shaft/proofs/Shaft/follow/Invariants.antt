-- The running values are those of a shaft, and what is written and what the readings from the i-th on will write is the whole list.
use Rattle.std.specs.Prelude.{◌≡◌, ◌<◌, nat_abs, length}
use Rattle.axis_shaft.specs.{lead_of}
use Rattle.axis_shaft.proofs.{FollowLaws.Following}
use Rattle.axis_shaft.proofs.Shaft.follow.Given as goal

abbrev pub invariant-loop-i : goal.invariant-loop-i
invariant-loop-i l = (length l.positions ≡ length l.initial.positions) × (l.lead ≡ lead_of l.rules) × (nat_abs l.offset < l.rules.span.0)
    × Following l.rules l.offset l.initial.running l.raws l.running l.i l.positions
