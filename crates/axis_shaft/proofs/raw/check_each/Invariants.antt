-- The first refusal of the readings to come is the first refusal of all.
use Rattle.std.specs.Prelude.{◌≡◌, ◌<◌, drop}
use Rattle.encoder.specs.{Sound}
use Rattle.axis_shaft.specs.{refusal_in}
use Rattle.axis_shaft.proofs.raw.check_each.Given as goal

abbrev pub invariant-loop-raw : goal.invariant-loop-raw
invariant-loop-raw l = Sound l.rules × (l.last.0 < l.rules.capacity.0) × (refusal_in l.rules l.last.0 (drop l.raw-index l.raws) ≡ refusal_in l.rules l.initial.last.0 l.raws)
