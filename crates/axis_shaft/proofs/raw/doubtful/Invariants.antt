-- What was found and what the readings to come will show is what all of them show.
use Rattle.std.specs.Prelude.{◌≡◌, ◌||◌, ◌/◌, drop}
use Rattle.axis_shaft.specs.{doubtful}
use Rattle.axis_shaft.proofs.raw.doubtful.Given as goal

abbrev pub invariant-loop-raw : goal.invariant-loop-raw
invariant-loop-raw l = (l.half ≡ l.capacity / 2) × ((l.found || doubtful l.capacity l.last (drop l.raw-index l.raws)) ≡ doubtful l.capacity l.before l.raws)
