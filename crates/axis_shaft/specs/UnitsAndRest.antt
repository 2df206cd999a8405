-- Units and rest as running values (document 02, request 4): each entry of a batch works them out from its own move and the two before it.
use Rattle.std.specs.Prelude.{cond, List, [], ◌∷◌, ℕ, ◌+◌, ◌-◌, ◌*◌, ◌/◌, ◌%◌, ◌^◌, ◌<◌, ltb, ℤ, pos, ◌+ℤ◌, ◌*ℤ◌}
use Rattle.integer.specs.{◌modulo◌, ◌quotient◌}
use Rattle.encoder.specs.{InForce}
use Rattle.axis_shaft.specs.{declared.Shaft.Shaft, declared.running.Running.Running, declared.running.Share.Share, declared.running.Lead.Lead}
use Rattle.axis_shaft.specs.{Rules.move_of, Rules.moved_to, Rules.unshifted}

-- q and s of a move: the whole part of d × M by R, rounded down, and the remainder
unfoldable pub share_of : InForce → ℤ → Share
share_of f d = record { whole = (d *ℤ pos f.scale.0) quotient f.steps.0; part = (d *ℤ pos f.scale.0) modulo f.steps.0 }

-- the new rest is rest + s, less R where that is R or more; then there is one more whole unit
unfoldable pub carried : InForce → ℕ → Share → Share
carried f rest by =
    cond (ltb (rest + by.part) f.steps.0)
    (record { whole = by.whole; part = rest + by.part })
    (record { whole = by.whole +ℤ pos 1; part = rest + by.part - f.steps.0 })

-- the new units are units + q, modulo L. A total range that ends is counted, modulo M: it tells the place and nothing else
unfoldable pub onward : InForce → Running → Share → Running
onward f k by =
    record {
      units = record { 0 = (pos k.units.0 +ℤ by.whole) modulo f.span.0 };
      rest = by.part;
      ranges = (pos k.ranges +ℤ (pos k.units.0 +ℤ by.whole) quotient f.span.0) modulo f.scale.0;
      last = k.last;
    }

-- the running values after one more reading
unfoldable pub ran_to : InForce → Running → ℕ → Running
ran_to f k raw =
    let next = onward f k (carried f k.rest (share_of f (move_of f k.last.0 raw))) in
    record { units = next.units; rest = next.rest; ranges = next.ranges; last = record { 0 = raw } }

-- those of a shaft: the unshifted position, and what dividing place × M by R leaves
unfoldable pub running_of : InForce → Shaft → Running
running_of f k =
    record {
      units = record { 0 = unshifted f k };
      rest = k.place.0 * f.scale.0 % f.steps.0;
      ranges = k.place.0 * f.scale.0 / f.steps.0 / f.span.0;
      last = k.last;
    }

-- and the shaft again: place × M is (ranges × L + units) × R + rest
unfoldable pub shaft_of : InForce → Running → Shaft
shaft_of f k = record { place = record { 0 = ((k.ranges * f.span.0 + k.units.0) * f.steps.0 + k.rest) / f.scale.0 }; last = k.last }

-- the limits: units below L, rest below R, ranges below M, last reading below C
pub record Within (f : InForce) (k : Running) : Type 0 where
  pub units : k.units.0 < f.span.0
  pub rest : k.rest < f.steps.0
  pub ranges : k.ranges < f.scale.0
  pub last : k.last.0 < f.capacity.0

-- what a batch works out once: whole turns of 2^33 steps or more, in steps and in units, and whole rounds of M total ranges, of 2^52 units or more
unfoldable pub lead_of : InForce → Lead
lead_of f =
    record {
      steps = record { 0 = (2 ^ 33 / f.steps.0 + 1) * f.steps.0 };
      units = (2 ^ 33 / f.steps.0 + 1) * f.scale.0;
      rounds = (2 ^ 52 / (f.scale.0 * f.span.0) + 1) * (f.scale.0 * f.span.0);
    }

-- ---- over a list of readings
-- the running values after each entry
unfoldable pub runs : InForce → Running → List ℕ → List Running
runs f k [] = []
runs f k (raw ∷ raws) = ran_to f k raw ∷ runs f (ran_to f k raw) raws

-- and the shaft
unfoldable pub shafts : InForce → Shaft → List ℕ → List Shaft
shafts f k [] = []
shafts f k (raw ∷ raws) = moved_to f k raw ∷ shafts f (moved_to f k raw) raws
