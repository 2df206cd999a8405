-- Request 3: the master's sign of life, on an axis that has one (`sign_of_life`). Bits 12 to 15 of STW2_ENC bring a value in every cycle, which counts 1 to 15 and
-- then 1 again. Bit 10, park, the class bit and a faulty raw number have no part in this.
use Rattle.std.specs.Prelude.{ℕ, suc, ◌+◌, ◌-◌, ◌*◌, ◌%◌, min, Bool, cond, not, ◌&&◌, ◌||◌, eqb}
use Rattle.encoder.specs.{Fields, sign_of_life}
use Rattle.cyclic_link.specs.{declared.Link.Link, declared.Life.Life}

-- whether an axis has a sign of life, and where its failure counter stops: at ten times block octet 10. With bit 5 at 1 that octet may be 0, so that the stop is
-- asked for only where there is a sign of life
unfoldable pub life_of : Fields → Life
life_of g = record { on = sign_of_life g; stop = 10 * g.life }

-- the first value from 1 to 15 is the start: until then the expected value is 0
abbrev pub started : Link → Bool
started k = not (eqb k.expected 0)

-- nothing is counted up to the start and with it. From then on a value v that is the expected one takes 1 away, never below 0; any other, 0 too, adds 10, up
-- to the stop
unfoldable pub counter : ℕ → Link → ℕ → ℕ
counter stop k v = cond (started k) (cond (eqb v k.expected) (k.counter - 1) (min (k.counter + 10) stop)) k.counter

-- the value after v: 15 is followed by 1, and so is 0
abbrev pub following : ℕ → ℕ
following v = suc (v % 15)

-- the next expected is the value after the one just seen, right or wrong; before the start a 0 leaves it 0
unfoldable pub expected : Link → ℕ → ℕ
expected k v = cond (started k || not (eqb v 0)) (following v) 0

-- the link once this cycle is counted
abbrev pub counting : Link → ℕ → ℕ → Link
counting k count next =
    record {
      faulty = k.faulty;
      requested = k.requested;
      error = k.error;
      acknowledged = k.acknowledged;
      executed = k.executed;
      due = k.due;
      counter = count;
      expected = next;
      code = k.code;
    }

abbrev pub heard : Life → Link → ℕ → Link
heard w k v = cond w.on (counting k (counter w.stop k v) (expected k v)) k

-- the counter stands at its stop
abbrev pub at_stop : Life → Link → Bool
at_stop w k = w.on && eqb k.counter w.stop
