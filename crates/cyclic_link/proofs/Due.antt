-- Bit 31 that stays up (request 2), by the link alone. A preset that is due stays due through a cycle that is faulty or has a value too large; any other
-- cycle with the class on makes it; once it is made, no cycle makes one as long as the bit is up. By the tests of the definitions, one after the other.
use Rattle.std.specs.Prelude.{◌≡◌, refl, Bool, true, false, not, ◌&&◌, ◌||◌, ℕ, ◌<◌, leb}
use Rattle.std.proofs.Common.{leb-true, le-ltb, lt-ltb}
use Rattle.encoder.specs.{InForce}
use Rattle.cyclic_link.specs.{Link, Class2.asked, value, Class2.due, Class2.made, Class2.link}
use mathlib.{Core.Bool.and-false, Core.Bool.or-true}

module _ (k : Link) (w : ℕ) (up : asked w ≡ true) where
  pub due-risen : k.requested ≡ false → due k w ≡ true
  due-risen e = rw (up, e)

  pub due-still : k.due ≡ true → due k w ≡ true
  due-still e = rw (up, e) (or-true (not k.requested))

module _ (f : InForce) (k : Link) (faulty : Bool) (w : ℕ) where
  -- made, and spent
  pub makes : due k w ≡ true → f.enabled ≡ true → faulty ≡ false → value w < f.span.0 → made f k faulty w ≡ true
  unfolding made
  makes d on good below = rw (d, on, good, lt-ltb (value w) f.span.0 below)

  pub spent : asked w ≡ true → made f k faulty w ≡ true → ((link f k faulty w).requested ≡ true) × ((link f k faulty w).due ≡ false)
  unfolding link
  spent up m = (up, rw m (and-false (due k w)))

  -- passed over, and still due
  passed-by : (b : Bool) → b ≡ faulty → (b || leb f.span.0 (value w)) ≡ true → made f k faulty w ≡ false
  unfolding made
  passed-by true b-is h = rw (← b-is, and-false (due k w && f.enabled))
  passed-by false b-is h = rw (le-ltb (value w) f.span.0 (leb-true _ _ h)) (and-false (due k w && f.enabled && not faulty))

  pub passes : (faulty || leb f.span.0 (value w)) ≡ true → made f k faulty w ≡ false
  passes h = passed-by faulty refl h

  pub waits : due k w ≡ true → (faulty || leb f.span.0 (value w)) ≡ true → (link f k faulty w).due ≡ true
  unfolding link
  waits d h = rw (d, passes h)

  -- nothing is due
  pub rests : asked w ≡ true → k.requested ≡ true → k.due ≡ false
      → (made f k faulty w ≡ false) × ((link f k faulty w).requested ≡ true) × ((link f k faulty w).due ≡ false)
  unfolding made link
  rests up r d = (rw (r, d, and-false (asked w)), up, rw (r, d, and-false (asked w)))
