-- Nothing refuses a preset that a cycle makes: class 2 tests its value, and class 4 takes the held value, which is within the limits.
use Rattle.std.specs.Prelude.{◌≡◌, refl, Bool, true, false, ◌<◌, ℤ, nat_abs}
use Rattle.std.specs.Bool.{then_some}
use Rattle.encoder.specs.{InForce}
use Rattle.cyclic_link.specs.{Life, Link, Control, Preset, heard, at_stop, Class2.made as made2, Class4.made as made4, Classes.reaction, Allowed, Possible}
use Rattle.cyclic_link.proofs.Class2Laws as Class2
use Rattle.cyclic_link.proofs.Class4Laws as Class4

-- a preset that is made is allowed
by-made : (f : InForce) (o : Preset) (made : Bool) → (made ≡ true → Allowed f o) → Possible f (then_some made o)
by-made f o true h = h refl
by-made f o false h = tt

pub possible : (class : Bool) (w : Life) (f : InForce) (k : Link) (faulty : Bool) (c : Control) (stored : ℤ) → nat_abs stored < f.span.0
    → Possible f (reaction class w f k faulty c stored).preset
possible true w f k faulty c stored h =
    let j = heard w k c.sign in
    by-made f _ (made4 f j (at_stop w j) faulty c.word) (λ e. record { on = Class4.made-on f j (at_stop w j) faulty c.word e; below = h })
possible false w f k faulty c stored h =
    by-made f _ (made2 f k faulty c.word) (λ e. record { on = Class2.made-on f k faulty c.word e; below = Class2.made-below f k faulty c.word e })
