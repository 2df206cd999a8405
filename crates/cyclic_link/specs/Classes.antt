-- What a cycle of either class makes of what the control sends: the next link, and the preset (document 01, "One cycle").
use Rattle.std.specs.Prelude.{◌<◌, ◌≡◌, Bool, true, cond, ℤ, nat_abs, Option, None, Some}
use Rattle.encoder.specs.{InForce}
use Rattle.cyclic_link.specs.{declared.Link.Link, declared.Life.Life, declared.Control.Control, declared.Preset.Preset, declared.Reaction.Reaction, SignOfLife.heard, SignOfLife.at_stop}
use Rattle.cyclic_link.specs.Class2 as Class2
use Rattle.cyclic_link.specs.Class4 as Class4

-- class 4 counts the sign of life first
abbrev pub reaction4 : Life → InForce → Link → Bool → Control → ℤ → Reaction
reaction4 w f k faulty c stored = let j = heard w k c.sign in Class4.reaction f j (at_stop w j) faulty c.word stored

-- by the class, true for class 4
abbrev pub reaction : Bool → Life → InForce → Link → Bool → Control → ℤ → Reaction
reaction class w f k faulty c stored = cond class (reaction4 w f k faulty c stored) (Class2.reaction f k faulty c.word)

-- nothing refuses a preset that is made: the class is on, and the value lies strictly between −L and L
pub record Allowed (f : InForce) (o : Preset) : Type 0 where
  pub on : f.enabled ≡ true
  pub below : nat_abs o.value < f.span.0

abbrev pub Possible : InForce → Option Preset → Type 0
Possible f None = Unit {0}
Possible f (Some o) = Allowed f o
