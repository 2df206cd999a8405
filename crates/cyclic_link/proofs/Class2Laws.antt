-- Class 2: the next link and the preset. The value is a mask of 31 bits, which is a remainder.
use Rattle.std.specs.Prelude.{◌≡◌, Bool, true, false, not, ◌&&◌, ◌||◌, ℕ, ◌^◌, ◌<◌, ltb, Option}
use Rattle.std.specs.Bool.{then_some}
use Rattle.std.proofs.Common.{arith, ltb-true}
use Rattle.std.specs.Int.Bits.{bit_and}
use Rattle.std.proofs.lemmas.Nat.{and_mask}
use Rattle.std.specs.Int.{w64}
use mir.Val.{to_z}
use Rattle.std.proofs.lemmas.Int.{to_z_pos}
use Rattle.integer.specs.{bit}
use Rattle.encoder.specs.{InForce}
use Rattle.encoder.proofs.{and_split}
use Rattle.cyclic_link.specs.{Link, Preset, Reaction, value, Class2.due, Class2.made, Class2.link, Class2.reaction}
use lib.{Bits.and_le_r}

pub value-is : (w : ℕ) → bit_and w 0x7fffffff ≡ value w
value-is w = and_mask w 31

pub value-lt : (w : ℕ) → bit_and w 0x7fffffff < 2 ^ 31
value-lt w = omega (arith, and_le_r w 0x7fffffff)

module _ (f : InForce) (k : Link) (faulty : Bool) (w : ℕ) where
  pub reaction-is : (asks : Bool) (v : ℕ) (o : Option Preset) → asks ≡ bit 31 w → v ≡ value w → v < 2 ^ 31
      → let d = asks && (not k.requested || k.due) in
      let m = d && f.enabled && not faulty && ltb v f.span.0 in
      o ≡ then_some m (record { value = to_z w64 v; relative = false }) →
      ◌≡◌ {A = Reaction}
      (record {
        link = record { faulty = faulty; requested = asks; error = k.error; acknowledged = k.acknowledged; executed = k.executed; due = d && not m; counter = k.counter; expected = k.expected; code = k.code };
        preset = o;
      })
      (reaction f k faulty w)
  unfolding made link
  reaction-is asks v o asks-is v-is lt o_is = rw (o_is, to_z_pos w64 v (omega arith), asks-is, v-is)

  -- ---- a preset that is made: the class is on, and the value is below L
  module _ (e : made f k faulty w ≡ true) where
    tests : ((due k w && f.enabled && not faulty) ≡ true) × (ltb (value w) f.span.0 ≡ true)
    unfolding made
    tests = and_split (due k w && f.enabled && not faulty) (ltb (value w) f.span.0) e

    pub made-on : f.enabled ≡ true
    made-on = (and_split (due k w) f.enabled (and_split (due k w && f.enabled) (not faulty) tests.0).0).1

    pub made-below : value w < f.span.0
    made-below = ltb-true (value w) f.span.0 tests.1

pub ruleset values = (value-is, value-lt)
