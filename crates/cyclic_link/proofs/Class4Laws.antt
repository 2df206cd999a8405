-- Class 4: the next link, the preset and the status word. The bits of the status word do not overlap, so that `or` is a sum.
use Rattle.std.specs.Prelude.{◌≡◌, Bool, true, not, ◌&&◌, ◌||◌, ℕ, ◌+◌, ◌*◌, ◌/◌, ◌%◌, ◌^◌, ◌<◌, eqb, ℤ, Option}
use Rattle.std.specs.Bool.{then_some}
use Rattle.std.proofs.Common.{◌∙◌, arith}
use Rattle.std.specs.Int.{w64}
use mir.Val.{SFits, to_z, of_z, bool_byte}
use Rattle.integer.specs.{bit}
use Rattle.integer.proofs.{reads, flag-lt, at-is}
use Rattle.encoder.specs.{InForce}
use Rattle.encoder.proofs.{and_split}
use Rattle.cyclic_link.specs.{Link, Preset, Reaction, Class4.asked, code_by, code, held, Class4.made, Class4.link, Class4.reaction, zsw}
use lib.{Bits.bit_or, Bits.or_shifted}
use native.Mathlib.Nat as N

module _ (f : InForce) (k : Link) (stopped faulty : Bool) (w : ℕ) where
  pub reaction-is : (acknowledge asks park relative : Bool) (n : ℕ) (s : ℤ) (o : Option Preset) → acknowledge ≡ bit 15 w → asks ≡ bit 12 w → park ≡ bit 14 w
      → n ≡ code_by k stopped faulty park acknowledge → relative ≡ bit 11 w → SFits w64 s
      → let error = not (eqb n 0) in
      let m = not k.requested && asks && f.enabled && not error && not faulty in
      o ≡ then_some m (record { value = to_z w64 (of_z w64 s); relative = relative }) →
      ◌≡◌ {A = Reaction}
      (record {
        link = record { faulty = faulty; requested = asks; error = error; acknowledged = error && acknowledge; executed = asks && (m || k.executed); due = k.due; counter = k.counter; expected = k.expected; code = n };
        preset = o;
      })
      (reaction f k stopped faulty w s)
  unfolding code made link
  reaction-is acknowledge asks park relative n s o a-is asks-is p-is n-is relative-is fits o_is =
      rw (o_is, n-is, a-is, asks-is, p-is, relative-is, reads fits)

  -- ---- a preset that is made: the class is on
  pub made-on : made f k stopped faulty w ≡ true → f.enabled ≡ true
  unfolding made
  made-on e =
      let rises = not k.requested && asked w && f.enabled in
      let error = held k stopped faulty w in
      (and_split (not k.requested && asked w) f.enabled (and_split rises (not error) (and_split (rises && not error) (not faulty) e).0).0).1

-- ---- the status word: what is below the lowest bit of a is added
or-under : (a b n : ℕ) → a % 2 ^ n ≡ 0 → b < 2 ^ n → bit_or a b ≡ a + b
or-under a b n e h =
    let s : a ≡ a / 2 ^ n * 2 ^ n = omega (arith, N.div-add-mod' a (2 ^ n)) in
    rw s (or_shifted (a / 2 ^ n) n b h)

or_word : (a b c d e : ℕ) → a < 2 → b < 2 → c < 2 → d < 2 → e < 2
    → bit_or (bit_or (bit_or (bit_or (a * 2 ^ 15 % 2 ^ 32) (b * 2 ^ 14 % 2 ^ 32)) (c * 2 ^ 13 % 2 ^ 32)) (d * 2 ^ 12 % 2 ^ 32)) (e * 2 ^ 11 % 2 ^ 32)
    ≡ a * 2 ^ 15 + b * 2 ^ 14 + c * 2 ^ 13 + d * 2 ^ 12 + e * 2 ^ 11
or_word a b c d e ha hb hc hd he =
    let u = a * 2 ^ 15 % 2 ^ 32 in
    let v = b * 2 ^ 14 % 2 ^ 32 in
    let w = c * 2 ^ 13 % 2 ^ 32 in
    let x = d * 2 ^ 12 % 2 ^ 32 in
    let y = e * 2 ^ 11 % 2 ^ 32 in
    rw (
      or-under u v 15 (omega arith) (omega arith),
      or-under (u + v) w 14 (omega arith) (omega arith),
      or-under (u + v + w) x 13 (omega arith) (omega arith),
      or-under (u + v + w + x) y 12 (omega arith) (omega arith),
    )
    (omega arith)

pub zsw-is : (k : Link) (w : ℕ) (parked : Bool) → parked ≡ bit 14 w
    → bit_or
    (bit_or
    (bit_or (bit_or (bool_byte k.error * 2 ^ 15 % 2 ^ 32) (bool_byte parked * 2 ^ 14 % 2 ^ 32)) (bool_byte (not k.error) * 2 ^ 13 % 2 ^ 32))
    (bool_byte k.executed * 2 ^ 12 % 2 ^ 32))
    (bool_byte k.acknowledged * 2 ^ 11 % 2 ^ 32)
    ≡ zsw k w
unfolding zsw
zsw-is k w parked p-is =
    or_word _ _ _ _ _ (flag-lt k.error) (flag-lt parked) (flag-lt (not k.error)) (flag-lt k.executed) (flag-lt k.acknowledged)
    ∙ rw (← p-is, at-is k.error 15, at-is parked 14, at-is (not k.error) 13, at-is k.executed 12, at-is k.acknowledged 11)
