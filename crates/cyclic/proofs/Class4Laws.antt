-- The words of class 4: control words out of the output octets, and the input octets.
use Rattle.std.specs.Prelude.{◌≡◌, Bool, true, false, List, ℕ, ◌/◌, ◌%◌, ◌^◌, take, drop}
use Rattle.std.proofs.Common.{ap, ◌∙◌, arith}
use Rattle.std.specs.Int.Bits.{bit_and}
use Rattle.std.proofs.lemmas.Nat.{and_mask}
use Rattle.integer.specs.{bit, big_endian}
use Rattle.integer.proofs.{Octets.Octets, big_endian-part}
use Rattle.encoder.specs.{Fields, fields_of}
use Rattle.axis.specs.{unshifted_of, position_of}
use Rattle.cyclic_link.specs.{Link, Control, zsw}
use Rattle.cyclic.specs.{Standing, standing, stw2, counted, sign, control, xist1, words, Class4.input}

-- ---- the control words
module _ (output : List ℕ) (os : Octets output) (n : ℕ) (n-is : n ≡ big_endian (take 2 (drop 0 output)) % 2 ^ 32) where
  stw2-is : n ≡ stw2 output
  stw2-is = n-is ∙ big_endian-part output 0 2 (omega arith) os

  sign-is : bit_and (n / 2 ^ 12) 15 ≡ sign output
  unfolding sign
  sign-is = rw stw2-is (and_mask (stw2 output / 2 ^ 12) 4)

  module _ (b : Bool) (b-is : b ≡ bit 10 n) where
    bit-10 : bit 10 (stw2 output) ≡ b
    bit-10 = rw (b-is, stw2-is)

    pub control-on : (w : ℕ) → b ≡ true → w ≡ big_endian (take 2 (drop 2 output)) % 2 ^ 32 → ◌≡◌ {A = Control} (record { word = w; sign = bit_and (n / 2 ^ 12) 15 }) (control output)
    unfolding counted
    control-on w t w-is = rw (bit-10, t, sign-is, w-is) (ap (λ (z : ℕ). record { word = z; sign = sign output }) (big_endian-part output 2 2 (omega arith) os))

    pub control-off : b ≡ false → ◌≡◌ {A = Control} (record { word = 0; sign = bit_and (n / 2 ^ 12) 15 }) (control output)
    unfolding counted
    control-off t = rw (bit-10, t, sign-is)

-- ---- the input, where the axis stands
module _ (s : Standing) (s-is : s ≡ standing s.axis) where
  pub at_position : s.position.0 ≡ position_of s.axis
  at_position = ap (λ (z : Standing). z.position.0) s-is

  at-unshifted : s.unshifted.0 ≡ unshifted_of s.axis
  at-unshifted = ap (λ (z : Standing). z.unshifted.0) s-is

  module _ (g : Fields) (b : Bool) (g-is : g ≡ fields_of s.axis.parameters) (b-is : b ≡ bit 2 g.operating) where
    pub xist1-unshifted : b ≡ true → s.unshifted.0 ≡ xist1 s.axis
    xist1-unshifted t = rw (← g-is, ← b-is, t) at-unshifted

    pub xist1-position : b ≡ false → s.position.0 ≡ xist1 s.axis
    xist1-position t = rw (← g-is, ← b-is, t) at_position

  module _ (k : Link) (w status first : ℕ) (l : List ℕ) (status-is : status ≡ zsw k w) (first-is : first ≡ xist1 s.axis) where
    pub filled-error : k.error ≡ true → l ≡ words status first k.code → l ≡ input k w s.axis
    unfolding input
    filled-error t l-is = l-is ∙ rw (status-is, first-is, t)

    pub filled-position : k.error ≡ false → l ≡ words status first s.position.0 → l ≡ input k w s.axis
    unfolding input
    filled-position t l-is = l-is ∙ rw (status-is, first-is, t, at_position)

pub ruleset words4 = (control-on, control-off, xist1-unshifted, xist1-position, filled-error, filled-position)
