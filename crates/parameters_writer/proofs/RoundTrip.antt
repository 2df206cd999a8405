-- Parameters that the writer takes, written into any buffer of their class's length, read back as the same parameters on the same
-- nameplate: one theorem for both classes. The buffer's length is known, so that its octets compute, and a number stands in its octets.
use Rattle.std.specs.Prelude.{◌≡◌, refl, List, ℕ, ◌^◌, ◌<◌, length, None, Ok}
use Rattle.std.proofs.Common.{ap, ◌∙◌, eq-eqb}
use Rattle.integer.specs.{octets}
use Rattle.integer.proofs.{known, big_endian-octets}
use Rattle.encoder.specs.{Units, Nameplate, Parameters, Class2, Class4, plate_refusal, parameters_refusal}
use Rattle.parameters_reader.specs.{ident_in, telegram_parameters, telegram_refusal, read_telegram, block_parameters, block_refusal, read_block}
use Rattle.parameters_writer.specs.{length_of, telegram_of, block_of, octets_of, write_refusal, written, written_octets, read_as, Held}
use Rattle.encoder.proofs.{passed}
use Rattle.parameters_writer.proofs.WriteLaws.{write-passed}

-- ---- what an accepted write tells
module _ (n : Nameplate) (p : Parameters) (b : List ℕ) (taken : written n p b ≡ Ok tt) where
  none-refused : write_refusal n p (length b) ≡ None
  none-refused = (passed tt (write_refusal n p (length b)) (written n p b) tt taken refl).0

  tests : (plate_refusal n ≡ None) × (length b ≡ length_of p) × (parameters_refusal n p ≡ None)
  tests = write-passed n p (length b) none-refused

  filled : written_octets n p b ≡ octets_of n.ident p b
  filled = rw none-refused

-- ---- what the readers take
module _ (n : Nameplate) (p : Parameters) (t : List ℕ) (fits : plate_refusal n ≡ None) (none : parameters_refusal n p ≡ None) where
  telegram-taken : length t ≡ 17 → ident_in t ≡ n.ident → telegram_parameters t ≡ p → read_telegram n t ≡ Ok p
  unfolding read_telegram telegram_refusal
  telegram-taken long ident is = rw (fits, eq-eqb _ _ long, eq-eqb _ _ ident, ap (parameters_refusal n) is ∙ none) (ap Ok is)

  block-taken : length t ≡ 11 → block_parameters t ≡ p → read_block n t ≡ Ok p
  unfolding read_block block_refusal
  block-taken long is = rw (fits, eq-eqb _ _ long, ap (parameters_refusal n) is ∙ none) (ap Ok is)

-- ---- what the octets hold
module _ (t : List ℕ) (ident o : ℕ) (u r : Units) (hu : u.0 < 2 ^ 32) (hr : r.0 < 2 ^ 32) where
  module _ (h : length t ≡ 17) where
    telegram-long : length (telegram_of ident o u r t) ≡ 17
    unfolding telegram_of octets
    telegram-long = rw (known 17 t h)

    telegram-ident : ident < 2 ^ 16 → ident_in (telegram_of ident o u r t) ≡ ident
    unfolding telegram_of octets
    telegram-ident hi = rw (known 17 t h) (big_endian-octets 2 ident hi)

    telegram-back : telegram_parameters (telegram_of ident o u r t) ≡ Class2 o u r
    unfolding telegram_of octets
    telegram-back = rw (known 17 t h) (rw (big_endian-octets 4 u.0 hu, big_endian-octets 4 r.0 hr))

  block_back : (l s : ℕ) → block_parameters (block_of o u r l s) ≡ Class4 o u r l s
  unfolding block_of octets
  block_back l s = rw (big_endian-octets 4 u.0 hu, big_endian-octets 4 r.0 hr)

  block-long : (l s : ℕ) → length (block_of o u r l s) ≡ 11
  unfolding block_of octets
  block-long l s = refl

-- ---- the round trip
pub round_trip : (n : Nameplate) (p : Parameters) (b : List ℕ) → Held n p → written n p b ≡ Ok tt → read_as p n (written_octets n p b) ≡ Ok p
unfolding octets_of
round_trip n (Class2 o u r) b h taken =
    let w = tests n (Class2 o u r) b taken in
    rw (filled n (Class2 o u r) b taken)
    (telegram-taken n (Class2 o u r) (telegram_of n.ident o u r b) w.0 w.2
    (telegram-long b n.ident o u r h.units h.range w.1)
    (telegram-ident b n.ident o u r h.units h.range w.1 h.ident)
    (telegram-back b n.ident o u r h.units h.range w.1))
round_trip n (Class4 o u r life speed) b h taken =
    let w = tests n (Class4 o u r life speed) b taken in
    rw (filled n (Class4 o u r life speed) b taken)
    (block-taken n (Class4 o u r life speed) (block_of o u r life speed) w.0 w.2
    (block-long b n.ident o u r h.units h.range life speed)
    (block_back b n.ident o u r h.units h.range life speed))
