-- What a reader has tested before it reads an octet, and what it finds in the octets: the ident and the parameters.
use Rattle.std.specs.Prelude.{◌≡◌, not, List, ℕ, ◌%◌, ◌^◌, eqb, length, get_or, take, drop, Option, None, Some, Result, Err}
use Rattle.std.proofs.Common.{sym, ◌∙◌, arith, eqb-true}
use Rattle.integer.specs.{big_endian}
use Rattle.integer.proofs.{known, Octets.Octets, big_endian-part}
use Rattle.encoder.specs.{Nameplate, Parameters, Class2, Class4, Refusal, OtherIdent, when, ◌before◌, plate_refusal, parameters_refusal, refusal_on}
use Rattle.encoder.proofs.{before-none, when-none}
use Rattle.parameters_reader.specs.{received, frame_refusal, ident_in, ident_refusal, telegram_parameters, block_parameters}

-- ---- before an octet is read
pub framed : (n : Nameplate) (octets due : ℕ) → frame_refusal n octets due ≡ None → (plate_refusal n ≡ None) × (octets ≡ due)
framed n octets due none =
    let p = before-none (plate_refusal n) _ none in
    (p.0, eqb-true _ _ (when-none _ _ p.1))

-- ---- what stands in the octets
module _ (n : Nameplate) (t : List ℕ) (os : Octets t) (r : Result Parameters Refusal) where
  -- the seventeen octets are named one by one, so that the definition computes
  ident-is : (i : ℕ) → length t ≡ 17 → i ≡ big_endian (take 2 (drop 4 t)) % 2 ^ 32 → ident_in t ≡ i
  ident-is i long i-is =
      let e : big_endian (take 2 (drop 4 t)) ≡ i = sym (i-is ∙ big_endian-part t 4 2 (omega arith) os) in
      rw (known 17 t long) (rw (known 17 t long) at e)

  pub other-ident : (i : ℕ) (e : Refusal) (later : Option Refusal) (p : Parameters) → length t ≡ 17 → i ≡ big_endian (take 2 (drop 4 t)) % 2 ^ 32
      → when (not (eqb i n.ident)) OtherIdent ≡ Some e → r ≡ Err e → r ≡ received (ident_refusal n t before later) p
  other-ident i e later p long i-is refused r-is = r-is ∙ rw (ident-is i long i-is, refused)

  module _ (u l : ℕ) (p : Parameters) (none : plate_refusal n ≡ None) where
    judged : (q : Parameters) → p ≡ q → parameters_refusal n q ≡ refusal_on n p
    unfolding refusal_on
    judged q is = rw (none, is)

    pub telegram-judged : (i : ℕ) (w : Option Refusal) → length t ≡ 17 → i ≡ big_endian (take 2 (drop 4 t)) % 2 ^ 32 → r ≡ received (w before refusal_on n p) p
        → w ≡ when (not (eqb i n.ident)) OtherIdent → p ≡ Class2 (get_or t 8 0) (record { 0 = u }) (record { 0 = l })
        → u ≡ big_endian (take 4 (drop 9 t)) % 2 ^ 32 → l ≡ big_endian (take 4 (drop 13 t)) % 2 ^ 32
        → r ≡ received (ident_refusal n t before parameters_refusal n (telegram_parameters t)) (telegram_parameters t)
    telegram-judged i w long i-is r-is w-is p-is u-is l-is =
        let is : p ≡ telegram_parameters t = rw (p-is, u-is, l-is, big_endian-part t 9 4 (omega arith) os, big_endian-part t 13 4 (omega arith) os) in
        rw (ident-is i long i-is, judged _ is, ← w-is, ← is) r-is

    pub block-judged : length t ≡ 11 → r ≡ received (refusal_on n p) p
        → p ≡ Class4 (get_or t 0 0) (record { 0 = u }) (record { 0 = l }) (get_or t 9 0) (get_or t 10 0)
        → u ≡ big_endian (take 4 (drop 1 t)) % 2 ^ 32 → l ≡ big_endian (take 4 (drop 5 t)) % 2 ^ 32
        → r ≡ received (parameters_refusal n (block_parameters t)) (block_parameters t)
    block-judged long r-is p-is u-is l-is =
        let is : p ≡ block_parameters t = rw (p-is, u-is, l-is, big_endian-part t 1 4 (omega arith) os, big_endian-part t 5 4 (omega arith) os) in
        rw (judged _ is, ← is) r-is

pub ruleset contents = (other-ident, telegram-judged, block-judged)
