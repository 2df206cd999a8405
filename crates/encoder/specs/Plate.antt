-- The nameplate (document 01, "Plate and reading"; row 7 of "When a call is turned away").
use Rattle.std.specs.Prelude.{ℕ, ◌*◌, not, ◌&&◌, leb, eqb, replicate, Option}
use Rattle.encoder.specs.{declared.nameplate.Nameplate.Nameplate, declared.refusal.Refusal.Refusal, declared.refusal.Refusal.TheVariants.WrongPlate, declared.refusal.Refusal.TheVariants.WrongBuffer, Refusals.when, Refusals.◌before◌}

-- 7, unless R is 2 to 65,536 and T is 1 to 32,768; the other fields may be anything
unfoldable pub plate_refusal : Nameplate → Option Refusal
plate_refusal n =
    when (not (leb 2 n.steps.0 && leb n.steps.0 65536 && leb 1 n.turns.0 && leb n.turns.0 32768)) WrongPlate

-- a call on a plate that fills a lent buffer or list: 7, then 13 where its length is not the one that is due, then the call's other refusals
abbrev pub buffer_refusal : Nameplate → ℕ → ℕ → Option Refusal → Option Refusal
buffer_refusal n size due later = plate_refusal n before when (not (eqb size due)) WrongBuffer before later

-- C = R × T
abbrev pub capacity_of : Nameplate → ℕ
capacity_of n = n.steps.0 * n.turns.0

-- a plate of R, T and ident, the other fields zero
abbrev pub plain_plate : ℕ → ℕ → ℕ → Nameplate
plain_plate steps turns ident =
    record { steps = record { 0 = steps }; turns = record { 0 = turns }; ident = ident; software = replicate 2 0; serial = replicate 10 0 }
