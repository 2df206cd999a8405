-- Worthless functions break the claim, each on the axis of document 01's listing: first at raw number 28, then at 4 and 10, 6 steps on each time. Exact is
-- 10.2 and 12, which on the ring of 7 is 3.2 and 5, and no position is within a unit of both. And the table takes this call.
use Rattle.std.specs.Prelude.{◌≡◌, refl, [], ◌∷◌, ℕ, ℤ, pos, get_or, None}
use Rattle.std.proofs.Common.{ap, ◌∙◌, arith}
use Rattle.integer.specs.{◌modulo◌}
use Rattle.encoder.specs.{coded, plate_refusal, fields_refusal, refusal_on, rules_of}
use Rattle.axis_shaft.specs.{oriented, difference, move_refusal, refusal_in}
use Rattle.axis.specs.{start_raw_refusal}
use Rattle.accuracy.specs.{with_readings, Supposed, Entries}
use Rattle.accuracy.proofs.{told}
use Rattle.exports_accuracy.specs.{Arguments, device, encoder_batch, refusal, Claim, repeats, always0, copies_first, refuses_all}

abbrev listing : Arguments
listing =
    record {
      steps = 10;
      turns = 3;
      class4 = 0;
      operating = 0x0a;
      units = 3;
      range = 7;
      life = 0;
      speed = 0;
      first = 28;
      raws = 4 ∷ 10 ∷ [];
      positions = 0 ∷ 0 ∷ [];
    }

abbrev steady : ℕ → ℤ
steady i = pos 6

-- the table takes the call, and the true steps are as supposed
taken : refusal listing ≡ None
unfolding start_raw_refusal refusal_on plate_refusal fields_refusal refusal_in move_refusal difference oriented ◌modulo◌ rules_of
taken = refl

supposed : Supposed (device listing) 28 (4 ∷ 10 ∷ []) steady
unfolding Supposed difference oriented ◌modulo◌ rules_of
supposed = (record { small = omega arith; times = pos 1; same = refl }, (record { small = omega arith; times = pos 0; same = refl }, tt))

no-repeats : (position : Arguments → ℕ) → Claim (repeats position) → ⊥
unfolding Entries with_readings oriented rules_of
no-repeats position h =
    let x = position listing in
    let e = ((h listing).1 ((h listing).0 ∙ ap coded taken) steady supposed).1 in
    let one = told (device listing) _ x e.0 in
    let two = told (device listing) _ x e.1.0 in
    omega arith

pub no-always0 : Claim always0 → ⊥
no-always0 = no-repeats (λ c. 0)

pub no-copies_first : Claim copies_first → ⊥
no-copies_first = no-repeats (λ c. get_or (encoder_batch.list c) 0 0)

pub no-refuses_all : Claim refuses_all → ⊥
no-refuses_all h = let wrong = (h listing).0 ∙ ap coded taken in omega arith
