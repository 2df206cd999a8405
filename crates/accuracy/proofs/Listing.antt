-- What the claim says of a program on the listing's axis, first at step 8 of turn 2, which is raw number 28: of its first call, and of another after it.
use Rattle.std.specs.Prelude.{◌≡◌, refl, [], ◌∷◌, ℕ, ℤ, None, Result}
use Rattle.encoder.specs.{Refusal, plate_refusal, fields_refusal, refusal_on}
use Rattle.sensor.specs.{step_refusal}
use Rattle.axis_shaft.specs.{Reported}
use Rattle.axis.specs.{start_refusal}
use Rattle.accuracy.specs.{First, first_reading, Call, Ledger.Ledger, start_by, opened, deed, noted, Program, Event, Supposed, number, Reports, Lent, Rule6}
use Rattle.accuracy.specs.{read_singly, Accurate, Claim.Claim, listing}

abbrev pub first : Ledger
first = opened listing 28

abbrev pub there : First
there = first_reading 8 2

pub started-there : start_by listing there ≡ None
unfolding start_refusal step_refusal refusal_on plate_refusal fields_refusal
started-there = refl

abbrev pub begun : (p : Program) → p.State
begun p = p.start listing.plate listing.parameters there

abbrev pub then : Program → Call → Result Reported Refusal
then p c = p.position (p.call (begun p) c)

abbrev pub twice : Program → Call → Call → Result Reported Refusal
twice p c e = p.position (p.call (p.call (begun p) c) e)

abbrev pub steady : ℤ → ℕ → ℤ
steady m i = m

abbrev pub event : Call → ℤ → Event
event c m = record { call = c; steps = steady m }

abbrev pub later : Program → Call → ℤ → Ledger
later p c m = noted first (deed listing first c) (steady m) (number (then p c))

module _ (p : Program) (claim : Claim p) (c : Call) (m : ℤ) (h : Supposed listing 28 (deed listing first c).numbers (steady m)) where
  pub after : Reports listing (later p c m) (then p c)
  unfolding Accurate
  after = ((claim listing there started-there (event c m ∷ [])).1 h).2

  pub puts : Rule6 listing (deed listing first c).preset (number (p.position (read_singly p (begun p) (deed listing first c).numbers))) (number (then p c))
  unfolding Accurate
  puts = ((claim listing there started-there (event c m ∷ [])).1 h).0

  pub lent : Lent listing first c (steady m) (later p c m) (p.lent (begun p) c)
  unfolding Accurate
  lent = ((claim listing there started-there (event c m ∷ [])).1 h).1

  pub another : (e : Call) (n : ℤ) → Supposed listing (later p c m).last (deed listing (later p c m) e).numbers (steady n)
      → Rule6 listing (deed listing (later p c m) e).preset (number (p.position (read_singly p (p.call (begun p) c) (deed listing (later p c m) e).numbers))) (number (twice p c e))
      × Lent listing (later p c m) e (steady n) (noted (later p c m) (deed listing (later p c m) e) (steady n) (number (twice p c e))) (p.lent (p.call (begun p) c) e)
      × Reports listing (noted (later p c m) (deed listing (later p c m) e) (steady n) (number (twice p c e))) (twice p c e)
  unfolding Accurate
  another e n k = let t = ((claim listing there started-there (event c m ∷ event e n ∷ [])).1 h).2.1 k in (t.0, t.1, t.2)
