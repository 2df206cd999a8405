-- Worthless programs break the claim, each on the listing's axis and within two calls: the reported position is a unit or more from the exact one, or a
-- preset does not put the position where rule 6 says.
use Rattle.std.specs.Prelude.{◌≡◌, refl, true, false, [], ◌∷◌, ℕ, ◌*◌, ◌<◌, ℤ, pos, nat_abs}
use Rattle.std.proofs.Common.{arith}
use Rattle.integer.specs.{◌modulo◌, big_endian, octets}
use Rattle.integer.proofs.{apart, abs_is}
use Rattle.ring.specs.{in_range}
use Rattle.phase.proofs.{off-is}
use Rattle.encoder.specs.{plate_refusal, fields_refusal, refusal_on, rules_of, rules_fit}
use Rattle.sensor.specs.{step_refusal}
use Rattle.axis_shaft.specs.{inside, oriented, started, difference, shorter, move_of, move_refusal, moved_to, unshifted, position_at, shaft_refusal, refusal_in}
use Rattle.axis_offset.specs.{value_refusal}
use Rattle.axis.specs.{rules_on, acceptable, axis_refusal, unshifted_of, position_of, reported, start_refusal, start, at_raw, read_raw_refusal, read_raw, preset_refusal}
use Rattle.axis.specs.{asked, presetted, preset}
use Rattle.axis_batch.specs.{first_refusal, positions_of, batch_refusal, batch_list}
use Rattle.cyclic_link.specs.{life_of, Class2.made, Class2.link, link_refusal, within}
use Rattle.cyclic.specs.{faulty_at, taken_at, Class2.axis, Class2.input, length_refusal, cycle_refusal, link_after, axis_after, input_of, cycle, cycle_input}
use Rattle.accuracy.specs.{Call, raw_reading, batching, presetting, cycling, force, deed, with_readings, Program, Supposed, off, Entries, read_singly, Accurate}
use Rattle.accuracy.specs.{Claim.Claim, library, at, always0, turns_away, claims_half_range, ignores_readings, ignores_presets, copies_first, scales_afresh, wraps_at_c}
use Rattle.accuracy.specs.{cuts_place, adds_rounded, always_absolute, presets_when_faulty, forgets_link, forgets_due, shows_fresh, listing}
use Rattle.accuracy.proofs.OneUnit.{told}
use Rattle.accuracy.proofs.Listing.{first, there, started-there, begun, then, twice, steady, later, after, puts, lent, another}

-- ---- the calls: raw number 4, 6 steps on; two of a batch, 6 steps on each; presets to 0 and by 1; cycles that ask for a preset, of a raw number that
-- is faulty, or of the last one
abbrev pass : Call
pass = batching (4 ∷ 10 ∷ []) (0 ∷ 0 ∷ [])

abbrev asks : ℕ → ℕ → Call
asks raw v = cycling raw (0x80 ∷ 0 ∷ 0 ∷ v ∷ []) (0 ∷ 0 ∷ 0 ∷ 0 ∷ [])

-- what each program reports after it, computed
reports : (then turns_away (raw_reading 4) ≡ at 1 1)
    × (then claims_half_range (raw_reading 4) ≡ at 1 1)
    × (then ignores_readings (raw_reading 4) ≡ at 1 1)
    × (then scales_afresh (raw_reading 4) ≡ at 1 1)
    × (then wraps_at_c (raw_reading 4) ≡ at 1 1)
    × (then cuts_place (raw_reading 4) ≡ at 2 2)
    × (then adds_rounded (raw_reading 4) ≡ at 2 2)
    × (then ignores_presets (presetting (pos 0) false) ≡ at 1 1)
    × (always_absolute.position (begun always_absolute) ≡ at 1 1)
    × (then always_absolute (presetting (pos 1) true) ≡ at 1 1)
    × (then presets_when_faulty (asks 30 0) ≡ at 0 1)
    × (then forgets_link (asks 28 0) ≡ at 0 1)
    × (twice forgets_link (asks 28 0) (asks 28 3) ≡ at 3 1)
    × (then shows_fresh (asks 28 0) ≡ at 0 1)
    × (shows_fresh.lent (shows_fresh.call (begun shows_fresh) (asks 28 0)) (asks 28 3) ≡ 0 ∷ 0 ∷ 0 ∷ 3 ∷ [])
    × (twice forgets_due (asks 28 7) (asks 28 0) ≡ at 1 1)
    × (copies_first.lent (begun copies_first) pass ≡ 3 ∷ 3 ∷ [])
    × (then library (raw_reading 3) ≡ at 2 2)
unfolding ◌modulo◌ in_range big_endian fields_refusal refusal_on plate_refusal rules_of rules_fit inside oriented started difference shorter move_of move_refusal moved_to unshifted position_at shaft_refusal rules_on acceptable axis_refusal unshifted_of position_of reported start_refusal start step_refusal at_raw read_raw_refusal read_raw value_refusal preset_refusal asked presetted preset faulty_at taken_at made axis length_refusal cycle_refusal axis_after input_of cycle cycle_input link_after link input octets first_refusal positions_of batch_refusal batch_list life_of link_refusal within
reports = (refl, refl, refl, refl, refl, refl, refl, refl, refl, refl, refl, refl, refl, refl, refl, refl, refl, refl)

-- the true steps are as supposed
read-4 : Supposed listing 28 (deed listing first (raw_reading 4)).numbers (steady (pos 6))
unfolding Supposed move_refusal difference oriented ◌modulo◌ rules_of
read-4 = (record { small = omega arith; times = pos 1; same = refl }, tt)

read-pass : Supposed listing 28 (deed listing first pass).numbers (steady (pos 6))
unfolding Supposed refusal_in move_refusal difference oriented ◌modulo◌ rules_of
read-pass = (record { small = omega arith; times = pos 1; same = refl }, (record { small = omega arith; times = pos 0; same = refl }, tt))

-- ---- always position 0: at once
pub no-always0 : Claim always0 → ⊥
unfolding Accurate rules_of oriented
no-always0 h = let t = told listing first 0 (h listing there started-there []) in omega arith

-- ---- what no program may report after raw number 4: exact is 10.2, which on the ring of 7 is 3.2
too_far : (p : Program) (x u : ℕ) → Claim p → then p (raw_reading 4) ≡ at x u → x < 3 → ⊥
unfolding with_readings move_refusal difference oriented ◌modulo◌ rules_of
too_far p x u h e lt = let t = told listing (later p (raw_reading 4) (pos 6)) x (rw e at (after p h (raw_reading 4) (pos 6) read-4)) in omega arith

pub no-turns_away : Claim turns_away → ⊥
no-turns_away h = too_far turns_away 1 1 h reports.0 (omega arith)

pub no-claims_half_range : Claim claims_half_range → ⊥
no-claims_half_range h = too_far claims_half_range 1 1 h reports.1 (omega arith)

pub no-ignores_readings : Claim ignores_readings → ⊥
no-ignores_readings h = too_far ignores_readings 1 1 h reports.2 (omega arith)

pub no-scales_afresh : Claim scales_afresh → ⊥
no-scales_afresh h = too_far scales_afresh 1 1 h reports.3 (omega arith)

pub no-wraps_at_c : Claim wraps_at_c → ⊥
no-wraps_at_c h = too_far wraps_at_c 1 1 h reports.4 (omega arith)

pub no-cuts_place : Claim cuts_place → ⊥
no-cuts_place h = too_far cuts_place 2 2 h reports.5 (omega arith)

pub no-adds_rounded : Claim adds_rounded → ⊥
no-adds_rounded h = too_far adds_rounded 2 2 h reports.6 (omega arith)

-- ---- what a program must report after presets to 0 and by 1
put-0 : (p : Program) (x u : ℕ) → Claim p → then p (presetting (pos 0) false) ≡ at x u → x ≡ 0
unfolding Supposed value_refusal in_range rules_of ◌modulo◌
put-0 p x u h e = rw e at (puts p h (presetting (pos 0) false) (pos 0) tt)

put_1 : (p : Program) (x u : ℕ) → Claim p → p.position (begun p) ≡ at 1 1 → then p (presetting (pos 1) true) ≡ at x u → x ≡ 2
unfolding Supposed read_singly value_refusal in_range rules_of ◌modulo◌
put_1 p x u h s e = rw (e, s) at (puts p h (presetting (pos 1) true) (pos 0) tt)

pub no-ignores_presets : Claim ignores_presets → ⊥
no-ignores_presets h = omega (arith, put-0 ignores_presets 1 1 h reports.7)

pub no-always_absolute : Claim always_absolute → ⊥
no-always_absolute h = omega (arith, put_1 always_absolute 1 1 h reports.8 reports.9)

-- ---- a faulty cycle: exact is still 8.4, which on the ring of 7 is 1.4
pub no-presets_when_faulty : Claim presets_when_faulty → ⊥
unfolding Supposed with_readings length_refusal move_refusal rules_of oriented
no-presets_when_faulty h =
    let t = told listing (later presets_when_faulty (asks 30 0) (pos 0)) 0 (rw reports.10 at (after presets_when_faulty h (asks 30 0) (pos 0) tt)) in
    omega arith

-- ---- a preset to 0 is made by a rise, and no other while the bit stays up: exact is still 0
stands-still : (v : ℕ) → Supposed listing 28 (deed listing first (asks 28 v)).numbers (steady (pos 0))
unfolding Supposed length_refusal move_refusal difference oriented ◌modulo◌ rules_of
stands-still v = (record { small = omega arith; times = pos 0; same = refl }, tt)

no_second : (p : Program) (u v : ℕ) → Claim p → then p (asks 28 0) ≡ at 0 u → twice p (asks 28 0) (asks 28 3) ≡ at 3 v → ⊥
unfolding Supposed with_readings length_refusal big_endian move_refusal difference oriented ◌modulo◌ rules_of link_after link
no_second p u v h e f =
    let t = (another p h (asks 28 0) (pos 0) (stands-still 0) (asks 28 3) (pos 0) (stands-still 3)).2 in
    let a = told listing _ 3 (rw (e, f) at t) in
    omega arith

pub no-forgets_link : Claim forgets_link → ⊥
no-forgets_link h = no_second forgets_link 1 1 h reports.11 reports.12

no-input : (p : Program) (u : ℕ) → Claim p → then p (asks 28 0) ≡ at 0 u → p.lent (p.call (begun p) (asks 28 0)) (asks 28 3) ≡ 0 ∷ 0 ∷ 0 ∷ 3 ∷ [] → ⊥
unfolding Supposed with_readings length_refusal big_endian move_refusal difference oriented ◌modulo◌ rules_of link_after link
no-input p u h e f =
    let t = (another p h (asks 28 0) (pos 0) (stands-still 0) (asks 28 3) (pos 0) (stands-still 3)).1 in
    let a = told listing _ 3 (((rw (e, f) at t) refl).class2 refl) in
    omega arith

pub no-shows_fresh : Claim shows_fresh → ⊥
no-shows_fresh h = no-input shows_fresh 1 h reports.13 reports.14

-- ---- a rise with a value of L, and 0 with the bit still up: the preset is made then (request 2)
put-late : (p : Program) (x u : ℕ) → Claim p → twice p (asks 28 7) (asks 28 0) ≡ at x u → x ≡ 0
unfolding Supposed with_readings length_refusal big_endian move_refusal difference oriented ◌modulo◌ rules_of link_after link
put-late p x u h e = rw e at (another p h (asks 28 7) (pos 0) (stands-still 7) (asks 28 0) (pos 0) (stands-still 0)).0

pub no-forgets_due : Claim forgets_due → ⊥
no-forgets_due h = omega (arith, put-late forgets_due 1 1 h reports.15)

-- ---- the second entry of the batch: exact is 12, which on the ring of 7 is 5
second : (p : Program) → Claim p → p.lent (begun p) pass ≡ 3 ∷ 3 ∷ [] → ⊥
unfolding Entries with_readings refusal_in move_refusal difference oriented ◌modulo◌ rules_of
second p h e = let t = told listing _ 3 (rw e at (lent p h pass (pos 6) read-pass)).1.0 in omega arith

pub no-copies_first : Claim copies_first → ⊥
no-copies_first h = second copies_first h reports.16

-- ---- half a unit would be too much to claim: after raw number 3, 5 steps on, exact is 9.9, on the ring 2.9, and the library reports 2
pub no-half : (then library (raw_reading 3) ≡ at 2 2)
    × ((w : ℤ) → 2 * nat_abs (off listing (later library (raw_reading 3) (pos 5)) 2 w) < (force listing).steps.0 → ⊥)
unfolding rules_of with_readings move_refusal difference oriented ◌modulo◌
no-half = (
  reports.17,
  λ w h.
      let z = off listing (later library (raw_reading 3) (pos 5)) 2 w in
      omega (arith, off-is 10 3 7 2 (pos 0) (pos 33) w, abs_is z, apart z, h),
)
