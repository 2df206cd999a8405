-- A reading and a preset on a started axis. The axis is within its limits and its last raw number is the ledger's, so that a call gets the table's
-- refusal. Where the table takes the call, the library's run makes the same call and goes on beside the ledger after it.
use Rattle.std.specs.Prelude.{◌≡◌, refl, Bool, true, false, not, List, [], ◌∷◌, ℕ, ℤ, Option, None, Some, Result, Ok, Err}
use Rattle.std.proofs.Common.{ap, ◌∙◌}
use Rattle.integer.specs.{◌modulo◌}
use Rattle.encoder.specs.{Refusal, NoAxis, when, ◌before◌, answer}
use Rattle.axis_shaft.specs.{Reported, move_refusal, moved_to}
use Rattle.axis_offset.specs.{value_refusal}
use Rattle.axis.specs.{Axis, rules_on, acceptable, axis_refusal, positions_of, reported, next, at_raw, read_raw, preset_refusal, presetted, preset as preset_on}
use Rattle.axis.proofs.{Limits, limits_of, limits-none, singly}
use Rattle.accuracy.specs.{Call, raw_reading, presetting, Device, force, Ledger.Ledger, refusal_by, made, does, with_readings, put, noted, Event, TrueSteps, Supposed}
use Rattle.accuracy.specs.{number, Reports, Rule6, read_singly, Accurate, yields, library}
use Rattle.axislog_forms.specs.{Read, Preset}
use Rattle.axislog_state.specs.{Started, State, position_answer, position, taken, after}
use Rattle.axislog_accuracy.specs.{kept, reading, preset, due, told, Moves}
use Rattle.axislog_accuracy.proofs.Beside.{run, Going, now, Done, stands, by_next}

-- the position printed is the one reported
told_is : (q : Result Reported Refusal) → told (position q) ≡ number q
told_is (Ok p) = refl
told_is (Err r) = refl

module _ (d : Device) (l : Ledger) (a : Axis) (g : Going d l a) where
  -- ---- a position is reported, so that the axis is within its limits
  limits : Limits a
  unfolding reported axis_refusal
  limits = limits_of a (go (acceptable a) (now d l a g))
    where
      go : (b : Bool) → Reports d l (answer Err (Ok (positions_of a)) (when (not b) NoAxis)) → b ≡ true
      go true h = refl
      go false h = absurd h

  -- the table's refusal is the axis' own
  read_is : (raw : ℕ) → read_raw a raw ≡ next a (refusal_by d l (raw_reading raw)) (at_raw a raw)
  unfolding rules_on
  read_is raw =
      singly a limits raw (refusal_by d l (raw_reading raw))
      (ap (λ (k : Device). move_refusal (force k) a.shaft.last.0 raw) g.is ∙ ap (λ (n : ℕ). move_refusal (force d) n raw) g.last)

  preset-is : (v : ℤ) → preset_on a v false ≡ next a (refusal_by d l (presetting v false)) (presetted a v false)
  unfolding preset_on preset_refusal rules_on
  preset-is v =
      ap (λ (n : Option Refusal). next a (n before value_refusal (rules_on a) v) (presetted a v false)) (limits-none a limits)
      ∙ ap (λ (k : Device). next a (value_refusal (force k) v) (presetted a v false)) g.is

  module _ (m : ℤ) where
    -- ---- a call that the table takes, and that leaves axis b
    module _ (c : Call) (b : Axis) (z : refusal_by d l c ≡ None) (y : yields (run a) c ≡ run b) (h : Supposed d l.last (does d l c).numbers (λ i. m)) where
      abbrev event : Event
      event = record { call = c; steps = λ i. m }

      goes_on : (es : List Event) → Accurate d library (run b) (noted l (does d l c) (λ i. m) (number (reported b))) es
      unfolding Accurate
      goes_on es = rw (z, y) at ((g.accurate (event ∷ es)).1 (rw z h)).2

      puts : Rule6 d (does d l c).preset (number (reported (read_singly library (run a) (does d l c).numbers).axis)) (number (reported b))
      unfolding Accurate
      puts = rw (z, y) at ((g.accurate (event ∷ [])).1 (rw z h)).0

    abbrev started_state : State
    started_state = record { stage = Started; axis = a }

    -- ---- a reading
    read_goes : (raw : ℕ) → refusal_by d l (raw_reading raw) ≡ None → TrueSteps d l.last raw m → Going d (with_readings l (raw ∷ []) (λ i. m)) (at_raw a raw)
    unfolding Supposed with_readings at_raw moved_to
    read_goes raw z h =
        record { is = g.is; last = refl; accurate = goes_on (raw_reading raw) (at_raw a raw) z (rw (read_is raw, z)) (h, tt) }

    pub read_done : (raw : ℕ) → Moves (due (Some (Read raw)) (kept d l)) m → Done (due (Some (Read raw)) (kept d l)) (kept d l) m (after started_state (read_raw a raw))
    read_done raw h =
        rw (read_is raw)
        (by_next started_state (kept d l) (refl, g) m (reading d l raw) a (at_raw a raw) (refusal_by d l (raw_reading raw))
        (λ z. stands d (with_readings l (raw ∷ []) (λ i. m)) (at_raw a raw) (read_goes raw z (rw z at h))))

    -- ---- a preset: it accepts no raw number
    module _ (v : ℤ) (z : refusal_by d l (presetting v false) ≡ None) where
      abbrev to : Axis
      to = presetted a v false

      preset-yields : yields (run a) (presetting v false) ≡ run to
      preset-yields = rw (preset-is v, z)

      preset-goes : Going d (put (made v false) l (number (reported to))) to
      unfolding Supposed with_readings presetted
      preset-goes = record { is = g.is; last = g.last; accurate = goes_on (presetting v false) to z preset-yields tt }

      lands : number (reported to) ≡ v modulo (force d).span.0
      unfolding Supposed
      lands = puts (presetting v false) to z preset-yields tt

      preset-taken : Done (preset d l v) (kept d l) m (taken to)
      unfolding position_answer
      preset-taken =
          let t = stands d (put (made v false) l (number (reported to))) to preset-goes in
          rw (told_is (reported to)) ((t.0, lands), t.1)

    pub preset-done : (v : ℤ) → Done (due (Some (Preset v)) (kept d l)) (kept d l) m (after started_state (preset_on a v false))
    preset-done v =
        rw (preset-is v)
        (by_next started_state (kept d l) (refl, g) m (preset d l v) a (presetted a v false) (refusal_by d l (presetting v false)) (preset-taken v))
