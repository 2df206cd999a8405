-- Worthless log programs break the claim, each on three lines of document 01's listing: where a position is due, none is printed, or no whole number
-- of ranges brings it within a unit of the exact one, or after a preset it is not the one that rule 6 gives.
use Rattle.std.specs.Prelude.{◌≡◌, refl, List, [], ◌∷◌, ℕ, pos}
use Rattle.std.proofs.Common.{arith}
use Rattle.integer.specs.{◌modulo◌}
use Rattle.ring.specs.{in_range}
use Rattle.encoder.specs.{plate_refusal, fields_refusal, refusal_on, rules_of, rules_fit}
use Rattle.axis_shaft.specs.{inside, oriented, started, unshifted}
use Rattle.axis_offset.specs.{value_refusal}
use Rattle.axis.specs.{rules_on, acceptable, axis_refusal, unshifted_of, reported, start_raw_refusal, start_raw, preset_refusal, asked, presetted, preset as preset_on}
use Rattle.accuracy.specs.{opened, listing}
use Rattle.accuracy.proofs.{told as apart}
use Rattle.axislog_lexer.specs.{past, ends, digit_of, digits, number, labelled, last}
use Rattle.axislog_forms.specs.{read, preset, scale, sequence, axis, form}
use Rattle.axislog_answers.specs.{At}
use Rattle.axislog_state.specs.{unstarted, position_answer, after, set_up, read as read_by, preset as preset_by, reply}
use Rattle.axislog_accuracy.specs.{Program, Heard, kept, told, Locates, Printed, Claim, refuses_all, always0, ignores_presets, setup, read28, preset0}

-- ---- the log: (axis ..), (read 28), (preset 0). The shaft need not move
abbrev heard : List ℕ → Heard
heard line = record { line = line; steps = pos 0 }

module _ (p : Program) where
  abbrev ready : p.State
  ready = p.after p.empty setup

  abbrev standing : p.State
  standing = p.after ready read28

  -- what the claim asks: after (read 28) a position that agrees with the ledger, after (preset 0) position 0
  asks : Claim p → Locates (kept listing (opened listing 28)) (p.answer ready read28) × (told (p.answer standing preset0) ≡ 0)
  unfolding Printed form axis sequence scale read preset past ends digit_of digits number labelled last refusal_on plate_refusal fields_refusal start_raw_refusal value_refusal in_range rules_of ◌modulo◌
  asks claim = let t = (claim (heard setup ∷ heard read28 ∷ heard preset0 ∷ []) tt).1 tt in (t.0, (t.1 tt).0.1)

-- what is printed, computed
prints : (always0.answer (ready always0) read28 ≡ At 0) × (ignores_presets.answer (standing ignores_presets) preset0 ≡ At 1)
unfolding form axis sequence scale read preset past ends digit_of digits number labelled last reply set_up read_by preset_by unstarted after position_answer refusal_on plate_refusal fields_refusal start_raw_refusal start_raw value_refusal in_range rules_of rules_fit inside oriented started unshifted rules_on acceptable axis_refusal unshifted_of reported preset_refusal asked presetted preset_on ◌modulo◌
prints = (refl, refl)

-- ---- refuses every line: (read 28) is due a position
pub no-refuses_all : Claim refuses_all → ⊥
no-refuses_all claim = (asks refuses_all claim).0

-- ---- always position 0: exact is 8.4, which on the ring of 7 is 1.4
pub no-always0 : Claim always0 → ⊥
unfolding rules_of oriented
no-always0 claim = let t = apart listing (opened listing 28) 0 (rw prints.0 at (asks always0 claim).0) in omega arith

-- ---- ignores presets: 1 after (preset 0)
pub no-ignores_presets : Claim ignores_presets → ⊥
no-ignores_presets claim = omega (arith, rw prints.1 at (asks ignores_presets claim).1)
