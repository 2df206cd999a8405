-- THE THEOREM for C (document 01, "The distance rule"): what is claimed of every function in specs/Exported.antt holds of encoder_batch. A start and a
-- batch after it are one list of calls, and the accuracy theorem holds of every list. The answer is the table's, since an axis that was started is
-- within its limits.
use Rattle.std.specs.Prelude.{◌≡◌, refl, not, List, [], ◌∷◌, ℕ, suc, Option, None, Some, eqb, ℤ, length}
use Rattle.std.proofs.Common.{sym, ap, ◌∙◌}
use Rattle.encoder.specs.{Refusal, WrongBuffer, coded, when, ◌before◌, plate_refusal}
use Rattle.encoder.proofs.{before-assoc, before-none, coded-none}
use Rattle.axis_shaft.specs.{started}
use Rattle.axis.specs.{Axis, Next, rules_on, next, fresh, read_raw, start_raw}
use Rattle.axis.proofs.{limits_of, limits-none, raw-started-kept}
use Rattle.axis_batch.specs.{positions_of, batch_refusal, batch, batch_list}
use Rattle.axis_batch.proofs.{first-is}
use Rattle.accuracy.specs.{first_number, Call, batching, Device, force, Ledger.Ledger, start_by, opened, refusal_by, Event, Supposed, Entries, Accurate}
use Rattle.accuracy.proofs.{accuracy}
use Rattle.exports.specs.{run_refusal, ran}
use Rattle.exports_accuracy.specs.{device, encoder_batch, Claim}

refusal_of : (a b : Axis) (k : Option Refusal) → (next a k b).refusal ≡ k
refusal_of a b None = refl
refusal_of a b (Some r) = refl

-- what comes after a refusal does not matter
before_same : (k x y : Option Refusal) → (k ≡ None → x ≡ y) → (k before x) ≡ (k before y)
before_same None x y h = h refl
before_same (Some r) x y h = refl

positions-length : (a : Axis) (raws : List ℕ) → length (positions_of a raws) ≡ length raws
unfolding positions_of
positions-length a [] = refl
positions-length a (raw ∷ raws) = ap suc (positions-length (read_raw a raw).axis raws)

module _ (d : Device) (first : ℕ) (raws positions : List ℕ) where
  abbrev begun : Next
  begun = start_raw d.plate d.parameters first

  -- the ledger, the call beside it, and the table's refusals in their order
  abbrev ledger : Ledger
  ledger = opened d first

  abbrev call : Call
  call = batching raws positions

  abbrev plate : Option Refusal
  plate = plate_refusal d.plate

  abbrev lengths : Option Refusal
  lengths = when (not (eqb (length raws) (length positions))) WrongBuffer

  abbrev start : Option Refusal
  start = start_by d (first_number first)

  -- ---- the answer
  start_is : begun.refusal ≡ start
  unfolding start_raw
  start_is = refusal_of _ _ start

  module _ (none : start ≡ None) where
    axis-is : begun.axis ≡ fresh d.plate d.parameters (started (force d) first)
    unfolding start_raw
    axis-is = rw none

    batch-is : batch_refusal begun.axis raws positions ≡ refusal_by d ledger call
    unfolding batch_refusal rules_on started
    batch-is =
        let lim = limits_of begun.axis (raw-started-kept d.plate d.parameters first (start_is ∙ none)) in
        rw (limits-none begun.axis lim, first-is begun.axis raws lim, axis-is)

  answer-is : run_refusal d.plate d.parameters first raws positions ≡ (plate before lengths before start before refusal_by d ledger call)
  unfolding run_refusal batch
  answer-is =
      before-assoc plate _ _ ∙ ap (λ (k : Option Refusal). plate before k) (before-assoc lengths _ _)
      ∙ ap (λ (k : Option Refusal). plate before lengths before k)
      (rw start_is (before_same start _ _ (λ none. refusal_of begun.axis _ (batch_refusal begun.axis raws positions) ∙ batch-is none)))

  -- ---- the list
  module _ (none : run_refusal d.plate d.parameters first raws positions ≡ None) where
    taken : (start ≡ None) × (refusal_by d ledger call ≡ None)
    taken = before-none start _ (before-none lengths _ (before-none plate _ (sym answer-is ∙ none)).1).1

    list-is : ran d.plate d.parameters first raws positions ≡ batch_list begun.axis raws positions
    unfolding ran
    list-is = rw none

    list_length : length (ran d.plate d.parameters first raws positions) ≡ length raws
    unfolding batch_list
    list_length = rw (list-is, batch-is taken.0 ∙ taken.1) (positions-length begun.axis raws)

    entries : (m : ℕ → ℤ) → Supposed d first raws m → Entries d ledger raws m (ran d.plate d.parameters first raws positions)
    unfolding Accurate
    entries m h =
        let event : Event = record { call = call; steps = m } in
        let e = taken.1 in
        rw list-is (rw e at ((accuracy d (first_number first) taken.0 (event ∷ [])).1 (rw e h)).1)

pub exported : Claim encoder_batch
exported c =
    let d = device c in (
      ap coded (answer-is d c.first c.raws c.positions),
      λ zero m h.
          let none = coded-none _ zero in
          (list_length d c.first c.raws c.positions none, entries d c.first c.raws c.positions none m h),
    )
