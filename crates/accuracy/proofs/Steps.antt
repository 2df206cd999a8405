-- One call beside a ledger: the state after it matches the ledger after it, a preset puts the position where rule 6 says, and each position in a lent
-- buffer agrees with the ledger at its own moment. One case for each kind of call.
use Rattle.std.specs.Prelude.{◌≡◌, refl, not, List, [], ◌++◌, ℕ, eqb, ℤ, length, Option, None, Some}
use Rattle.std.proofs.Common.{append-nil}
use Rattle.encoder.specs.{Refusal, WrongBuffer, when, answer}
use Rattle.encoder.proofs.{before-none}
use Rattle.sensor.specs.{raw_of}
use Rattle.axis_shaft.specs.{move_refusal, refusal_in}
use Rattle.axis.specs.{rules_on, position_of}
use Rattle.axis.proofs.{Limits, reported-is}
use Rattle.axis_batch.specs.{after, positions_of, batch_list}
use Rattle.cyclic.specs.{input_of}
use Rattle.accuracy.specs.{Call, reading, raw_reading, batching, presetting, storing, cycling, measuring, Device, force, Ledger.Ledger, refusal_by, moves, does, deed}
use Rattle.accuracy.specs.{with_readings, noted, Supposed, Entries, Shown, Lent, read_singly, State, yields, lent_by}
use Rattle.accuracy.proofs.{LimitsKept.Within, LimitsKept.call_kept, Standing.device_of, Standing.ledger_of, Standing.Keeps, Standing.Matches, Standing.onward}
use Rattle.accuracy.proofs.{Standing.stands-moved, Standing.walked, Standing.Done, Presets.puts-by, Presets.stands-preset, Settled.goes, Settled.settled}
use Rattle.accuracy.proofs.{Settled.list-is, Settled.input-is, Settled.input83-is, Cycles.cycle-by, Inputs.shown}

module _ (s : State) (p : ℕ) (g : ℤ) (limits : Within s) (k : Keeps s p g) (m : ℕ → ℤ) where
  abbrev lim : Limits s.axis
  lim = limits.axis

  abbrev d : Device
  d = device_of s.axis

  abbrev l : Ledger
  l = ledger_of s p g

  -- ---- an accepted call
  batch-done : (raws positions : List ℕ) → refusal_by d l (batching raws positions) ≡ None → Supposed d l.last raws m
      → Matches d (onward s (after s.axis raws)) (with_readings l raws m) × Entries d l raws m (positions_of s.axis raws)
  batch-done raws positions e h =
      let lengths = when (not (eqb (length raws) (length positions))) WrongBuffer in
      walked s p g raws m lim k (before-none lengths (refusal_in (force d) l.last raws) e).1 h

  taken : (c : Call) → refusal_by d l c ≡ None → Supposed d l.last (does d l c).numbers m → Done s l m (does d l c) (goes s c)
  unfolding Supposed with_readings read_singly rules_on
  taken (reading step turn) e h = record { stands = stands-moved s p g lim k (raw_of s.axis.nameplate step turn) m h.0; puts = tt }
  taken (raw_reading raw) e h = record { stands = stands-moved s p g lim k raw m h.0; puts = tt }
  taken (batching raws positions) e h = record { stands = (batch-done raws positions e h).0; puts = tt }
  taken (presetting v relative) e h =
      record { stands = stands-preset s p g lim v relative; puts = rw (reported-is s.axis lim) (puts-by s p g lim v relative) }
  taken (storing v) e h = record { stands = record { device = refl; ledger = refl; kept = k }; puts = tt }
  taken (cycling raw output input) e h = cycle-by s p g lim k raw output m (move_refusal (force d) l.last raw) refl h
  taken (measuring raw elapsed output input) e h = cycle-by s p g lim k raw output m (move_refusal (force d) l.last raw) refl h

  -- ---- a refused call does nothing
  by_refusal : (c : Call) (n : Option Refusal) → refusal_by d l c ≡ n → Supposed d l.last (answer (λ (i : Refusal). moves l []) (does d l c) n).numbers m
      → Done s l m (answer (λ (i : Refusal). moves l []) (does d l c) n) (answer (λ (i : Refusal). s) (goes s c) n)
  unfolding with_readings
  by_refusal c None e h = taken c e h
  by_refusal c (Some r) e h = record { stands = record { device = refl; ledger = refl; kept = k }; puts = tt }

  pub done : (c : Call) → Supposed d l.last (deed d l c).numbers m → Done s l m (deed d l c) (yields s c)
  done c h = rw (settled s p g limits c) (by_refusal c (refusal_by d l c) refl h)

  -- ---- the lent buffers
  entries_by : (raws positions : List ℕ) (n : Option Refusal) → refusal_by d l (batching raws positions) ≡ n
      → Supposed d l.last (answer (λ (i : Refusal). moves l []) (moves l raws) n).numbers m
      → Entries d l (answer (λ (i : Refusal). moves l []) (moves l raws) n).numbers m (batch_list s.axis raws positions)
  unfolding Entries
  entries_by raws positions None e h = rw (list-is s p g limits raws positions e) (batch-done raws positions e h).1
  entries_by raws positions (Some r) e h = tt

  -- in the input of a cycle, by the state after it
  shows : (c : Call) → Supposed d l.last (deed d l c).numbers m → (output more : List ℕ) → let b = yields s c in
      Shown d (noted l (deed d l c) m (position_of b.axis)) (input_of b.link b.axis output ++ more)
  shows c h output more =
      let t = (done c h).stands in
      rw (t.device, t.ledger) at (shown (yields s c) _ _ (call_kept s c limits).axis t.kept output more)

  pub lent : (c : Call) → Supposed d l.last (deed d l c).numbers m
      → Lent d l c m (noted l (deed d l c) m (position_of (yields s c).axis)) (lent_by s c)
  lent (reading step turn) h = tt
  lent (raw_reading raw) h = tt
  lent (batching raws positions) h = entries_by raws positions (refusal_by d l (batching raws positions)) refl h
  lent (presetting v relative) h = tt
  lent (storing v) h = tt
  lent (cycling raw output input) h =
      λ e. rw (input-is s p g limits raw output input e) (rw append-nil at (shows (cycling raw output input) h output []))
  lent (measuring raw elapsed output input) h =
      λ e. rw (input83-is s p g limits raw elapsed output input e) (shows (measuring raw elapsed output input) h output _)
