-- The ledger's table is that of the calls: an axis and a link within their limits do not get 16, and each call answers the refusal that the ledger works out from
-- the arguments; at 0 it goes where its rule says.
use Rattle.std.specs.Prelude.{◌≡◌, refl, List, ◌++◌, ℕ, ℤ, Option, None, Some}
use Rattle.integer.specs.{octets}
use Rattle.ring.specs.{complement}
use Rattle.encoder.specs.{Refusal, answer}
use Rattle.sensor.specs.{raw_of}
use Rattle.axis_shaft.specs.{shaft_refusal}
use Rattle.axis_shaft.proofs.{read-refusal}
use Rattle.axis.specs.{Axis, rules_on, accepted, refused, next, at_raw, read_raw_refusal, read_raw, read_refusal, read, preset_refusal, presetted, preset, holding, store}
use Rattle.axis.proofs.{Limits, limits-none}
use Rattle.axis_batch.specs.{after, positions_of, batch_refusal, batch, batch_list}
use Rattle.axis_batch.proofs.{first-is}
use Rattle.cyclic_link.specs.{link_refusal}
use Rattle.cyclic.specs.{life, cycle_refusal, link_left, axis_after, input_of, done, refused as kept, cycle, cycle_input, nist_b, input83, cycle83_refusal, cycle83}
use Rattle.cyclic.specs.{cycle83_input}
use Rattle.accuracy.specs.{Call, reading, raw_reading, batching, presetting, storing, cycling, measuring, refusal_by, State, to, both, yields}
use Rattle.accuracy.proofs.{LimitsKept.Within, Standing.device_of, Standing.ledger_of, Standing.onward}

-- the state after an accepted cycle of either telegram, and after any accepted call
abbrev pub left : State → ℕ → List ℕ → State
left s raw output = record { axis = axis_after s.axis s.link raw output; link = link_left s.axis s.link raw output }

abbrev pub goes : State → Call → State
goes s (reading step turn) = onward s (at_raw s.axis (raw_of s.axis.nameplate step turn))
goes s (raw_reading raw) = onward s (at_raw s.axis raw)
goes s (batching raws positions) = onward s (after s.axis raws)
goes s (presetting v relative) = onward s (presetted s.axis v relative)
goes s (storing v) = onward s (holding s.axis v)
goes s (cycling raw output input) = left s raw output
goes s (measuring raw elapsed output input) = left s raw output

-- a function of an answer is an answer by the same refusal
through : {A B : Type 0} (f : A → B) (r : Refusal → A) (t : A) (n : Option Refusal) → f (answer r t n) ≡ answer (λ (i : Refusal). f (r i)) (f t) n
through f r t None = refl
through f r t (Some i) = refl

module _ (s : State) (p : ℕ) (g : ℤ) (limits : Within s) where
  abbrev lim : Limits s.axis
  lim = limits.axis

  link-none : link_refusal (life s.axis.parameters) s.link ≡ None
  unfolding link_refusal
  link-none = rw limits.link

  abbrev due : Call → Option Refusal
  due c = refusal_by (device_of s.axis) (ledger_of s p g) c

  read_is : (raw : ℕ) → shaft_refusal (rules_on s.axis) s.axis.shaft raw ≡ due (raw_reading raw)
  unfolding rules_on
  read_is raw = read-refusal (rules_on s.axis) s.axis.shaft lim.shaft raw

  batch-is : (raws positions : List ℕ) → batch_refusal s.axis raws positions ≡ due (batching raws positions)
  unfolding batch_refusal rules_on
  batch-is raws positions = rw (limits-none s.axis lim, first-is s.axis raws lim)

  cycle-is : (raw : ℕ) (output input : List ℕ) → cycle_refusal s.axis s.link output input ≡ due (cycling raw output input)
  unfolding cycle_refusal
  cycle-is raw output input = rw (limits-none s.axis lim, link-none)

  cycle83-is : (raw elapsed : ℕ) (output input : List ℕ) → cycle83_refusal s.axis s.link elapsed output input ≡ due (measuring raw elapsed output input)
  unfolding cycle83_refusal
  cycle83-is raw elapsed output input = rw (limits-none s.axis lim, link-none)

  by_next : (n : Option Refusal) (b : Axis) → to s (next s.axis n b) ≡ answer (λ (i : Refusal). s) (onward s b) n
  by_next n b = through (to s) (refused s.axis) (accepted b) n

  pub settled : (c : Call) → yields s c ≡ answer (λ (i : Refusal). s) (goes s c) (due c)
  unfolding read read_refusal read_raw read_raw_refusal batch preset store preset_refusal cycle cycle83 rules_on
  settled (reading step turn) = rw (limits-none s.axis lim, read_is (raw_of s.axis.nameplate step turn)) (by_next (due (reading step turn)) _)
  settled (raw_reading raw) = rw (limits-none s.axis lim, read_is raw) (by_next (due (raw_reading raw)) _)
  settled (batching raws positions) = rw (batch-is raws positions) (by_next (due (batching raws positions)) _)
  settled (presetting v relative) = rw (limits-none s.axis lim) (by_next (due (presetting v relative)) _)
  settled (storing v) = rw (limits-none s.axis lim) (by_next (due (storing v)) _)
  settled (cycling raw output input) =
      rw (cycle-is raw output input) (through both (kept s.axis s.link) (done _ _) (due (cycling raw output input)))
  settled (measuring raw elapsed output input) =
      rw (cycle83-is raw elapsed output input) (through both (kept s.axis s.link) (done _ _) (due (measuring raw elapsed output input)))

  -- the lent buffers of accepted calls
  pub list-is : (raws positions : List ℕ) → due (batching raws positions) ≡ None → batch_list s.axis raws positions ≡ positions_of s.axis raws
  unfolding batch_list
  list-is raws positions e = rw (batch-is raws positions, e)

  pub input-is : (raw : ℕ) (output input : List ℕ) → due (cycling raw output input) ≡ None → let b = yields s (cycling raw output input) in
      cycle_input s.axis s.link raw output input ≡ input_of b.link b.axis output
  unfolding cycle_input cycle
  input-is raw output input e = rw (cycle-is raw output input, e)

  pub input83-is : (raw elapsed : ℕ) (output input : List ℕ) → due (measuring raw elapsed output input) ≡ None → let b = yields s (measuring raw elapsed output input) in
      cycle83_input s.axis s.link raw elapsed output input
      ≡ input_of b.link b.axis output ++ octets 4 (complement (nist_b s.axis raw elapsed))
  unfolding cycle83_input cycle83 input83
  input83-is raw elapsed output input e = rw (cycle83-is raw elapsed output input, e)
