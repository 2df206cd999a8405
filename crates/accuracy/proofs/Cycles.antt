-- A cycle beside a ledger. A faulty cycle moves nothing and makes no preset. Any other accepts the raw number and then makes the preset, if the ledger
-- says that one is made. What the ledger says is due after it, the link says too.
use Rattle.std.specs.Prelude.{◌≡◌, refl, Bool, true, false, cond, not, ◌&&◌, List, ℕ, ℤ, ◌+ℤ◌, Option, None, Some, is_none}
use Rattle.std.specs.Bool.{then_some}
use Rattle.std.proofs.Common.{◌∙◌}
use Rattle.std.proofs.Math.Bool.{and-true}
use Rattle.axis_shaft.specs.{move_refusal, moved_to}
use Rattle.encoder.specs.{Refusal}
use Rattle.axis.specs.{rules_on, position_of, at_raw}
use Rattle.axis.proofs.{Limits, singly, reported-is, raw-kept}
use Rattle.cyclic_link.specs.{Link, Preset as Reacted, Class2.made as made2, Class2.link as link2, Class4.asked as asked4, held, Class4.made as made4, Class4.link as link4, Classes.reaction}
use Rattle.cyclic_link.proofs.{heard-requested, heard-due}
use Rattle.cyclic.specs.{faulty_at, taken_at, preset_by, word_of, counted, sign, heard_in, stopped_in, class4, life, control_by, link_after}
use Rattle.cyclic.proofs.{after_is}
use Rattle.accuracy.specs.{Ledger.Preset, none, made, Deed, due2, rises, preset2, preset4, cycle_preset, unmade, due_after, with_due, exchanged_by, with_readings, put, Supposed, Rule6, read_singly, State}
use Rattle.accuracy.proofs.{Standing.device_of, Standing.ledger_of, Standing.Keeps, Standing.Matches, Standing.onward, Standing.stands-moved, Standing.Done}
use Rattle.accuracy.proofs.{Presets.puts-by, Presets.stands-preset, Settled.left}
use mathlib.{Core.Bool.and-false}

-- ---- whether a preset is made: the link's test is the ledger's, and a faulty cycle makes none
abbrev reacts : State → List ℕ → Bool → Bool → Option Reacted
reacts s output faulty class =
    (reaction class (life s.axis.parameters) (rules_on s.axis) s.link faulty (control_by class output) s.axis.stored).preset

-- the preset that a cycle makes, as the ledger says it
abbrev told_by : Option Reacted → Preset
told_by None = none
told_by (Some o) = made o.value o.relative

then-made : (b : Bool) (o : Reacted) → cond b (made o.value o.relative) none ≡ told_by (then_some b o)
then-made true o = refl
then-made false o = refl

then-none : (b : Bool) (o : Reacted) → b ≡ false → then_some b o ≡ None
then-none b o e = rw e

then-not : (b : Bool) (o : Reacted) → is_none (then_some b o) ≡ not b
then-not true o = refl
then-not false o = refl

module _ (s : State) (output : List ℕ) where
  -- the link once this cycle is counted, and whether its counter stands at its stop
  abbrev now : Link
  now = heard_in (life s.axis.parameters) s.link output

  abbrev stopped : Bool
  stopped = stopped_in (life s.axis.parameters) s.link output

  same : (p : ℕ) (g : ℤ) (class : Bool) → let o = reacts s output false class in
      cond class (preset4 (device_of s.axis) (ledger_of s p g) output) (preset2 (device_of s.axis) (ledger_of s p g) (word_of output))
      ≡ told_by o
  unfolding made2 made4 rules_on
  same p g true =
      rw (heard-requested (life s.axis.parameters) s.link (sign output), and-true (rises (device_of s.axis) (ledger_of s p g) (asked4 (counted output)) && not (held now stopped false (counted output))))
      (then-made _ _)
  same p g false = rw (and-true (due2 s.link (word_of output) && (rules_on s.axis).enabled)) (then-made _ _)

  passed : (class : Bool) → reacts s output true class ≡ None
  unfolding made2 made4
  passed true =
      then-none _ _ (and-false (not now.requested && asked4 (counted output) && (rules_on s.axis).enabled && not (held now stopped true (counted output))))
  passed false = rw (and-false (due2 s.link (word_of output) && (rules_on s.axis).enabled))

  -- what is due after it: the ledger's rule is the link's
  due-by : (faulty : Bool) (o : Preset) (class : Bool) → unmade o ≡ is_none (reacts s output faulty class)
      → let j = cond class (link4 (rules_on s.axis) now stopped faulty (counted output)) (link2 (rules_on s.axis) s.link faulty (word_of output)) in
      with_due j (due_after class s.link output o) ≡ j
  unfolding link2 link4
  due-by faulty o true e = rw (heard-due (life s.axis.parameters) s.link (sign output))
  due-by faulty o false e = let f = e ∙ then-not _ _ in rw f

  link-is : (faulty : Bool) (o : Preset) → let class = class4 s.axis.parameters in unmade o ≡ is_none (reacts s output faulty class)
      → let j = link_after (rules_on s.axis) s.axis.parameters s.link faulty output in
      with_due j (due_after class s.link output o) ≡ j
  unfolding link_after
  link-is faulty o e = due-by faulty o (class4 s.axis.parameters) e

unmade-by : (o : Option Reacted) → unmade (told_by o) ≡ is_none o
unmade-by (Some o) = refl
unmade-by None = refl

-- ---- the preset of a cycle, by whether it is made
preset-by : (s : State) (p : ℕ) (g : ℤ) → Limits s.axis → Keeps s p g → (o : Option Reacted) → let b = preset_by s.axis o in
    Matches (device_of s.axis) (onward s b) (put (told_by o) (ledger_of s p g) (position_of b))
    × Rule6 (device_of s.axis) (told_by o) (position_of s.axis) (position_of b)
preset-by s p g lim k (Some o) = (stands-preset s p g lim o.value o.relative, puts-by s p g lim o.value o.relative)
preset-by s p g lim k None = (record { device = refl; ledger = refl; kept = k }, tt)

-- ---- the cycle, by what would refuse its raw number
module _ (s : State) (p : ℕ) (g : ℤ) (lim : Limits s.axis) (k : Keeps s p g) (raw : ℕ) (output : List ℕ) (m : ℕ → ℤ) where
  abbrev deed_by : Option Refusal → Deed
  deed_by n = exchanged_by (device_of s.axis) (ledger_of s p g) raw output n

  pub cycle-by : (n : Option Refusal) → move_refusal (rules_on s.axis) s.axis.shaft.last.0 raw ≡ n
      → Supposed (device_of s.axis) s.axis.shaft.last.0 (deed_by n).numbers m → Done s (ledger_of s p g) m (deed_by n) (left s raw output)
  unfolding Supposed with_readings read_singly faulty_at taken_at at_raw moved_to rules_on
  cycle-by None e h =
      let a = s.axis in
      let class = class4 a.parameters in
      let t = singly a lim raw None e in
      let b-limits : Limits (at_raw a raw) = rw t at (raw-kept a lim raw) in
      let j = link_after (rules_on a) a.parameters s.link false output in
      let o = reacts s output false class in
      let b-kept = (stands-moved (record { axis = a; link = j }) p g lim k raw m h.0).kept in
      let x = preset-by (record { axis = at_raw a raw; link = j }) p (g +ℤ m 0) b-limits b-kept o in
      let asked = cycle_preset (device_of a) (ledger_of s p g) output in
      let made-is : unmade asked ≡ is_none o = rw (same s output p g class) (unmade-by o) in
      rw (after_is a s.link raw output, taken_at, faulty_at, t, link-is s output false asked made-is, same s output p g class)
      (record { stands = x.0; puts = rw (t, reported-is (at_raw a raw) b-limits) x.1 })
  cycle-by (Some r) e h =
      let a = s.axis in
      let t = singly a lim raw (Some r) e in
      let none_made = passed s output (class4 a.parameters) in
      rw (after_is a s.link raw output, taken_at, faulty_at, t, link-is s output true none (rw none_made), none_made)
      (record { stands = record { device = refl; ledger = refl; kept = k }; puts = tt })
