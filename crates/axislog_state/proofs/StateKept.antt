-- The axis of a log stays within its limits: after any lines a started axis is acceptable, so that a call on it never gets 16, and a call that is
-- taken is answered with the position. Call by call, by the laws of axis.
use Rattle.std.specs.Prelude.{◌≡◌, refl, List, [], ◌∷◌, true, false, ℕ, ℤ, Option, Some, None}
use Rattle.std.proofs.Common.{arith}
use Rattle.encoder.specs.{Refusal, answer, refusal_on}
use Rattle.axis.specs.{Axis, Next, acceptable, axis_refusal, position_of, reported, start_raw, read_raw, preset as preset_on}
use Rattle.axis.proofs.{limits_of, accepts, raw-kept, preset-kept, raw-started-kept}
use Rattle.axislog_forms.specs.{Setup, Form, Axis as AxisForm, Read, Preset, form}
use Rattle.axislog_answers.specs.{At}
use Rattle.axislog_state.specs.{Stage, NoAxis, Waiting, Started, State, Reply, plate_of, parameters_of, unstarted, empty, position_answer, refused, taken, after}
use Rattle.axislog_state.specs.{ready, set_up, read_at, read, preset_at, preset, reply}

-- a started axis is within its limits
abbrev pub Kept : State → Type 0
Kept s = s.stage ≡ Started → acceptable s.axis ≡ true

-- ---- a reply by its refusal
by_refusal : (s : State) (r : Reply) (n : Option Refusal) → Kept s → (n ≡ None → Kept r.state) → Kept (answer (refused s) r n).state
by_refusal s r None k h = h refl
by_refusal s r (Some e) k h = k

after_kept : (s : State) (x : Next) → Kept s → (x.refusal ≡ None → acceptable x.axis ≡ true) → Kept (after s x).state
unfolding after
after_kept s x k h = by_refusal s (taken x.axis) x.refusal k (λ z e. h z)

-- ---- each form
unstarted-kept : (g : Stage) (f : Setup) → (g ≡ Started → ⊥) → Kept (unstarted g f)
unfolding unstarted
unstarted-kept g f h e = absurd (h e)

read_kept : (g : Stage) (s : State) (raw : ℕ) → s.stage ≡ g → Kept s → Kept (read_at g s raw).state
read_kept NoAxis s raw e k = k
read_kept Waiting s raw e k = after_kept s (start_raw s.axis.nameplate s.axis.parameters raw) k (λ z. raw-started-kept _ _ _ z)
read_kept Started s raw e k = after_kept s (read_raw s.axis raw) k (λ z. accepts _ (raw-kept s.axis (limits_of s.axis (k e)) raw))

preset-at-kept : (g : Stage) (s : State) (v : ℤ) → s.stage ≡ g → Kept s → Kept (preset_at g s v).state
preset-at-kept NoAxis s v e k = k
preset-at-kept Waiting s v e k = k
preset-at-kept Started s v e k =
    after_kept s (preset_on s.axis v false) k (λ z. accepts _ (preset-kept s.axis (limits_of s.axis (k e)) v false))

reply-kept : (s : State) (f : Option Form) → Kept s → Kept (reply s f).state
unfolding reply set_up read preset
reply-kept s (Some (AxisForm f)) k = by_refusal s (ready f) (refusal_on (plate_of f) (parameters_of f)) k (λ z. unstarted-kept Waiting f (λ e. let z : ◌≡◌ {A = ℕ} 0 1 = cc in omega arith))
reply-kept s (Some (Read raw)) k = read_kept s.stage s raw refl k
reply-kept s (Some (Preset v)) k = preset-at-kept s.stage s v refl k
reply-kept s None k = k

-- ---- any lines
abbrev pub after_lines : State → List (List ℕ) → State
after_lines s [] = s
after_lines s (l ∷ ls) = after_lines (reply s (form l)).state ls

lines-kept : (s : State) (ls : List (List ℕ)) → Kept s → Kept (after_lines s ls)
lines-kept s [] k = k
lines-kept s (l ∷ ls) k = lines-kept (reply s (form l)).state ls (reply-kept s (form l) k)

pub log-kept : (ls : List (List ℕ)) → Kept (after_lines empty ls)
log-kept ls = lines-kept empty ls (unstarted-kept NoAxis _ (λ e. let z : ◌≡◌ {A = ℕ} 0 1 = cc in omega arith))

-- ---- an axis within its limits has no 16, and shows its position
pub kept-shown : (a : Axis) → acceptable a ≡ true → (axis_refusal a ≡ None) × (position_answer a ≡ At (position_of a))
unfolding axis_refusal position_answer reported
kept-shown a e = (rw e, rw e)
