-- THE THEOREM: what is claimed of every log program in specs/Log.antt holds of axislog. Line by line, each form by its own law: state and book
-- stand beside each other before the first line, and each line leaves them so.
use Rattle.std.specs.Prelude.{refl, List, [], ◌∷◌, ℤ, Option, Some, None}
use Rattle.encoder.specs.{refusal_on}
use Rattle.axislog_forms.specs.{Form, Axis, Read, Preset, form}
use Rattle.axislog_state.specs.{State, plate_of, parameters_of, unstarted, empty, ready, set_up, read, preset, reply}
use Rattle.axislog_accuracy.specs.{Heard, device, Book, none, waiting, kept, ready as due_ready, due, booked, Moves, Printed, Claim, axislog}
use Rattle.axislog_accuracy.proofs.{Beside.Beside, Beside.Done, Beside.by_refusal, Calls.read_done, Calls.preset-done, First.first_done}

-- ---- any line
line-done : (s : State) (f : Option Form) (b : Book) (m : ℤ) → Beside s b → Moves (due f b) m → Done (due f b) b m (reply s f)
unfolding reply set_up read preset unstarted
line-done s None b m h w = (refl, h)
line-done s (Some (Axis f)) b m h w =
    by_refusal s b h m (due_ready (device f)) (ready f) (refusal_on (plate_of f) (parameters_of f)) (λ z. (refl, (refl, refl)))
line-done s (Some (Read raw)) none m h w = rw h (refl, refl)
line-done s (Some (Read raw)) (waiting d) m h w = rw (h.0, ← h.1) (first_done s.axis m raw)
line-done s (Some (Read raw)) (kept d l) m h w = rw h.0 (read_done d l s.axis h.1 m raw w)
line-done s (Some (Preset v)) none m h w = rw h (refl, refl)
line-done s (Some (Preset v)) (waiting d) m h w = rw h.0 (refl, (refl, h.1))
line-done s (Some (Preset v)) (kept d l) m h w = rw h.0 (preset-done d l s.axis h.1 m v)

-- ---- any log
all : (s : State) (b : Book) (es : List Heard) → Beside s b → Printed axislog s b es
unfolding Printed
all s b [] h = tt
all s b (e ∷ es) h =
    λ w.
    let f = form e.line in
    let x = line-done s f b e.steps h w in
    (x.0, all (reply s f).state (booked (due f b) b e.steps (reply s f).answer) es x.1)

pub printed : Claim axislog
unfolding unstarted
printed es = all empty none es refl
