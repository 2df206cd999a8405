-- Start and reading: the first refusal in the table's order is the answer; else the axis is that of rules 2 to 4.
use Rattle.std.specs.Prelude.{◌≡◌, false, ℕ, leb, Option, None, Some, Result, Ok, Err}
use Rattle.std.proofs.Common.{sym, ◌∙◌}
use Rattle.std.proofs.lemmas.Bool.{lt-leb}
use Rattle.encoder.specs.{Nameplate, Parameters, InForce, Refusal, WrongTurn, when, capacity_of, fields_of, refusal_on, rules_of, in_force}
use Rattle.encoder.proofs.{value-is, refused-by, taken-sound}
use Rattle.sensor.specs.{raw_of, step_refusal, numbered}
use Rattle.sensor.proofs.{reading-lt}
use Rattle.axis_shaft.specs.{Shaft, nowhere, started, move_refusal, moved_to, begun, shaft_refusal, moved}
use Rattle.axis_shaft.proofs.{raw-lt, moved-kept, read-refusal, begun-by}
use Rattle.axis.specs.{Axis, Next, rules_on, in_force_on, Ready, next, yielded, next_by, fresh, begun_by, start_refusal, start_raw_refusal}
use Rattle.axis.specs.{with_shaft, at_raw, read_raw_refusal, read_raw, read_refusal}
use Rattle.axis.proofs.AxisLaws.{Limits, limits-none, ready_of, stands-none}

-- ---- the answer by what a call yields
pub next-is : (a b : Axis) (n : Option Refusal) (y : Result Axis Refusal) (x : Next) → y ≡ yielded n b → x ≡ next_by a y → x ≡ next a n b
next-is a b None y x y-is x-is = x-is ∙ rw y-is
next-is a b (Some r) y x y-is x-is = x-is ∙ rw y-is

-- ---- a raw number
module _ (a : Axis) (f : InForce) (raw : ℕ) where
  pub moved-on : (k : Shaft) → Ready a f → Ok k ≡ moved f a.shaft raw → Ok (with_shaft a k) ≡ yielded (shaft_refusal f a.shaft raw) (at_raw a raw)
  unfolding moved at_raw
  moved-on k r m-is = let i = value-is (moved_to f a.shaft raw) (shaft_refusal f a.shaft raw) k m-is in rw (← r.is, i.0, i.1)

  pub raw-on : (x : Result Axis Refusal) → Ok f ≡ in_force_on a → x ≡ yielded (shaft_refusal f a.shaft raw) (at_raw a raw)
      → x ≡ yielded (read_raw_refusal a raw) (at_raw a raw)
  unfolding read_raw_refusal
  raw-on x f-is x-is = let r = ready_of a f f-is in x-is ∙ rw (stands-none a f r, ← r.is)

  -- ---- a step and a turn
  module _ (s t : ℕ) (x : Result Axis Refusal) (f-is : Ok f ≡ in_force_on a) where
    pub read-on : x ≡ yielded (shaft_refusal f a.shaft raw) (at_raw a raw) → Ok raw ≡ numbered a.nameplate s t
        → x ≡ yielded (read_refusal a s t) (at_raw a (raw_of a.nameplate s t))
    unfolding read_refusal numbered
    read-on x-is q-is =
        let r = ready_of a f f-is in
        let i = value-is (raw_of a.nameplate s t) (step_refusal a.nameplate s t) raw q-is in
        x-is ∙ rw (stands-none a f r, i.0, ← i.1, ← r.is)

pub read-no : (a : Axis) (f : InForce) (s t : ℕ) (x : Result Axis Refusal) (e : Refusal) (b : Axis) → Ok f ≡ in_force_on a → Err e ≡ numbered a.nameplate s t
    → x ≡ Err e → x ≡ yielded (read_refusal a s t) b
unfolding read_refusal numbered
read-no a f s t x e b f-is q-is x-is =
    x-is ∙ rw (stands-none a f (ready_of a f f-is), refused-by (raw_of a.nameplate s t) (step_refusal a.nameplate s t) e q-is)

-- and the axis that it moves keeps its limits
pub at-raw-kept : (a : Axis) → Limits a → (raw : ℕ) → shaft_refusal (rules_on a) a.shaft raw ≡ None → Limits (at_raw a raw)
unfolding at_raw rules_on
at-raw-kept a l raw e =
    let h = raw-lt (rules_on a) a.shaft.last.0 raw (sym (read-refusal (rules_on a) a.shaft l.shaft raw) ∙ e) in
    record {
      none = l.none;
      shaft = moved-kept (rules_on a) a.shaft raw l.shaft h;
      offset = l.offset;
      preset = l.preset;
      stored = l.stored;
    }

-- a raw number by the refusal of its move, on an axis within its limits
module _ (a : Axis) (l : Limits a) (raw : ℕ) where
  raw-refusal : read_raw_refusal a raw ≡ move_refusal (rules_on a) a.shaft.last.0 raw
  unfolding read_raw_refusal
  raw-refusal = rw (limits-none a l) (read-refusal (rules_on a) a.shaft l.shaft raw)

  pub singly : (n : Option Refusal) → move_refusal (rules_on a) a.shaft.last.0 raw ≡ n → read_raw a raw ≡ next a n (at_raw a raw)
  unfolding read_raw
  singly n e = rw (raw-refusal, e)

-- ---- the start
-- an axis that stands at its first raw number
abbrev pub first : Nameplate → Parameters → ℕ → Axis
first n p raw = fresh n p (started (rules_of n (fields_of p)) raw)

module _ (n : Nameplate) (p : Parameters) where
  pub begun-is : (k : Option Refusal) (raw : ℕ) (y : Result Shaft Refusal) (x : Next) → y ≡ yielded k (started (rules_of n (fields_of p)) raw) → x ≡ begun_by n p y
      → x ≡ next (fresh n p nowhere) k (first n p raw)
  begun-is None raw y x y-is x-is = x-is ∙ rw y-is
  begun-is (Some r) raw y x y-is x-is = x-is ∙ rw y-is

  module _ (f : InForce) (f-is : Ok f ≡ in_force n p) where
    none-and-rules : (refusal_on n p ≡ None) × (f ≡ rules_of n (fields_of p))
    unfolding in_force
    none-and-rules = value-is (rules_of n (fields_of p)) (refusal_on n p) f f-is

    pub first-no-number : (s t : ℕ) (x : Result Shaft Refusal) (e : Refusal) (k : Shaft) → Err e ≡ numbered n s t → x ≡ Err e → x ≡ yielded (start_refusal n p s t) k
    unfolding start_refusal numbered
    first-no-number s t x e k q-is x-is = x-is ∙ rw (none-and-rules.0, refused-by (raw_of n s t) (step_refusal n s t) e q-is)

  module _ (f : InForce) (f-is : Ok f ≡ in_force n p) (raw : ℕ) (x : Result Shaft Refusal) where
    -- the shaft answers 9 for a raw number of C or above, and else its place
    begun-on : x ≡ begun f raw → x ≡ yielded (when (leb (capacity_of n) raw) WrongTurn) (started (rules_of n (fields_of p)) raw)
    unfolding rules_of
    begun-on x-is = let i = none-and-rules f f-is in x-is ∙ rw (begun-by f raw (rw i.1 (taken-sound n p i.0)), i.1)

    pub first-raw-on : x ≡ begun f raw → x ≡ yielded (start_raw_refusal n p raw) (started (rules_of n (fields_of p)) raw)
    unfolding start_raw_refusal
    first-raw-on x-is = begun-on x-is ∙ rw (none-and-rules f f-is).0

    module _ (s t : ℕ) where
      -- a raw number of the sensor is not refused
      pub first-on : Ok raw ≡ numbered n s t → x ≡ begun f raw → x ≡ yielded (start_refusal n p s t) (started (rules_of n (fields_of p)) (raw_of n s t))
      unfolding start_refusal numbered
      first-on q-is x-is =
          let j = value-is (raw_of n s t) (step_refusal n s t) raw q-is in
          let below : leb (capacity_of n) raw ≡ false = lt-leb (capacity_of n) raw (rw j.1 (reading-lt n s t j.0)) in
          (rw below at (begun-on x-is)) ∙ rw ((none-and-rules f f-is).0, j.0, ← j.1)
