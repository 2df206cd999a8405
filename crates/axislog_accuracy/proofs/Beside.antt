-- A state of a log beside its book: a started axis is a state of the library's own run, beside the same ledger, and the accuracy theorem holds of that
-- run from here on. So an accepted line shows a position that agrees, and a refused line changes nothing.
use Rattle.std.specs.Prelude.{◌≡◌, refl, List, [], ℤ, Option, None, Some, Result, Ok, Err}
use Rattle.encoder.specs.{Refusal, answer}
use Rattle.axis_shaft.specs.{Reported}
use Rattle.axis.specs.{Axis, reported, next}
use Rattle.cyclic_link.specs.{quiet}
use Rattle.accuracy.specs.{Device, Ledger.Ledger, Event, Reports, Accurate, State as RunState, library}
use Rattle.axislog_state.specs.{NoAxis, Waiting, Started, State, Reply, position_answer, position, refused, taken, after}
use Rattle.axislog_accuracy.specs.{Book, none, waiting, kept, Due, refusal, booked, Locates, Meets}

-- what an axis was set up as
abbrev pub device_of : Axis → Device
device_of a = record { plate = a.nameplate; parameters = a.parameters }

-- ---- the library's run from an axis on
abbrev pub run : Axis → RunState
run a = record { axis = a; link = quiet }

pub record Going (d : Device) (l : Ledger) (a : Axis) : Type 0 where
  pub is : device_of a ≡ d
  pub last : a.shaft.last.0 ≡ l.last
  pub accurate : (es : List Event) → Accurate d library (run a) l es

pub now : (d : Device) (l : Ledger) (a : Axis) → Going d l a → Reports d l (reported a)
unfolding Accurate
now d l a g = g.accurate []

-- ---- a state beside its book
abbrev pub Beside : State → Book → Type 0
Beside s none = s.stage ≡ NoAxis
Beside s (waiting d) = (s.stage ≡ Waiting) × (device_of s.axis ≡ d)
Beside s (kept d l) = (s.stage ≡ Started) × Going d l s.axis

-- what is to be proved of a line with the due answer x, by its reply r
abbrev pub Done : Due → Book → ℤ → Reply → Type 0
Done x b m r = let after = booked x b m r.answer in Meets x after r.answer × Beside r.state after

-- ---- a call that is taken shows a position
position-stands : (d : Device) (l : Ledger) (q : Result Reported Refusal) → Reports d l q → Locates (kept d l) (position q)
position-stands d l (Ok p) h = h
position-stands d l (Err r) h = h

pub stands : (d : Device) (l : Ledger) (a : Axis) → Going d l a → Locates (kept d l) (position_answer a) × Beside (taken a).state (kept d l)
unfolding position_answer
stands d l a g = (position-stands d l (reported a) (now d l a g), (refl, g))

-- ---- a line by its refusal: any reply r where it is taken, or a call that leaves axis c then
module _ (s : State) (b : Book) (h : Beside s b) (m : ℤ) (x : Due) where
  pub by_refusal : (r : Reply) (n : Option Refusal) → (n ≡ None → Done x b m r) → Done (answer refusal x n) b m (answer (refused s) r n)
  by_refusal r None t = t refl
  by_refusal r (Some e) t = (refl, h)

  pub by_next : (a c : Axis) (n : Option Refusal) → (n ≡ None → Done x b m (taken c)) → Done (answer refusal x n) b m (after s (next a n c))
  unfolding after
  by_next a c None t = t refl
  by_next a c (Some e) t = (refl, h)
