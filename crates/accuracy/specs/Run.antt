-- What the library makes of the calls: the definitions that its contracts cite. The link record is all 0 at first, and each call gets axis and link as
-- the call before has left them.
use Rattle.std.specs.Prelude.{List, [], ℕ}
use Rattle.encoder.specs.{Nameplate, Parameters}
use Rattle.axis.specs.{Axis, Next, reported, start, start_raw, read_raw, read, preset, store}
use Rattle.axis_batch.specs.{batch, batch_list}
use Rattle.cyclic_link.specs.{Link, quiet}
use Rattle.cyclic.specs.{Cycled, cycle, cycle_input, cycle83, cycle83_input}
use Rattle.accuracy.specs.Calls.{First, first_reading, first_number, Call, reading, raw_reading, batching, presetting, storing, cycling, measuring}
use Rattle.accuracy.specs.Claim.{Program}

pub record State : Type 0 where
  pub axis : Axis
  pub link : Link

abbrev pub starts : Nameplate → Parameters → First → Next
starts n p (first_reading step turn) = start n p step turn
starts n p (first_number raw) = start_raw n p raw

abbrev pub begin : Nameplate → Parameters → First → State
begin n p first = record { axis = (starts n p first).axis; link = quiet }

-- a call without the link leaves it
abbrev pub to : State → Next → State
to s x = record { axis = x.axis; link = s.link }

abbrev pub both : Cycled → State
both x = record { axis = x.axis; link = x.link }

abbrev pub yields : State → Call → State
yields s (reading step turn) = to s (read s.axis step turn)
yields s (raw_reading raw) = to s (read_raw s.axis raw)
yields s (batching raws positions) = to s (batch s.axis raws positions)
yields s (presetting v relative) = to s (preset s.axis v relative)
yields s (storing v) = to s (store s.axis v)
yields s (cycling raw output input) = both (cycle s.axis s.link raw output input)
yields s (measuring raw elapsed output input) = both (cycle83 s.axis s.link raw elapsed output input)

-- the lent list of positions or input octets
abbrev pub lent_by : State → Call → List ℕ
lent_by s (batching raws positions) = batch_list s.axis raws positions
lent_by s (cycling raw output input) = cycle_input s.axis s.link raw output input
lent_by s (measuring raw elapsed output input) = cycle83_input s.axis s.link raw elapsed output input
lent_by s (reading step turn) = []
lent_by s (raw_reading raw) = []
lent_by s (presetting v relative) = []
lent_by s (storing v) = []

abbrev pub library : Program
library = record { State = State; start = begin; call = yields; position = λ s. reported s.axis; lent = lent_by }
