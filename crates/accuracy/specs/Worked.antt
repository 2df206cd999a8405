-- Worked runs that the claim speaks of: calls of every kind, refused ones, wraps, presets and faults among them, for class 2, for class 4, for class 4
-- under block bit 2, and for class 4 with a sign of life. Beside each call stands what was worked out from document 01 by hand: the position after it, p and g, and the lent list or octets.
use Rattle.std.specs.Prelude.{true, false, List, [], ◌∷◌, ◌++◌, ℕ, zero, suc, ℤ, pos, negsuc}
use Rattle.encoder.specs.{plate, Class2, Class4}
use Rattle.accuracy.specs.{Calls.first_reading, Calls.Call, Calls.reading, Calls.raw_reading, Calls.batching, Calls.presetting, Calls.storing, Calls.cycling, Calls.measuring}
use Rattle.accuracy.specs.{Ledger.Device, Ledger.Ledger, Ledger.deed, Ledger.noted, Claim.Event, Claim.number, Run.State, Ours.ours}

-- R = 10, T = 3, so C = 30; M = 3 and L = 7. Class 2, the axis of document 01's listing, counts with the raw number, class 4 against it. The
-- sign-of-life limit is 1, so that one failure reaches the stop
abbrev pub listing : Device
listing = record { plate = plate; parameters = Class2 0x0a (record { 0 = 3 }) (record { 0 = 7 }) }

abbrev pub device4 : ℕ → Device
device4 operating = record { plate = plate; parameters = Class4 operating (record { 0 = 3 }) (record { 0 = 7 }) 1 0 }

pub record Line : Type 0 where
  pub event : Event
  pub position : ℕ
  pub base : ℕ
  pub travel : ℤ
  pub lent : List ℕ

-- the true steps before the raw numbers of a call, in their order
abbrev pub steps : List ℤ → ℕ → ℤ
steps [] i = pos 0
steps (m ∷ ms) zero = m
steps (m ∷ ms) (suc i) = steps ms i

-- a call and its true steps; then the position, p and g after it, and the lent list or octets
abbrev pub line : Call → List ℤ → ℕ → ℕ → ℤ → List ℕ → Line
line c ms position base travel lent =
    record { event = record { call = c; steps = steps ms }; position = position; base = base; travel = travel; lent = lent }

abbrev pub o : ℕ → ℕ → ℕ → ℕ → List ℕ
o a b c d = a ∷ b ∷ c ∷ d ∷ []

abbrev pub o12 : ℕ → ℕ → ℕ → ℕ → List ℕ
o12 high low first second = 0x02 ∷ 0x00 ∷ high ∷ low ∷ 0 ∷ 0 ∷ 0 ∷ first ∷ 0 ∷ 0 ∷ 0 ∷ second ∷ []

-- with 0F02h in G1_XIST2
abbrev pub fault : ℕ → ℕ → ℕ → List ℕ
fault high low first = 0x02 ∷ 0x00 ∷ high ∷ low ∷ 0 ∷ 0 ∷ 0 ∷ first ∷ 0 ∷ 0 ∷ 0x0f ∷ 0x02 ∷ []

-- of telegram 83, with the octets of NIST_B
abbrev pub o16 : ℕ → ℕ → ℕ → ℕ → List ℕ → List ℕ
o16 high low first second velocity = o12 high low first second ++ velocity

-- started at step 8 of turn 2: raw number 28, position 1
abbrev pub run2 : List Line
run2 =
    -- across the sensor's end, a preset, and back
    line (reading 4 0) (pos 6 ∷ []) 3 0 (pos 34) []
    ∷ line (presetting (pos 0) false) [] 0 0 (pos 0) []
    ∷ line (raw_reading 3) (negsuc 0 ∷ []) 6 0 (negsuc 0) []
    -- exactly half the range away (10), no number of the sensor (9)
    ∷ line (raw_reading 18) [] 6 0 (negsuc 0) []
    ∷ line (raw_reading 30) [] 6 0 (negsuc 0) []
    -- a batch, one whose second entry lies half the range away (10), one with a list too short (13)
    ∷ line (batching (5 ∷ 8 ∷ []) (9 ∷ 9 ∷ [])) (pos 2 ∷ pos 3 ∷ []) 1 0 (pos 4) (0 ∷ 1 ∷ [])
    ∷ line (batching (9 ∷ 24 ∷ []) (9 ∷ 9 ∷ [])) [] 1 0 (pos 4) (9 ∷ 9 ∷ [])
    ∷ line (batching (9 ∷ []) []) [] 1 0 (pos 4) []
    -- a held value, a preset of L (11), a relative preset
    ∷ line (storing (pos 5)) [] 1 0 (pos 4) []
    ∷ line (presetting (pos 7) true) [] 1 0 (pos 4) []
    ∷ line (presetting (negsuc 1) true) [] 6 6 (pos 0) []
    -- cycles: a preset by a rise, and no other while the bit stays up
    ∷ line (cycling 9 (o 0x80 0 0 5) (o 0 0 0 0)) (pos 1 ∷ []) 5 5 (pos 0) (o 0 0 0 5)
    ∷ line (cycling 10 (o 0x80 0 0 3) (o 0 0 0 0)) (pos 1 ∷ []) 6 5 (pos 1) (o 0 0 0 6)
    -- faulty; the operator's correction (request 2): a rise with value L, a move with a value past it, a faulty cycle, and then the value 2; the bit
    -- still up; the bit at 0
    ∷ line (cycling 30 (o 0 0 0 0) (o 0 0 0 0)) [] 6 5 (pos 1) (o 0 0 0 6)
    ∷ line (cycling 10 (o 0x80 0 0 7) (o 0 0 0 0)) (pos 0 ∷ []) 6 5 (pos 1) (o 0 0 0 6)
    ∷ line (cycling 13 (o 0x80 0 0 20) (o 0 0 0 0)) (pos 3 ∷ []) 6 5 (pos 4) (o 0 0 0 6)
    ∷ line (cycling 30 (o 0x80 0 0 2) (o 0 0 0 0)) [] 6 5 (pos 4) (o 0 0 0 6)
    ∷ line (cycling 14 (o 0x80 0 0 2) (o 0 0 0 0)) (pos 1 ∷ []) 2 2 (pos 0) (o 0 0 0 2)
    ∷ line (cycling 14 (o 0x80 0 0 3) (o 0 0 0 0)) (pos 0 ∷ []) 2 2 (pos 0) (o 0 0 0 2)
    ∷ line (cycling 14 (o 0 0 0 3) (o 0 0 0 0)) (pos 0 ∷ []) 2 2 (pos 0) (o 0 0 0 2)
    -- a rise in a faulty cycle; a relative preset by a call; input octets too few (13); the bit at 0 before it could be made
    ∷ line (cycling 30 (o 0x80 0 0 4) (o 0 0 0 0)) [] 2 2 (pos 0) (o 0 0 0 2)
    ∷ line (presetting (pos 3) true) [] 5 5 (pos 0) []
    ∷ line (cycling 14 (o 0x80 0 0 4) (1 ∷ 2 ∷ 3 ∷ [])) [] 5 5 (pos 0) (1 ∷ 2 ∷ 3 ∷ [])
    ∷ line (cycling 14 (o 0 0 0 4) (o 0 0 0 0)) (pos 0 ∷ []) 5 5 (pos 0) (o 0 0 0 5)
    -- telegram 83 is none of class 2 (13)
    ∷ line (measuring 11 1 (o 0 0 0 0) (o16 1 2 3 4 (o 5 6 7 8))) [] 5 5 (pos 0) (o16 1 2 3 4 (o 5 6 7 8))
    ∷ []

-- started at step 2 of turn 0: raw number 2, oriented number 28, position 1
abbrev pub run4 : List Line
run4 =
    line (storing (pos 2)) [] 1 0 (pos 28) []
    -- a relative preset by a rise, after the raw number; a faulty cycle
    ∷ line (cycling 26 (o 4 0 0x18 0) (o12 0 0 0 0)) (pos 6 ∷ []) 5 5 (pos 0) (o12 0x30 0x00 5 5)
    ∷ line (cycling 30 (o 4 0 0 0) (o12 0 0 0 0)) [] 5 5 (pos 0) (o12 0x80 0x00 5 1)
    -- acknowledged, with a rise that the held error passes over; the error is gone
    ∷ line (cycling 26 (o 4 0 0x90 0) (o12 0 0 0 0)) (pos 0 ∷ []) 5 5 (pos 0) (o12 0x88 0x00 5 1)
    ∷ line (cycling 25 (o 4 0 0 0) (o12 0 0 0 0)) (pos 1 ∷ []) 5 5 (pos 1) (o12 0x20 0x00 5 5)
    -- an absolute preset; STW2_ENC bit 10 at 0; faulty but parked; input octets too few (13)
    ∷ line (cycling 25 (o 4 0 0x10 0) (o12 0 0 0 0)) (pos 0 ∷ []) 2 2 (pos 0) (o12 0x30 0x00 2 2)
    ∷ line (cycling 25 (o 0 0 0x10 0) (o12 0 0 0 0)) (pos 0 ∷ []) 2 2 (pos 0) (o12 0x20 0x00 2 2)
    ∷ line (cycling 30 (o 4 0 0x40 0) (o12 0 0 0 0)) [] 2 2 (pos 0) (o12 0x60 0x00 2 2)
    ∷ line (cycling 25 (o 4 0 0 0) (o 0 0 0 0)) [] 2 2 (pos 0) (o 0 0 0 0)
    -- telegram 83: 4 × 3 × 1000 / (10 × 7) is 171; back by 1 in 1 ms is −300, whatever the preset of the same cycle; faulty, NIST_B is 0; nothing
    -- elapsed (14)
    ∷ line (measuring 21 7 (o 4 0 0 0) (o16 0 0 0 0 (o 0 0 0 0))) (pos 4 ∷ []) 3 2 (pos 4) (o16 0x20 0x00 3 3 (o 0 0 0 171))
    ∷ line (measuring 22 1 (o 4 0 0x10 0) (o16 0 0 0 0 (o 0 0 0 0))) (negsuc 0 ∷ []) 2 2 (pos 0) (o16 0x30 0x00 2 2 (o 0xff 0xff 0xfe 0xd4))
    ∷ line (measuring 30 1 (o 4 0 0 0) (o16 0 0 0 0 (o 0 0 0 0))) [] 2 2 (pos 0) (o16 0x80 0x00 2 1 (o 0 0 0 0))
    ∷ line (measuring 22 0 (o 4 0 0 0) (o16 1 2 3 4 (o 5 6 7 8))) [] 2 2 (pos 0) (o16 1 2 3 4 (o 5 6 7 8))
    ∷ []

-- the same, with block bit 2: G1_XIST1 is the unshifted position
abbrev pub run4u : List Line
run4u =
    line (storing (pos 2)) [] 1 0 (pos 28) []
    ∷ line (cycling 26 (o 4 0 0x18 0) (o12 0 0 0 0)) (pos 6 ∷ []) 5 5 (pos 0) (o12 0x30 0x00 3 5)
    ∷ line (cycling 30 (o 4 0 0 0) (o12 0 0 0 0)) [] 5 5 (pos 0) (o12 0x80 0x00 3 1)
    -- and so in telegram 83, where 1 × 3 × 1000 / (10 × 10) is 30
    ∷ line (measuring 25 10 (o 4 0 0 0) (o16 0 0 0 0 (o 0 0 0 0))) (pos 1 ∷ []) 5 5 (pos 1) (o16 0x80 0x00 3 1 (o 0 0 0 30))
    ∷ []

-- block bit 5 at 0 (request 3): the first figure of the output is the sign of life
abbrev pub run4l : List Line
run4l =
    line (storing (pos 2)) [] 1 0 (pos 28) []
    -- 1 is the start; 2 is right, and the preset is made
    ∷ line (cycling 2 (o 0x14 0 0 0) (o12 0 0 0 0)) (pos 0 ∷ []) 1 0 (pos 28) (o12 0x20 0x00 1 1)
    ∷ line (cycling 2 (o 0x24 0 0x10 0) (o12 0 0 0 0)) (pos 0 ∷ []) 2 2 (pos 0) (o12 0x30 0x00 2 2)
    -- 5 is wrong: 0F02h is held and stands in G1_XIST2; 9 is wrong too, and the held error passes over a rise
    ∷ line (cycling 2 (o 0x54 0 0 0) (o12 0 0 0 0)) (pos 0 ∷ []) 2 2 (pos 0) (fault 0x80 0x00 2)
    ∷ line (cycling 1 (o 0x94 0 0x10 0) (o12 0 0 0 0)) (pos 1 ∷ []) 2 2 (pos 1) (fault 0x80 0x00 2)
    -- 10 is right and leaves the stop; acknowledged; with 11 the error is gone, and the preset of the same cycle is made
    ∷ line (cycling 1 (o 0xa4 0 0x80 0) (o12 0 0 0 0)) (pos 0 ∷ []) 2 2 (pos 1) (fault 0x88 0x00 2)
    ∷ line (cycling 26 (o 0xb4 0 0x10 0) (o12 0 0 0 0)) (pos 5 ∷ []) 2 2 (pos 0) (o12 0x30 0x00 2 2)
    -- 0 is wrong, and the cycle is faulty: 0001h comes first; 1 is expected after a 0, here in telegram 83, where 1 × 3 × 1000 / (10 × 10) is 30
    ∷ line (cycling 30 (o 0x04 0 0 0) (o12 0 0 0 0)) [] 2 2 (pos 0) (o12 0x80 0x00 2 1)
    ∷ line (measuring 25 10 (o 0x14 0 0x80 0) (o16 0 0 0 0 (o 0 0 0 0))) (pos 1 ∷ []) 2 2 (pos 1) (o16 0x88 0x00 2 1 (o 0 0 0 30))
    ∷ []

-- ---- the same, from the definitions
abbrev pub begun : Device → ℕ → ℕ → State
begun d step turn = ours.start d.plate d.parameters (first_reading step turn)

-- the calls, each with what the definitions give
unfoldable pub traced : Device → State → Ledger → List Line → List Line
traced d s l [] = []
traced d s l (x ∷ xs) =
    let e = x.event in
    let b = ours.call s e.call in
    let k = noted l (deed d l e.call) e.steps (number (ours.position b)) in
    record { event = e; position = number (ours.position b); base = k.base; travel = k.travel; lent = ours.lent s e.call } ∷ traced d b k xs
