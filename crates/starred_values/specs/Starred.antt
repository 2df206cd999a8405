-- The starred bench values (document 01, "Bench values"): beside each value of the paper what the definitions give, in one list.
use Rattle.std.specs.Prelude.{ℕ, ◌/◌, ◌%◌, false, List, [], ◌∷◌, ◌++◌, replicate, ℤ, pos, negsuc, Result, Ok, Err}
use Rattle.encoder.specs.{Nameplate, Parameters, Class2, Class4, InForce, Refusal, plain_plate, in_force}
use Rattle.parameters_reader.specs.{read_telegram}
use Rattle.axis_shaft.specs.{Reported}
use Rattle.axis.specs.{Axis, reported, start, read_raw, preset}
use Rattle.axis_velocity.specs.{velocity_at}

pub record Starred : Type 0 where
  pub computed : List ℤ
  pub paper : List ℤ

-- ---- nameplates and parameters
-- R = T = 4096
abbrev pub bench : Nameplate
bench = plain_plate 4096 4096 0

-- class 2 on with scaling, clockwise and counter-clockwise; class 4 on with scaling, clockwise
abbrev pub cw : ℕ → ℕ → Parameters
cw m l = Class2 0x0A (record { 0 = m }) (record { 0 = l })

abbrev pub ccw : ℕ → ℕ → Parameters
ccw m l = Class2 0x0B (record { 0 = m }) (record { 0 = l })

abbrev pub sent4 : ℕ → ℕ → ℕ → Parameters
sent4 m l unit = Class4 0x2A (record { 0 = m }) (record { 0 = l }) 0 unit

-- ---- what is shown of an answer; nothing where a call is turned away
abbrev pub scaling : Result InForce Refusal → List ℤ
scaling (Ok f) = pos f.scale.0 ∷ pos f.span.0 ∷ []
scaling (Err r) = []

abbrev pub taken : Result Parameters Refusal → List ℤ
taken (Ok p) = scaling (in_force bench p)
taken (Err r) = []

abbrev pub positions : Result Reported Refusal → List ℤ
positions (Ok at) = pos at.position.0 ∷ []
positions (Err r) = []

abbrev pub speed : Result ℤ Refusal → List ℤ
speed (Ok v) = v ∷ []
speed (Err r) = []

-- ---- an axis at a first raw number, and a velocity at a new one
abbrev pub begun : Nameplate → Parameters → ℕ → Axis
begun n p raw = (start n p (raw % n.steps.0) (raw / n.steps.0)).axis

abbrev pub velocity_to : Nameplate → Parameters → ℕ → ℕ → ℕ → Result ℤ Refusal
velocity_to n p from to e = velocity_at (begun n p from) (to % n.steps.0) (to / n.steps.0) e

-- the listing of "The program axislog": read 28, read 4, preset 0, read 3
abbrev pub first : Axis
first = begun (plain_plate 10 3 0) (cw 3 7) 28

abbrev pub second : Axis
second = (read_raw first 4).axis

abbrev pub third : Axis
third = (preset second (pos 0) false).axis

abbrev pub fourth : Axis
fourth = (read_raw third 3).axis

-- L = 3000, at the end of the sensor's range
abbrev pub last : Axis
last = begun bench (cw 1000 3000) 16777215

-- ---- the list: M = 1000, L = 4,096,000 unless said
abbrev pub starred : List Starred
starred =
    -- raw 6144 gives 1500
    record { computed = positions (reported (begun bench (cw 1000 4096000) 6144)); paper = pos 1500 ∷ [] }
    -- raw 5 gives 1
    ∷ record { computed = positions (reported (begun bench (cw 1000 4096000) 5)); paper = pos 1 ∷ [] }
    -- counter-clockwise, raw 1 gives 4,095,999
    ∷ record { computed = positions (reported (begun bench (ccw 1000 4096000) 1)); paper = pos 4095999 ∷ [] }
    -- L = 3000: started at 16,777,215 gives 999, then raw 0 gives 1000
    ∷ record { computed = positions (reported last) ++ positions (reported (read_raw last 0).axis); paper = pos 999 ∷ pos 1000 ∷ [] }
    -- the listing's 1, 3, 0, 6
    ∷ record {
      computed = positions (reported first) ++ positions (reported second) ++ positions (reported third) ++ positions (reported fourth);
      paper = pos 1 ∷ pos 3 ∷ pos 0 ∷ pos 6 ∷ [];
    }
    -- its offset after the preset is −3
    ∷ record { computed = third.offset ∷ []; paper = negsuc 2 ∷ [] }
    -- d = −1, e = 1, unit 0: −244
    ∷ record { computed = speed (velocity_to bench (cw 1000 4096000) 1 0 1); paper = negsuc 243 ∷ [] }
    -- d = 4096, e = 100, unit 3: 600
    ∷ record { computed = speed (velocity_to bench (sent4 1000 4096000 3) 0 4096 100); paper = pos 600 ∷ [] }
    -- R = M = 65,536, T = 32,768, d = 1,073,741,823, e = 1, unit 0: 2,147,483,647
    ∷ record {
      computed = speed (velocity_to (plain_plate 65536 32768 0) (cw 65536 2147483648) 0 1073741823 1);
      paper = pos 2147483647 ∷ [];
    }
    -- octets 9 to 17 are taken as M = 1000, L = 4,096,000
    ∷ record {
      computed =
          taken (
          read_telegram bench
          (replicate 8 0 ++ 0x0A ∷ 0x00 ∷ 0x00 ∷ 0x03 ∷ 0xE8 ∷ 0x00 ∷ 0x3E ∷ 0x80 ∷ 0x00 ∷ [])
          );
      paper = pos 1000 ∷ pos 4096000 ∷ [];
    }
    ∷ []
