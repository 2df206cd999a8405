-- Class bit, scaling bit and code sequence bit in every combination, as a table to hold against document 01: "Scaling is in force when the
-- class bit and the scaling bit are both 1. Then M is the revolution units and L the total range. Otherwise M = R and L = C [..]. With the
-- class bit 0 no preset is made; class 2 still obeys the code sequence, class 4 does not."
use Rattle.std.specs.Prelude.{ℕ, Bool, true, false, List, [], ◌∷◌}
use Rattle.encoder.specs.{declared.nameplate.Nameplate.Nameplate, declared.parameters.Parameters.Parameters}
use Rattle.encoder.specs.{declared.parameters.Parameters.TheVariants.Class2, declared.parameters.Parameters.TheVariants.Class4}
use Rattle.encoder.specs.{declared.effect.InForce.InForce, Plate.plain_plate}

-- R = 10, T = 3, so C = 30
abbrev pub plate : Nameplate
plate = plain_plate 10 3 0

-- the octet with the bits, revolution units 4 and total range 7; of class 4 a sign-of-life limit of 1
abbrev pub sent2 : ℕ → Parameters
sent2 operating = Class2 operating (record { 0 = 4 }) (record { 0 = 7 })

abbrev pub sent4 : ℕ → Parameters
sent4 operating = Class4 operating (record { 0 = 4 }) (record { 0 = 7 }) 1 0

-- parameters, and what the paper puts in force
pub record Combination : Type 0 where
  pub sent : Parameters
  pub stated : InForce

abbrev pub gives : Parameters → ℕ → ℕ → Bool → Bool → Combination
gives p m l reversed enabled =
    record {
      sent = p;
      stated =
          record {
            steps = record { 0 = 10 };
            capacity = record { 0 = 30 };
            scale = record { 0 = m };
            span = record { 0 = l };
            reversed = reversed;
            enabled = enabled;
            speed = 0;
          };
    }

abbrev pub cw : Bool
cw = false

abbrev pub ccw : Bool
ccw = true

abbrev pub on : Bool
on = true

abbrev pub off : Bool
off = false

-- bit 0 is the code sequence, bit 1 the class, bit 3 scaling; bit 5 of class 4 is 1, and then 0 (request 3), and has no part in this
abbrev pub combinations : List Combination
combinations =
    gives (sent2 0x00) 10 30 cw off
    ∷ gives (sent2 0x01) 10 30 ccw off
    ∷ gives (sent2 0x02) 10 30 cw on
    ∷ gives (sent2 0x03) 10 30 ccw on
    ∷ gives (sent2 0x08) 10 30 cw off
    ∷ gives (sent2 0x09) 10 30 ccw off
    ∷ gives (sent2 0x0a) 4 7 cw on
    ∷ gives (sent2 0x0b) 4 7 ccw on
    ∷ gives (sent4 0x20) 10 30 cw off
    ∷ gives (sent4 0x21) 10 30 cw off
    ∷ gives (sent4 0x22) 10 30 cw on
    ∷ gives (sent4 0x23) 10 30 ccw on
    ∷ gives (sent4 0x28) 10 30 cw off
    ∷ gives (sent4 0x29) 10 30 cw off
    ∷ gives (sent4 0x2a) 4 7 cw on
    ∷ gives (sent4 0x2b) 4 7 ccw on
    ∷ gives (sent4 0x00) 10 30 cw off
    ∷ gives (sent4 0x01) 10 30 cw off
    ∷ gives (sent4 0x02) 10 30 cw on
    ∷ gives (sent4 0x03) 10 30 ccw on
    ∷ gives (sent4 0x08) 10 30 cw off
    ∷ gives (sent4 0x09) 10 30 cw off
    ∷ gives (sent4 0x0a) 4 7 cw on
    ∷ gives (sent4 0x0b) 4 7 ccw on
    ∷ []
