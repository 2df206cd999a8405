-- The octet of operating parameters, octet 9 of class 2 and octet 1 of class 4 (document 01, "Class 2 telegram", "Class 4 block"; row 3 of
-- "When a call is turned away"). Bit 2, and bit 4 of class 4, have no part in what is in force.
use Rattle.std.specs.Prelude.{ℕ, Bool, not, ◌&&◌, ◌||◌}
use Rattle.integer.specs.{bit}

-- bit 1: the class is on
abbrev pub class_on : ℕ → Bool
class_on octet = bit 1 octet

-- scaling is in force when the class bit and the scaling bit are both 1
abbrev pub scaling_on : ℕ → Bool
scaling_on octet = class_on octet && bit 3 octet

-- bit 0, the code sequence, 1 = rises counter-clockwise: class 2 obeys it always, class 4 only with its class on
abbrev pub reversed_by : Bool → ℕ → Bool
reversed_by class4 octet = bit 0 octet && (not class4 || class_on octet)

-- 3: bits 6 and 7 are zero; of class 2 bits 4 and 5 too (request 3: bit 5 of class 4 may be 0 or 1)
abbrev pub reserved_wrong : Bool → ℕ → Bool
reserved_wrong class4 octet = not class4 && (bit 4 octet || bit 5 octet) || (bit 6 octet || bit 7 octet)
