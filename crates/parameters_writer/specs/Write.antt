-- The writer of both classes (document 01, "Class 2 telegram", "Class 4 block"; row 13 of "When a call is turned away").
use Rattle.std.specs.Prelude.{ℕ, List, [], ◌∷◌, ◌++◌, length, Option, Result}
use Rattle.integer.specs.{part, octets}
use Rattle.encoder.specs.{Nameplate, Units, Parameters, Class2, Class4, Refusal, answer, checked, buffer_refusal, parameters_refusal}

-- the length of the parameters' class
abbrev pub length_of : Parameters → ℕ
length_of (Class2 operating units range) = 17
length_of (Class4 operating units range life speed) = 11

-- class 2: octets 5, 6 and 9 to 17 are filled, and the rest is kept
unfoldable pub telegram_of : ℕ → ℕ → Units → Units → List ℕ → List ℕ
telegram_of ident operating units range t =
    part 1 4 t ++ octets 2 ident ++ part 7 8 t ++ (operating ∷ []) ++ octets 4 units.0 ++ octets 4 range.0

-- class 4: all eleven are filled
unfoldable pub block_of : ℕ → Units → Units → ℕ → ℕ → List ℕ
block_of operating units range life speed = (operating ∷ []) ++ octets 4 units.0 ++ octets 4 range.0 ++ (life ∷ speed ∷ [])

unfoldable pub octets_of : ℕ → Parameters → List ℕ → List ℕ
octets_of ident (Class2 operating units range) b = telegram_of ident operating units range b
octets_of ident (Class4 operating units range life speed) b = block_of operating units range life speed

-- the refusal for a buffer of so many octets, in the order 7, 13, 3, 4, 5, 6, 17
unfoldable pub write_refusal : Nameplate → Parameters → ℕ → Option Refusal
write_refusal n p size = buffer_refusal n size (length_of p) (parameters_refusal n p)

-- the answer, and the buffer as the writer leaves it: filled, or as it was
abbrev pub written : Nameplate → Parameters → List ℕ → Result (Unit {0}) Refusal
written n p b = checked (write_refusal n p (length b))

abbrev pub written_octets : Nameplate → Parameters → List ℕ → List ℕ
written_octets n p b = answer (λ _. b) (octets_of n.ident p b) (write_refusal n p (length b))
