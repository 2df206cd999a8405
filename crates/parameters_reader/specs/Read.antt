-- The readers of both classes (document 01, "Class 2 telegram", "Class 4 block"; rows 1, 2 and 7 of "When a call is turned away").
use Rattle.std.specs.Prelude.{ℕ, not, List, eqb, length, Option, Result, Ok, Err}
use Rattle.integer.specs.{octet, part, big_endian}
use Rattle.encoder.specs.{Nameplate, Parameters, Refusal, Class2, Class4, WrongLength, OtherIdent, when, ◌before◌, answer, plate_refusal, parameters_refusal}

-- the answer of a reader: the parameters, or the refusal
abbrev pub received : Option Refusal → Parameters → Result Parameters Refusal
received r p = answer Err (Ok p) r

-- before an octet is read: 7, then 1 where there are not as many octets as are due
abbrev pub frame_refusal : Nameplate → ℕ → ℕ → Option Refusal
frame_refusal n octets due = plate_refusal n before when (not (eqb octets due)) WrongLength

-- class 2, octets 5 and 6
abbrev pub ident_in : List ℕ → ℕ
ident_in t = big_endian (part 5 6 t)

-- 2: the ident differs from the plate
abbrev pub ident_refusal : Nameplate → List ℕ → Option Refusal
ident_refusal n t = when (not (eqb (ident_in t) n.ident)) OtherIdent

-- octets 9, 10 to 13 and 14 to 17
abbrev pub telegram_parameters : List ℕ → Parameters
telegram_parameters t = Class2 (octet 9 t) (record { 0 = big_endian (part 10 13 t) }) (record { 0 = big_endian (part 14 17 t) })

-- the order of refusals: 7, 1, 2, 3, 4, 5
unfoldable pub telegram_refusal : Nameplate → List ℕ → Option Refusal
telegram_refusal n t = frame_refusal n (length t) 17 before ident_refusal n t before parameters_refusal n (telegram_parameters t)

unfoldable pub read_telegram : Nameplate → List ℕ → Result Parameters Refusal
read_telegram n t = received (telegram_refusal n t) (telegram_parameters t)

-- class 4, octets 1, 2 to 5, 6 to 9, 10 and 11
abbrev pub block_parameters : List ℕ → Parameters
block_parameters b =
    Class4 (octet 1 b) (record { 0 = big_endian (part 2 5 b) }) (record { 0 = big_endian (part 6 9 b) }) (octet 10 b) (octet 11 b)

-- the order of refusals: 7, 1, 3, 4, 5, 6, 17
unfoldable pub block_refusal : Nameplate → List ℕ → Option Refusal
block_refusal n b = frame_refusal n (length b) 11 before parameters_refusal n (block_parameters b)

unfoldable pub read_block : Nameplate → List ℕ → Result Parameters Refusal
read_block n b = received (block_refusal n b) (block_parameters b)
