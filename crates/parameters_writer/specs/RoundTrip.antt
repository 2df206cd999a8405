-- The round trip, for both classes (demand 2: parameters written as octets read back as the same parameters).
use Rattle.std.specs.Prelude.{ℕ, ◌^◌, ◌<◌, List, Result}
use Rattle.encoder.specs.{Nameplate, Parameters, Class2, Class4, Refusal, fields_of}
use Rattle.parameters_reader.specs.{read_telegram, read_block}

-- the reader of the parameters' class
abbrev pub read_as : Parameters → Nameplate → List ℕ → Result Parameters Refusal
read_as (Class2 operating units range) n t = read_telegram n t
read_as (Class4 operating units range life speed) n t = read_block n t

-- the numbers fit their types: 16 bits for the ident, 32 for the two fields
pub record Held (n : Nameplate) (p : Parameters) : Type 0 where
  pub ident : n.ident < 2 ^ 16
  pub units : (fields_of p).units.0 < 2 ^ 32
  pub range : (fields_of p).range.0 < 2 ^ 32
