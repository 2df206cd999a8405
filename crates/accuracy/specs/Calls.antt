-- The start and the calls on an axis as data: each kind with its own arguments and lent buffers, whatever their lengths and contents.
use Rattle.std.specs.Prelude.{Bool, List, ℕ, ℤ}

-- a start is by the step and the turn of a first reading, or by its raw number
pub data First : Type 0 where
  first_reading : (step turn : ℕ) → First
  first_number : (raw : ℕ) → First

pub data Call : Type 0 where
  -- a reading, by step and turn or by raw number
  reading : (step turn : ℕ) → Call
  raw_reading : (raw : ℕ) → Call
  -- a batch, document 01's pass: raw numbers, and the lent list of positions
  batching : (raws positions : List ℕ) → Call
  -- a preset of v, absolute or relative
  presetting : (v : ℤ) (relative : Bool) → Call
  -- v becomes the held preset value
  storing : (v : ℤ) → Call
  -- a cycle: raw number, output octets, and the lent input octets
  cycling : (raw : ℕ) (output input : List ℕ) → Call
  -- a cycle of telegram 83 (request 1): the elapsed milliseconds too
  measuring : (raw elapsed : ℕ) (output input : List ℕ) → Call
