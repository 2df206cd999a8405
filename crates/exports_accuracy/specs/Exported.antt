-- THE CLAIM for C (document 01, "The distance rule"): every position that encoder_batch yields is less than one unit away from the exact one.
--
-- It supposes of each raw number after the first: the shaft has truly moved by m steps since the one before, by less than half the sensor's range
-- either way, and the sensor shows where it came to. It supposes nothing else: C may give any numbers, and lists of any lengths and contents.
--
-- It claims, where the answer is 0: the list has one position for each raw number after the first and nothing else, and each lies less than one unit
-- from g × M / R, counted around the total range L. Here g is the true steps up to its own raw number, counted from the sensor's zero. And the answer
-- is the table's number, so that the function turns no call away that the table takes.
--
-- The claim is of any function that C could call so, and sees only its answer and the list that it leaves. Worthless.antt in proofs/
-- refutes functions that show one position throughout or turn every call away, and Exported.antt proves the claim of ours.
use Rattle.std.specs.Prelude.{◌≡◌, not, List, ℕ, eqb, ℤ, length, Option}
use Rattle.encoder.specs.{Refusal, WrongBuffer, coded, when, ◌before◌, plate_refusal, plain_plate}
use Rattle.accuracy.specs.{first_number, batching, Device, start_by, opened, refusal_by, Supposed, Entries}
use Rattle.exports.specs.{parameters_of, run_refusal, ran}

-- what C gives: R, T, the class, the fields of the parameters as sent, the raw numbers, and the lent list
pub record Arguments : Type 0 where
  pub steps : ℕ
  pub turns : ℕ
  pub class4 : ℕ
  pub operating : ℕ
  pub units : ℕ
  pub range : ℕ
  pub life : ℕ
  pub speed : ℕ
  pub first : ℕ
  pub raws : List ℕ
  pub positions : List ℕ

-- what C gets: the answer, and the list as it is left
pub record Function : Type 0 where
  pub answer : Arguments → ℕ
  pub list : Arguments → List ℕ

-- the device that the numbers stand for
abbrev pub device : Arguments → Device
device c =
    record {
      plate = plain_plate c.steps c.turns 0;
      parameters = parameters_of c.class4 c.operating c.units c.range c.life c.speed;
    }

-- ours, by its contract in crates/exports
abbrev pub encoder_batch : Function
encoder_batch =
    record {
      answer = λ c. coded (run_refusal (device c).plate (device c).parameters c.first c.raws c.positions);
      list = λ c. ran (device c).plate (device c).parameters c.first c.raws c.positions;
    }

-- by the table, in its order: 7 and 13; then the refusal of the start; then that of the batch, beside the ledger that the start has opened
abbrev pub refusal : Arguments → Option Refusal
refusal c =
    let d = device c in
    plate_refusal d.plate
    before when (not (eqb (length c.raws) (length c.positions))) WrongBuffer
    before start_by d (first_number c.first)
    before refusal_by d (opened d c.first) (batching c.raws c.positions)

-- of whatever C gives
abbrev pub Claim : Function → Type 0
Claim f =
    (c : Arguments) →
    let d = device c in
    (f.answer c ≡ coded (refusal c))
    × (f.answer c ≡ 0 → (m : ℕ → ℤ) → Supposed d c.first c.raws m
    → (length (f.list c) ≡ length c.raws) × Entries d (opened d c.first) c.raws m (f.list c))
