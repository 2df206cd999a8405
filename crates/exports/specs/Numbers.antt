-- Parameters as plain numbers, as other languages bring and take them.
use Rattle.std.specs.Prelude.{ℕ, ◌≡◌, cond, List, [], ◌∷◌, eqb, length, Option, None, Some, Result, Ok, Err}
use Rattle.encoder.specs.{Nameplate, Parameters, Class2, Class4, Refusal, number, answer, buffer_refusal}

-- the answer of a call: 0, or the number of the refusal
abbrev pub code_of : Result (Unit {0}) Refusal → ℕ
code_of (Ok u) = 0
code_of (Err r) = number r

-- parameters of class 2 where the first number is 0, and of class 4 where it is any other
abbrev pub parameters_of : ℕ → ℕ → ℕ → ℕ → ℕ → ℕ → Parameters
parameters_of class4 operating units range life speed =
    cond (eqb class4 0) (Class2 operating (record { 0 = units }) (record { 0 = range }))
    (Class4 operating (record { 0 = units }) (record { 0 = range }) life speed)

-- the fields as sent, one number each
abbrev pub numbers_of : Parameters → List ℕ
numbers_of (Class2 operating units range) = operating ∷ units.0 ∷ range.0 ∷ []
numbers_of (Class4 operating units range life speed) = operating ∷ units.0 ∷ range.0 ∷ life ∷ speed ∷ []

-- the parameters that were received fill a list of so many numbers
abbrev pub Fills : ℕ → Result Parameters Refusal → Type 0
Fills size (Ok p) = length (numbers_of p) ≡ size
Fills size (Err r) = Unit {0}

-- ---- what a reader has received goes into a lent list: 7, 13, then the reader's own refusals
abbrev pub readers_refusal : Result Parameters Refusal → Option Refusal
readers_refusal (Ok p) = None
readers_refusal (Err r) = Some r

unfoldable pub take_refusal : Nameplate → ℕ → Result Parameters Refusal → List ℕ → Option Refusal
take_refusal n size x out = buffer_refusal n (length out) size (readers_refusal x)

-- the list: the numbers, or as it was
abbrev pub numbers_in : Result Parameters Refusal → List ℕ → List ℕ
numbers_in (Ok p) out = numbers_of p
numbers_in (Err r) out = out

unfoldable pub taken : Nameplate → ℕ → Result Parameters Refusal → List ℕ → List ℕ
taken n size x out = answer (λ _. out) (numbers_in x out) (take_refusal n size x out)
