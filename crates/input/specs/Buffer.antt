-- What reading an input leaves in a buffer.
use Rattle.std.specs.Prelude.{ℕ, ◌≡◌, ◌<◌, ◌≤◌, List, length, take, Result, MatchResult, Option}
use Rattle.std.specs.Io.KnownBytes.{Consumes, IsAtEnd}
use Rattle.input.specs.{declared.ReadFailed.ReadFailed}

-- so many elements at the start of a buffer lie within it, and are as many when they are cut out
abbrev pub Counts : {A : Type 0} → ℕ → List A → Type 0
Counts n buffer = (n ≤ length buffer) × (n ≡ length (take n buffer))

-- the octets that were read lie within the buffer, also where a read failed after them
abbrev pub Within : Result ℕ ReadFailed → List ℕ → Type 0
Within result buffer = MatchResult result (λ n. Counts n buffer) (λ failed. Counts failed.after buffer)

-- the start of the buffer is what the input had and has no more, where its octets are known. Room is left only where the input has ended or a read failed
abbrev pub Filled : Option (List ℕ) → Option (List ℕ) → Result ℕ ReadFailed → List ℕ → Type 0
Filled before after result buffer =
    MatchResult result
    (λ n. Consumes before after (take n buffer) × (n < length buffer → IsAtEnd after))
    (λ failed. Consumes before after (take failed.after buffer))
