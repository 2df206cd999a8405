-- Functions that document 01 would send back ("Programs we would send back"). Each breaks the claim: proofs/Worthless.antt.
use Rattle.std.specs.Prelude.{ℕ, length, get_or, replicate}
use Rattle.exports_accuracy.specs.Exported.{Arguments, Function, encoder_batch}

-- answers as ours, and shows one position throughout
abbrev pub repeats : (Arguments → ℕ) → Function
repeats position = record { answer = encoder_batch.answer; list = λ c. replicate (length c.raws) (position c) }

abbrev pub always0 : Function
always0 = repeats (λ c. 0)

abbrev pub copies_first : Function
copies_first = repeats (λ c. get_or (encoder_batch.list c) 0 0)

-- turns every call away, and leaves the list as it was
abbrev pub refuses_all : Function
refuses_all = record { answer = λ c. 7; list = λ c. c.positions }
