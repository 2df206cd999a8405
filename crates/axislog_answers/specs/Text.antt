-- The answers, one a line (document 01, "The program axislog").
use Rattle.std.specs.Prelude.{◌+◌, ◌/◌, ◌%◌, ◌∷◌, ◌++◌}
use Rattle.std.specs.Prelude.{ℕ, zero, suc, List, [], cond, ltb, length, replicate}
use Rattle.integer.specs.{ascii, over}
use Rattle.axislog_answers.specs.{declared.Answer.Answer, declared.Answer.TheVariants.Ready, declared.Answer.TheVariants.At}
use Rattle.axislog_answers.specs.{declared.Answer.TheVariants.Refused, declared.Line.Line}

-- a number below 10 ^ f in decimal
unfoldable pub decimal_below : ℕ → ℕ → List ℕ
decimal_below zero n = []
decimal_below (suc f) n = cond (ltb n 10) ((48 + n) ∷ []) (decimal_below f (n / 10) ++ ((48 + n % 10) ∷ []))

-- a number of 32 bits in decimal has at most ten digits
unfoldable pub decimal : ℕ → List ℕ
decimal n = decimal_below 10 n

-- a form of a word and a number
unfoldable pub number_form : List ℕ → ℕ → List ℕ
number_form word n = word ++ decimal n ++ ascii ")\n"

-- (axis ready), (at n) shows the position, (refused n) the number
unfoldable pub text : Answer → List ℕ
text Ready = ascii "(axis ready)\n"
text (At position) = number_form (ascii "(at ") position
text (Refused n) = number_form (ascii "(refused ") n

-- a text at the start of sixteen octets, the others 0
unfoldable pub held : List ℕ → Line
held t = record { octets = over t (replicate 16 0); length = length t }

unfoldable pub line : Answer → Line
line a = held (text a)
