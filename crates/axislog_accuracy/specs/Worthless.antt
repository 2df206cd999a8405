-- Log programs that document 01 would send back ("Programs we would send back"), each as axislog but for what it prints. Each breaks the claim:
-- proofs/Worthless.antt.
use Rattle.std.specs.Prelude.{ℕ, List}
use Rattle.integer.specs.{ascii}
use Rattle.encoder.specs.{NoForm, number}
use Rattle.axis.specs.{Axis, unshifted_of}
use Rattle.axislog_answers.specs.{Answer, Ready, At, Refused}
use Rattle.axislog_accuracy.specs.{Log.Program, Axislog.axislog}

-- another answer, from the axis after the line and from ours
abbrev pub answers : (Axis → Answer → Answer) → Program
answers f =
    record {
      State = axislog.State;
      empty = axislog.empty;
      answer = λ s line. f (axislog.after s line).axis (axislog.answer s line);
      after = axislog.after;
    }

abbrev pub refuses_all : Program
refuses_all = answers (λ a ours. Refused (number NoForm))

-- another position in the place of ours
abbrev pub instead : ℕ → Answer → Answer
instead n (At position) = At n
instead n Ready = Ready
instead n (Refused k) = Refused k

abbrev pub always0 : Program
always0 = answers (λ a ours. instead 0 ours)

-- the unshifted position, as though no preset were made
abbrev pub ignores_presets : Program
ignores_presets = answers (λ a ours. instead (unshifted_of a) ours)

-- ---- the lines of document 01's listing on which they are found out
abbrev pub setup : List ℕ
setup = ascii "(axis (steps 10) (turns 3) (sequence cw) (scale 3 7))"

abbrev pub read28 : List ℕ
read28 = ascii "(read 28)"

abbrev pub preset0 : List ℕ
preset0 = ascii "(preset 0)"
