-- What is written and the answers to come make up all answers.
use Rattle.std.specs.Prelude.{◌≡◌, length}
use Rattle.std.specs.Slice.Iter.{split_inclusive_rest}
use Rattle.axislog_core.proofs.{LogLaws.Running}
use Rattle.axislog_core.proofs.each_line.Given as goal

abbrev pub invariant-loop-text : goal.invariant-loop-text
invariant-loop-text l =
    (length l.initial.output ≡ 780000) × Running l.input l.initial.output l.output (split_inclusive_rest l.text-iterator) l.at l.state
