-- The program that the theorem is of: what axislog answers to each line, by the definitions that its contracts cite. (An input above 60,000 octets
-- gets one answer, and its lines none: axislog_core/specs/Log.antt.)
use Rattle.axislog_forms.specs.{form}
use Rattle.axislog_state.specs.{State, empty, reply}
use Rattle.axislog_accuracy.specs.Log.{Program}

abbrev pub axislog : Program
axislog =
    record {
      State = State;
      empty = empty;
      answer = λ s line. (reply s (form line)).answer;
      after = λ s line. (reply s (form line)).state;
    }
