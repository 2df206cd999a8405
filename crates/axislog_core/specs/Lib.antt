pub mod Log
unfoldable pub use Log.{answers, answers_from, lines, outcome, written}
pub use Log.{call_refusal, joined, line_length}
