pub mod Log
pub mod Axislog
pub mod Worthless
unfoldable pub use Log.{Printed}
pub use Log.{Book, Claim, Due, Heard, Locates, Meets, Moves, Program, booked, device, due, first, kept, none, preset, reading, ready, refusal, told, waiting}
pub use Axislog.{axislog}
pub use Worthless.{always0, ignores_presets, preset0, read28, refuses_all, setup}
