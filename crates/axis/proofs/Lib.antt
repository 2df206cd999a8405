pub mod AxisLaws
pub mod PositionLaws
pub mod ReadingLaws
pub mod PresetLaws
pub mod LimitsKept
pub use AxisLaws.{Limits, accepts, limits-none, limits_of, offset-fits, outside-answer, ready_of, stands-none}
pub use PositionLaws.{position-always, position-is, ready-reported, reported-is}
pub use ReadingLaws.{at-raw-kept, first, moved-on, next-is, raw-on, singly}
pub use PresetLaws.{shifted-is}
pub use LimitsKept.{apart-lt, asked-lt, begun_kept, by_refusal, number_lt, preset-kept, presetted-kept, put_is, raw-kept, raw-started-kept, read_kept, store_kept, unshifted-lt}
