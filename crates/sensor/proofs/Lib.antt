pub mod ReadingLaws
pub use ReadingLaws.{reading-lt, reading-refused, reading-taken}
