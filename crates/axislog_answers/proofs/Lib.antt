pub mod DecimalLaws
pub mod AnswerLaws
pub mod LineLaws
pub use DecimalLaws.{decimal-long}
pub use LineLaws.{line-cut, line-in, line-text}
