pub mod RoomLaws
pub mod LogLaws
pub mod OutcomeLaws
pub use OutcomeLaws.{answers-cut, answers-in}
