pub mod VelocityLaws
pub mod SpeedLaws
pub use VelocityLaws.{rate-fits}
pub use SpeedLaws.{at_moved, at-stays, elapsed-least}
