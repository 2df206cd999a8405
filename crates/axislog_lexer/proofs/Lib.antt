pub mod WordLaws
pub mod NumberLaws
pub use WordLaws.{past_one}
pub use NumberLaws.{digit-is, digit_low}
