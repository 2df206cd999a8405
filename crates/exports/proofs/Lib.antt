pub mod NumbersLaws
pub mod RunLaws
