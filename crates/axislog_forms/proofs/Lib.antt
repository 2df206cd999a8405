pub mod ShortLaws
pub use ShortLaws.{form-empty, form-one}
