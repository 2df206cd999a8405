pub mod BatchLaws
pub mod BatchKept
pub use BatchLaws.{first-is}
pub use BatchKept.{batch-kept}
