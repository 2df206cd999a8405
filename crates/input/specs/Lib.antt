pub mod Buffer
pub use Buffer.{Counts, Within, Filled}
