pub mod Parts
pub mod AsBefore
