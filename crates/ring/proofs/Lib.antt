pub mod RingLaws
pub use RingLaws.{end_fits, on_none, on-ring}
