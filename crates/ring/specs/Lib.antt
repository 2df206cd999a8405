pub mod Ring
unfoldable pub use Ring.{complement, in_range, on_ring}
