pub mod Offset
unfoldable pub use Offset.{offset_by, value_refusal}
