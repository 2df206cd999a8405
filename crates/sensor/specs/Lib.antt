pub mod Raw
unfoldable pub use Raw.{numbered, step_refusal}
pub use Raw.{raw_of}
