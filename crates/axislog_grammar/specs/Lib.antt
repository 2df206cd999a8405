pub mod Grammar
unfoldable pub use Grammar.{written}
pub use Grammar.{Exact, Sized, Writable, scaling, signed, turning, unscaled}
