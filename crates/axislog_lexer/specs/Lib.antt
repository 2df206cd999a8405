pub mod Word
pub mod Number
unfoldable pub use Word.{ends, past}
pub use Word.{is_at, ◌>>=◌}
unfoldable pub use Number.{digit_of, digits, labelled, last, number}
pub use Number.{found}
pub use declared.number.Decimal.{Decimal}
