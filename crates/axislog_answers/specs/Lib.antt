pub mod Text
unfoldable pub use Text.{decimal, decimal_below, held, line, number_form, text}
pub use declared.Answer.{Answer}
pub use declared.Answer.TheVariants.{At, Ready, Refused}
pub use declared.Line.{Line}
