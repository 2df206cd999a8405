pub mod Line
unfoldable pub use Line.{axis, form, preset, read, scale, sequence}
pub use Line.{from, scaled}
pub use declared.Form.{Form}
pub use declared.Form.TheVariants.{Axis, Preset, Read}
pub use declared.Setup.{Setup}
