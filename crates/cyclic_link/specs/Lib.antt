pub mod Quiet
pub mod SignOfLife
pub mod Class2
pub mod Class4
pub mod Classes
pub mod Limits
pub use Quiet.{quiet}
unfoldable pub use SignOfLife.{counter, expected, life_of}
pub use SignOfLife.{at_stop, counting, following, heard, started}
pub use Class2.{value}
unfoldable pub use Class4.{code, zsw}
pub use Class4.{acknowledges, code_by, held}
pub use Classes.{Allowed, Possible}
unfoldable pub use Limits.{link_refusal, within}
pub use Limits.{code_within, counter_within, of_error}
pub use declared.Control.{Control}
pub use declared.Life.{Life}
pub use declared.Link.{Link}
pub use declared.Preset.{Preset}
pub use declared.Reaction.{Reaction}
