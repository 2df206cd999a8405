pub mod Limits
pub mod Reading
pub mod Preset
unfoldable pub use Limits.{acceptable, axis_refusal, in_force_on, position_of, reported, rules_on, unshifted_of}
pub use Limits.{Ready, keeps, positions_of}
unfoldable pub use Reading.{at_raw, read, read_raw, read_raw_refusal, read_refusal, start, start_raw, start_raw_refusal, start_refusal}
pub use Reading.{accepted, begun_by, fresh, next, next_by, refused, with_shaft, yielded}
unfoldable pub use Preset.{asked, preset, preset_refusal, presetted, store}
pub use Preset.{holding, shifted}
pub use declared.Axis.{Axis}
pub use declared.Next.{Next}
