pub mod Forms
unfoldable pub use Forms.{after, position_answer, preset, read, reply, set_up, unstarted}
pub use Forms.{empty, parameters_of, plate_of, position, preset_at, read_at, ready, refused, reply_by, taken}
pub use declared.Reply.{Reply}
pub use declared.Stage.{Stage}
pub use declared.Stage.TheVariants.{NoAxis, Started, Waiting}
pub use declared.State.{State}
