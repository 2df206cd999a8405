pub mod CycleKept
pub mod StandingLaws
pub mod Class4Laws
pub mod CycleLaws
pub mod Telegram83Laws
pub mod Acknowledging
pub mod AsTelegram81
pub mod Correction
pub use CycleKept.{Linked, after_is, cycle-kept, cycle-linked, cycle83-kept, cycle83-linked, left-linked, read_same}
