pub mod Kept
pub mod Supposed
pub mod Standing
pub mod Presets
pub mod LimitsKept
mod Settled
mod Cycles
mod Inputs
mod Steps
pub mod Accuracy
pub mod OneUnit
mod Listing
pub mod Worthless
pub mod Telegram83
pub mod SignOfLife
pub mod Worked
pub use Accuracy.{accuracy}
pub use OneUnit.{told}
