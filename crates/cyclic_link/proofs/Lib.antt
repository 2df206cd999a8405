pub mod SignOfLifeLaws
pub mod Class2Laws
pub mod Class4Laws
pub mod Acknowledging
pub mod Due
pub mod LinkKept
pub mod Possible
pub use SignOfLifeLaws.{heard-due, heard-error, heard-off, heard-requested}
pub use Acknowledging.{gone, stays}
pub use Due.{due-risen, due-still, makes, passes, rests, spent, waits}
pub use LinkKept.{LinkLimits, has_code, link-kept, link-limits, quiet-kept}
pub use Possible.{possible}
