pub mod Kept
pub mod Place
pub use Kept.{off-is}
pub use Place.{place-move, place-start, place-units}
