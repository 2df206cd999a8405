pub mod Velocity
unfoldable pub use Velocity.{factor_of, moved_at, moved_at_refusal, rate_of, velocity_at, velocity_refusal}
pub use Velocity.{greatest, least, velocity_of}
pub use declared.MovedAt.{MovedAt}
