pub mod Starred
pub use Starred.{starred}
