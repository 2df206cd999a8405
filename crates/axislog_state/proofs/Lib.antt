pub mod StateLaws
pub mod StateKept
