pub mod Exported
pub mod Worthless
