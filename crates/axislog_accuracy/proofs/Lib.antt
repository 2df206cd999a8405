pub mod Beside
pub mod Calls
pub mod First
pub mod Log
pub mod Worthless
