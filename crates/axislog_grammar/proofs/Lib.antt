pub mod ReadsBack
pub mod Decimals
pub mod Found
pub mod ReadsOnly
pub mod Exact
