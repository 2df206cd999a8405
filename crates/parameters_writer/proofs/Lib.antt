pub mod WriteLaws
pub mod RoundTrip
