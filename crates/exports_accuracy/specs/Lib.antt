pub mod Exported
pub mod Worthless
pub use Exported.{Arguments, Claim, device, encoder_batch, refusal}
pub use Worthless.{always0, copies_first, refuses_all, repeats}
