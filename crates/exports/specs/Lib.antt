pub mod Numbers
pub mod Run
unfoldable pub use Numbers.{take_refusal, taken}
pub use Numbers.{Fills, code_of, numbers_in, numbers_of, parameters_of, readers_refusal}
unfoldable pub use Run.{ran, run_refusal}
