pub mod Write
pub mod RoundTrip
unfoldable pub use Write.{block_of, octets_of, telegram_of, write_refusal}
pub use Write.{length_of, written, written_octets}
pub use RoundTrip.{Held, read_as}
