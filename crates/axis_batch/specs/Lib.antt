pub mod Batch
unfoldable pub use Batch.{after, batch, batch_list, batch_refusal, first_refusal, positions_of}
