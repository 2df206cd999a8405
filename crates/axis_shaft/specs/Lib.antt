pub mod Rules
pub mod Batch
pub mod UnitsAndRest
unfoldable pub use Rules.{approach_from, approached, begin_refusal, begun, difference, inside, move_of, move_refusal, moved, moved_by, moved_to, oriented, position_at, reported_at, shaft_refusal, shorter, started, unshifted}
pub use Rules.{Inside, half_refusal, nowhere, period, positions_at}
unfoldable pub use UnitsAndRest.{carried, lead_of, onward, ran_to, running_of, runs, shaft_of, shafts, share_of}
pub use UnitsAndRest.{Within}
unfoldable pub use Batch.{after, batch_refusal, batched, batched_list, doubtful, positions_in, refusal_in}
pub use Batch.{gap}
pub use declared.MovedBy.{MovedBy}
pub use declared.Reported.{Reported}
pub use declared.Shaft.{Shaft}
pub use declared.running.Lead.{Lead}
pub use declared.running.Running.{Running}
pub use declared.running.Share.{Share}
