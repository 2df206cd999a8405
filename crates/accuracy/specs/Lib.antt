pub mod Calls
pub mod Ledger
pub mod Claim
pub mod Run
pub mod Worthless
pub mod Ours
pub mod Worked
pub use Calls.{Call, First, batching, cycling, first_number, first_reading, measuring, presetting, raw_reading, reading, storing}
unfoldable pub use Ledger.{with_readings}
pub use Ledger.{Deed, Device, cycle_preset, deed, does, due2, due_after, exchanged_by, exchanges, first_raw, force, made, moves, none, noted, opened, preset2, preset4, put, refusal_by, rises, start_by, unmade, with_due}
unfoldable pub use Claim.{Accurate, Entries, Supposed, read_singly}
pub use Claim.{Agrees, Event, Lent, Program, Reports, Rule6, Shown, TrueSteps, number, off}
pub use Run.{State, begin, both, lent_by, library, to, yields}
pub use Worthless.{adds_rounded, always0, always_absolute, at, claims_half_range, copies_first, cuts_place, forgets_due, forgets_life, forgets_link, ignores_presets, ignores_readings, presets_when_faulty, scales_afresh, shifts_octets, shows_fresh, turns_away, wraps_at_c}
pub use Ours.{ours}
unfoldable pub use Worked.{traced}
pub use Worked.{begun, device4, listing, run2, run4, run4l, run4u}
