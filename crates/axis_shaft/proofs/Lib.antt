pub mod SensorLaws
pub mod ShorterWay
pub mod PlaceLaws
pub mod ShaftLaws
pub mod AheadLaws
pub mod ShareLaws
pub mod RunningLaws
pub mod EachEntry
pub mod BatchLaws
pub mod FollowLaws
pub use SensorLaws.{move-fits, move-most, raw-lt}
pub use ShorterWay.{shorter-only, shorter-way}
pub use ShaftLaws.{begun-by, inside_is, inside-true, moved-kept, nowhere-out, read-refusal, reported-is, started-kept}
