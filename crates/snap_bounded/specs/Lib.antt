-- The definitions of snap_bounded, by their modules.
pub use Rattle.snap_runs_of_b.specs.ListingB
pub use Rattle.snap_runs_of_b.specs.Promises
