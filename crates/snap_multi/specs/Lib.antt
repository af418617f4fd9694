-- The definitions of snap_multi, by their modules.
pub use Rattle.snap_runs_of_m.specs.ListingM
pub use Rattle.snap_runs_of_m.specs.Promises
