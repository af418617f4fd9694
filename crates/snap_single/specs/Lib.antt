-- The definitions of snap_single, by their modules.
pub use Rattle.snap_runs_of_u.specs.ListingU
pub use Rattle.snap_runs_of_u.specs.Promises
