-- The names that the proofs about runs share: of shapes and words, of items, operations and what comes of them, and of
-- the states of a run.
pub use Rattle.snap_words.specs.Shape.{Counts, IsOneOf}
pub use Rattle.snap_words.specs.Word.{Word, no_word}
pub use Rattle.snap_semantics.specs.declared.process.Activity.{Activity}
pub use Rattle.snap_semantics.specs.declared.process.Item.{Item}
pub use Rattle.snap_semantics.specs.declared.process.Item.TheVariants.{Step, Call, Crash}
pub use Rattle.snap_semantics.specs.declared.process.Op.{Op}
pub use Rattle.snap_semantics.specs.declared.process.Op.TheVariants.{Scan, Update}
pub use Rattle.snap_semantics.specs.declared.process.Outcome.{Outcome}
pub use Rattle.snap_semantics.specs.declared.process.Outcome.TheVariants.{Called, Stepped, Answered, Finished, Skipped}
pub use Rattle.snap_semantics.specs.declared.process.Reason.{Reason}
pub use Rattle.snap_semantics.specs.State.{State, Process, process_at, values}
pub use Rattle.snap_semantics.specs.Table.{who, places_to, all_true, first_true}
pub use Rattle.snap_runs.specs.Run.{Run, IsValidRun, state, before, item, outcome}
