-- `LiveRunsAreSnapshots`: what a live run of U, B or M writes, of the shipped listing or of a text that is read as it,
-- is the history of a run that keeps all promises of the listing.
use Rattle.std.specs.Prelude.{◌≡◌, ℕ, List, Ok}
use Rattle.snap_words.specs.declared.kind.KindTag.{KindTag}
use Rattle.snap_runs.specs.Run.{Run, IsValidRun}
use Rattle.snap_shipped.specs.Kept.{KeepsPromises}
use Rattle.snap_shipped.specs.Shipped.{shipped}
use Rattle.snap_input.specs.Input.{listing_for}
use Rattle.snap_input.specs.Parts.{parts_of}
use Rattle.snap_tasks.specs.declared.subject.Subject.{Subject}
use Rattle.snap_live_output.specs.LiveOutput.{IsLiveOutput, history_text}

-- the text is the history of a run of the listing that is shipped for a kind, which keeps all that is promised of it
pub record IsSnapshotText (g : KindTag) (text : List ℕ) : Type 0 where
  pub run : Run
  pub of_listing : run.source ≡ shipped g
  pub fits : IsValidRun run
  pub promises : KeepsPromises g run
  pub written : text ≡ history_text run

-- Whatever threads do, what a live run writes is such a history where its listing is that of a kind: where that is the
-- shipped one (`listing_for (Shipped k) parts` is it, by definition), and where the first part is read as it.
abbrev pub LiveRunsAreSnapshots : Type 0
LiveRunsAreSnapshots = (k : KindTag) (s : Subject) (limit : ℕ) (input text : List ℕ) →
    listing_for s (parts_of input) ≡ Ok (shipped k) → IsLiveOutput s limit input text → IsSnapshotText k text
