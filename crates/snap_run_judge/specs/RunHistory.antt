-- The history of a run: what its callers saw.
use Rattle.std.specs.Prelude.{◌≡◌, length}
use Rattle.snap_semantics.specs.IsListing.{IsListing}
use Rattle.snap_semantics.specs.Source.{Source}
use Rattle.snap_runs.specs.Run.{IsValidRun, Run, events_of}
use Rattle.snap_judge.specs.History.{History, IsHistory}

-- the shape and the events of a run
abbrev pub history_of : Run → History
history_of r = record { shape = r.shape; events = events_of r (length r.items) }

-- a valid run of this listing, whose history this is
pub record IsHistoryOf (r : Run) (l : Source) (h : History) : Type 0 where
  pub source : l ≡ r.source
  pub history : h ≡ history_of r
  pub fits : IsValidRun r

-- The events of a run of any listing are a history.
abbrev pub RunsHaveHistories : Type 0
RunsHaveHistories = (r : Run) → IsListing r.source → IsValidRun r → IsHistory (history_of r)
