-- A shape and events that are those of a run make its history.
use Rattle.std.proofs.Common.{◌≡◌, List, ap, length, ◌∙◌}
use Rattle.snap_words.specs.Shape.{Counts}
use Rattle.snap_semantics.specs.Source.{Source}
use Rattle.snap_semantics.specs.declared.event.Event.{Event}
use Rattle.snap_runs.specs.Run.{IsValidRun, Run, events_of}
use Rattle.snap_judge.specs.History.{History}
use Rattle.snap_run_judge.specs.RunHistory.{IsHistoryOf}

-- the history that is made of these
abbrev pub history_by : Counts → List Event → History
history_by n es = record { shape = n; events = es }

pub is_history : (r : Run) (l : Source) (n : Counts) (es : List Event) → IsValidRun r → l ≡ r.source → n ≡ r.shape →
    es ≡ events_of r (length r.items) → IsHistoryOf r l (history_by n es)
is_history r l n es fits source shape events = record {
  source = source;
  history = ap (λ m. history_by m es) shape ∙ ap (history_by r.shape) events;
  fits = fits;
}
