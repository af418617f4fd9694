-- `end_report`, the report of the end of a schedule's run, is the report of the state and of all events after its
-- last item.
use Rattle.std.proofs.Common.{◌≡◌, length, refl, arith}
use Rattle.std.proofs.lemmas.List.{take_all}
use Rattle.snap_semantics.specs.Report.{report_text}
use Rattle.snap_semantics.specs.Run.{after, events}
use Rattle.snap_semantics.specs.Schedule.{Schedule}
use Rattle.snap_semantics.specs.Source.{Source}
use Rattle.snap_semantics.specs.State.{initial}
use Rattle.snap_batch.specs.End.{end_report}

-- the report is of the machine at the end, and of all events
pub end_reported : (l : Source) (s : Schedule) →
    report_text l.kind (after l s.shape (initial l s.shape) s.items) (events l s.shape (initial l s.shape) 1 s.items)
    (length s.items) (length s.items) ≡ end_report l s
unfolding end_report
end_reported l s = rw (take_all (length s.items) s.items (omega arith)) refl
