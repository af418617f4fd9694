-- `SumsToReport`: the changes that a trace has of the first t items, made one after another in the first report, give
-- the report after item t.
use Rattle.std.proofs.Common.{◌≡◌, ℕ, zero, suc, [], refl, ap, ◌∙◌}
use Rattle.snap_runs.specs.Run.{Run}
use Rattle.snap_text.specs.Changes.{put_all}
use Rattle.snap_text.proofs.Putting.{put_from}
use Rattle.snap_output.specs.Trace.{changes_to, item_changes, report_lines}
use Rattle.snap_output.proofs.Changes.{put_after}

pub summed : (r : Run) (t : ℕ) → put_all (changes_to r t) (report_lines r 0) ≡ report_lines r t
unfolding item_changes
summed r zero = refl
summed r (suc t) =
    put_after (changes_to r t) (item_changes r (suc t)) (report_lines r 0)
    ∙ ap (put_all (item_changes r (suc t))) (summed r t)
    ∙ put_from 0 [] (report_lines r t) (report_lines r (suc t)) refl
