-- The schedule that is printed of a live run, given to the task `run` with the same listing, prints the live run's
-- report again (`LiveRunsAreRunAgain`).
use Rattle.std.proofs.Common.{◌≡◌, ℕ, true, List, [], ◌∷◌, ◌++◌, Ok, codes, length, refl, sym, ap, ◌∙◌}
use Rattle.snap_words.specs.Kind.{fits}
use Rattle.snap_semantics.specs.Answers.{◌>>=◌}
use Rattle.snap_semantics.specs.Report.{position_line}
use Rattle.snap_semantics.specs.Schedule.{Schedule, schedule_of}
use Rattle.snap_semantics.specs.Source.{Source}
use Rattle.snap_semantics.specs.declared.process.Item.{Item}
use Rattle.snap_batch.specs.End.{end_report}
use Rattle.snap_input.specs.Schedules.{schedule_for}
use Rattle.snap_output.proofs.ToTheEnd.{ended, to_the_end}
use Rattle.snap_input.specs.Parts.{parts_of}
use Rattle.snap_live_output.specs.LiveOutput.{Setup}
use Rattle.snap_history_laws.specs.reruns.Printed.{before_report}
use Rattle.snap_history_laws.specs.reruns.RunAgain.{IsCut, LiveRunsAreCut, LiveRunsAreReadAgain, played}
use Rattle.snap_history_laws.proofs.reruns.Inputs.{input_read}
use Rattle.snap_history_laws.proofs.reruns.Schedules.{alone}
use Rattle.snap_history_laws.specs.reruns.Rerun.{LiveRunsAreRunAgain, printed_again}

-- what is run of a text that is a schedule
is_ended : (l : Source) (y : List ℕ) (s : Schedule) → schedule_of y ≡ Ok s → fits l.kind s.shape ≡ true →
    (schedule_for l y >>= λ found. Ok (ended l found)) ≡ Ok (ended l s)
unfolding schedule_for
is_ended l y s is fit = rw (is, fit) refl

-- the report of the run that is read again is the one that the live run has printed
reports : (g : Setup) (items : List Item) (text : List ℕ) → IsCut g items text →
    ended g.source (played g items) ≡ printed_again (length items) text
unfolding end_report
reports g items text h =
    ap (λ (report : List ℕ). codes "> run\n" ++ position_line (length items) (length items) ++ report) (sym h.report)

pub run_again : LiveRunsAreCut → LiveRunsAreReadAgain → LiveRunsAreRunAgain
run_again cut read subject limit input text g e live =
    let h = cut subject limit input text g e live in
    let s = played g live.items in
    let y = before_report text in
    record {
      runs = λ few.
          to_the_end g.source y
          ∙ is_ended g.source y s ((read subject limit input text g e live).reads few)
          (input_read subject input g e).shape
          ∙ ap (λ (out : List ℕ). Ok out) (reports g live.items text h);
      one_part = ap parts_of h.schedule ∙ alone s h.is_schedule ∙ ap (λ (front : List ℕ). front ∷ []) (sym h.schedule);
    }
