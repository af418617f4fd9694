-- What is printed of a live run, read again: it is cut into a schedule and a report (`LiveRunsAreCut`), and the
-- schedule's run is the same (`LiveRunsAreReadAgain`).
use Rattle.std.proofs.Common.{◌≡◌, ℕ, suc, ◌+◌, ◌-◌, ◌<◌, ◌≤◌, List, ◌++◌, length, drop}
use Rattle.std.proofs.Common.{Ok, refl, sym, ap, ◌∙◌, subst, arith}
use Rattle.std.proofs.Math.Seq.{drop-append_seam}
use Rattle.std.proofs.lemmas.List.Elements.{All-contains, All-from_get_or, All-from_recursion, recursion_from_All}
use Rattle.std.specs.List.{AllByRecursion}
use Rattle.snap_words.specs.Shape.{IsOneOf}
use Rattle.snap_semantics.specs.Schedule.{Schedule, schedule_of}
use Rattle.snap_semantics.specs.ScheduleText.{FitsItem, IsSchedule, schedule_text}
use Rattle.snap_semantics.specs.Table.{who}
use Rattle.snap_semantics.specs.declared.process.Item.{Item}
use Rattle.snap_semantics.specs.declared.process.Item.TheVariants.{Step}
use Rattle.snap_report.specs.RunReport.{report_at}
use Rattle.snap_runs.specs.Run.{Run, item, run_over}
use Rattle.snap_runs.proofs.Calls.{item_one}
use Rattle.snap_sched.specs.Laws.{PrintsAgain, ReadsOnlySpelled}
use Rattle.snap_live.specs.Turns.{run_of, turns_of}
use Rattle.snap_live.specs.declared.seat_state.OwnTurn.{OwnTurn}
use Rattle.snap_live.specs.Play.{IsPlay}
use Rattle.snap_live.specs.Script.{script_at}
use Rattle.snap_live_output.specs.LiveOutput.{IsLiveText, Setup, setting}
use Rattle.snap_history_laws.proofs.threads.Turning.{told_there, turn_at}
use Rattle.snap_history_laws.specs.reruns.Printed.{before_report, report_in}
use Rattle.snap_history_laws.specs.reruns.RunAgain.{IsCut, IsReadAgain, LiveRunsAreCut, LiveRunsAreReadAgain, played}
use Rattle.snap_history_laws.proofs.reruns.Inputs.{input_read}
use Rattle.snap_history_laws.proofs.reruns.Lengths.{schedule_short}
use Rattle.snap_history_laws.proofs.reruns.PlaysFit.{play_fits, script_fits}
use Rattle.snap_history_laws.proofs.reruns.Schedules.{cut_there}
use Rattle.snap_history_laws.proofs.reruns.ScriptsFit.{FitsScript}

module _ (g : Setup) (limit : ℕ) (text : List ℕ) (numbers : AllByRecursion FitsScript g.scripts.scripts)
    (live : IsLiveText g limit text) where
  abbrev history : Run
  history = run_of (setting g) live.items

  -- the numbers of each item have 64 bits: it is a turn of a play of a script
  item_fits : (s : ℕ) → s < length live.items → FitsItem (item history (suc s))
  item_fits s lt =
      let p = who (item history (suc s)) in
      let one : IsOneOf g.scripts.shape.n p = item_one history live.fits s lt in
      let low = one.0 in
      let high = one.1 in
      let k = p - 1 in
      let same : k + 1 ≡ p = omega (arith, low) in
      let turns = turns_of (setting g) p live.items in
      let plays : IsPlay (script_at g.scripts.scripts k) turns =
      subst (λ (q : ℕ). IsPlay (script_at g.scripts.scripts k) (turns_of (setting g) q live.items)) same
      (live.plays k (omega (arith, low, high))) in
      let fit = play_fits (script_at g.scripts.scripts k) turns (script_fits g.scripts.scripts k numbers) plays in
      All-contains (λ (t : OwnTurn). FitsItem t.item) turns (turn_at history p s)
      (All-from_recursion (λ (t : OwnTurn). FitsItem t.item) turns fit)
      (told_there history p s lt refl)

  items_fit : AllByRecursion FitsItem live.items
  items_fit = recursion_from_All FitsItem live.items (All-from_get_or FitsItem live.items (Step 0) item_fits)

  is_schedule : IsSchedule (played g live.items)
  is_schedule = record { shape = live.there.shape; processes = live.fits.all; few = live.short; fits = items_fit }

  cut_written : before_report (schedule_text (played g live.items) ++ report_at history (length live.items))
      ≡ schedule_text (played g live.items)
  cut_written = cut_there (played g live.items) is_schedule (drop 9 (report_at history (length live.items)))

  cut : before_report text ≡ schedule_text (played g live.items)
  cut = ap before_report live.written ∙ cut_written

  report_behind : report_in text ≡ report_at history (length live.items)
  report_behind =
      ap (λ (front : List ℕ). drop (length front) text) cut
      ∙ ap (drop (length (schedule_text (played g live.items)))) live.written
      ∙ drop-append_seam (schedule_text (played g live.items)) (report_at history (length live.items))

  is_cut : IsCut g live.items text
  is_cut = record {
    is_schedule = is_schedule;
    schedule = cut;
    report = report_behind;
    whole = live.written ∙ ap (λ (front : List ℕ). front ++ report_at history (length live.items)) (sym cut)
        ∙ ap (λ (behind : List ℕ). before_report text ++ behind) (sym report_behind);
  }

pub live_runs_are_cut : LiveRunsAreCut
live_runs_are_cut subject limit input text g e live = is_cut g limit text (input_read subject input g e).numbers live

-- of a text that is cut so
module _ (again : PrintsAgain) (only : ReadsOnlySpelled) (g : Setup) (items : List Item) (text : List ℕ)
    (h : IsCut g items text) where
  reads : length (before_report text) ≤ 4194304 → schedule_of (before_report text) ≡ Ok (played g items)
  reads few =
      ap schedule_of h.schedule
      ∙ again (played g items) h.is_schedule (subst (λ (front : List ℕ). length front ≤ 4194304) h.schedule few)

  no_other : (s : Schedule) → schedule_of (before_report text) ≡ Ok s → s ≡ played g items
  no_other s e = let is = reads (only (before_report text) s e).0 in cc

  read_again : IsReadAgain g items text
  read_again = record {
    reads = reads;
    no_other = no_other;
    short = λ few.
        let long = schedule_short (played g items) h.is_schedule in
        subst (λ (front : List ℕ). length front ≤ 4194304) (sym h.schedule) (omega (arith, long, few));
    reports =
        λ s e. ap (λ (x : Schedule). report_at (run_over g.source x) (length x.items)) (no_other s e) ∙ sym h.report;
  }

pub live_runs_are_read_again : PrintsAgain → ReadsOnlySpelled → LiveRunsAreReadAgain
live_runs_are_read_again again only subject limit input text g e live =
    read_again again only g live.items text (live_runs_are_cut subject limit input text g e live)
