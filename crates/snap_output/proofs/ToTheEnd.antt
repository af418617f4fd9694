-- Running a schedule to its end without a session writes what the one debugger command `run` writes, with no marks
-- set.
use Rattle.std.proofs.Common.{◌≡◌, ℕ, ◌+◌, ◌-◌, List, [], ◌∷◌, ◌++◌, Result, Ok, Err, length, refl, ◌∙◌, ap, append-nil}
use Rattle.std.proofs.Common.{arith}
use Rattle.std.specs.Prelude.{codes}
use Rattle.snap_semantics.specs.Answers.{◌>>=◌}
use Rattle.snap_semantics.specs.Report.{position_line}
use Rattle.snap_semantics.specs.Schedule.{Schedule}
use Rattle.snap_semantics.specs.Source.{Source}
use Rattle.snap_semantics.specs.declared.refusal.Refusal.{Refusal}
use Rattle.snap_runs.specs.Run.{Run, run_over}
use Rattle.snap_report.specs.RunReport.{report_at}
use Rattle.snap_batch.specs.End.{end_report}
use Rattle.snap_debug_commands.specs.CommandForms as forms
use Rattle.snap_debug_commands.specs.Commands.{commands_of}
use Rattle.snap_debug.specs.Marks.{no_marks}
use Rattle.snap_debug.proofs.Walks.{no_next}
use Rattle.snap_debug.specs.Session.{performance}
use Rattle.snap_debug_commands.specs.declared.command.Command.TheVariants as command
use Rattle.snap_input.specs.Schedules.{schedule_for}
use Rattle.snap_output.specs.Perform.{perform_listing}

-- the one command
pub is_run : commands_of (codes "run\n") ≡ Ok (command.Run ∷ [])
unfolding forms.keyword_form forms.number_form forms.numbers_form forms.place_form forms.bit_form forms.address_form
    forms.breakpoint_form forms.register_form forms.moving_form forms.marking_form forms.showing_form forms.command_form
is_run = refl

-- the reply to it with its line, and the report of the end
abbrev pub ended : Source → Schedule → List ℕ
ended l s = codes "> run\n" ++ position_line (length s.items) (length s.items) ++ end_report l s

-- what it is answered
run_performance : (l : Source) (s : Schedule) → performance (run_over l s) (command.Run ∷ []) ≡ ended l s
unfolding end_report
run_performance l s =
    let n = length s.items in
    let r : Run = run_over l s in
    let all : 0 + (n - 0) ≡ n = omega arith in
    ap (λ t. (codes "> run\n" ++ position_line t n ++ []) ++ report_at r t) (no_next r no_marks 0 (n - 0) refl ∙ all)
    ∙ ap (λ text. text ++ report_at r n) (append-nil (codes "> run\n" ++ position_line n n))

-- no session is needed for it
pub to_the_end : (l : Source) (y : List ℕ) →
    perform_listing l y (codes "run\n") ≡ (schedule_for l y >>= λ s. Ok (ended l s))
unfolding perform_listing
to_the_end l y = rw is_run (go (schedule_for l y)) where
  go : (read : Result Schedule Refusal) →
      (read >>= λ s. Ok (performance (run_over l s) (command.Run ∷ []))) ≡ (read >>= λ s. Ok (ended l s))
  go (Ok s) = ap Ok (run_performance l s)
  go (Err e) = refl
