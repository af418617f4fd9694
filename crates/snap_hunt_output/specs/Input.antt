-- `input_text`: the input of a failing run that a hunt prints: the listing, a note of what fails, the schedule, and a
-- debugger command that goes to its end.
use Rattle.std.specs.Prelude.{ℕ, ◌-◌, Bool, List, ◌++◌, codes, decimal, length, nat_eq, slice_index, if◌then◌else◌}
use Rattle.snap_semantics.specs.declared.process.Outcome.TheVariants as outcome
use Rattle.snap_semantics.specs.Layout.{line_text}
use Rattle.snap_semantics.specs.Schedule.{Schedule}
use Rattle.snap_semantics.specs.ScheduleText.{schedule_text}
use Rattle.snap_report.specs.OutcomeText.{outcome_text}
use Rattle.snap_audit.specs.VerdictText.{verdict_line}
use Rattle.snap_debug_commands.specs.CommandForms.{spelled_command}
use Rattle.snap_debug_commands.specs.declared.command.Command.TheVariants.{Goto}
use Rattle.snap_hunt.specs.declared.failures.Failure.{Failure}
use Rattle.snap_hunt.specs.declared.failures.Failure.TheVariants as failure
use Rattle.snap_hunt.specs.declared.failures.OwnSteps.{OwnSteps}

-- whether the last line of a text has its line feed
abbrev pub ends_line : List ℕ → Bool
ends_line text = nat_eq (slice_index text (length text - 1)) 10

-- a listing, with a line feed behind its last line
abbrev pub listing_part : List ℕ → List ℕ
listing_part listing = if ends_line listing then listing else listing ++ codes "\n"

-- `scan I call C step N item T`, or `update` where it is one: by item T, the N-th step of its own,
-- the operation has taken too many
abbrev pub steps_line : (i t : ℕ) → OwnSteps → List ℕ
steps_line i t own =
    (if own.update then codes "update " else codes "scan ") ++ decimal i ++ codes " call " ++ decimal own.call
    ++ codes " step " ++ decimal own.count
    ++ codes " item " ++ decimal t ++ codes "\n"

-- the event at which a run is not linearizable any more, an item of process i, in the words of a judgement
abbrev pub order_line : (i t : ℕ) → List ℕ
order_line i t = codes "not linearizable: event " ++ decimal t ++ codes " process " ++ decimal i ++ codes "\n"

-- what fails, in the words of a judgement, of the audit, as a trap, or as a step too many
abbrev pub failure_line : Failure → List ℕ
failure_line (failure.NotLinearizable i t) = order_line i t
failure_line (failure.NoPoint v) = verdict_line v
failure_line (failure.ManyCollects v) = verdict_line v
failure_line (failure.ManySteps i t own) = steps_line i t own
failure_line (failure.Trapped i line cause) =
    codes "process " ++ decimal i ++ codes " " ++ outcome_text (outcome.Trapped cause)
    ++ codes " at " ++ decimal line ++ codes "\n"

-- `# run K of seed S: FAILURE`
abbrev pub run_note : (seed k : ℕ) → Failure → List ℕ
run_note seed k f = codes "# run " ++ decimal k ++ codes " of seed " ++ decimal seed ++ codes ": " ++ failure_line f

-- a listing, a schedule whose run fails so, and a command that goes to its last item
abbrev pub input_text : List ℕ → (seed k : ℕ) → Failure → Schedule → List ℕ
input_text listing seed k f s =
    listing_part listing ++ codes "%\n" ++ run_note seed k f ++ schedule_text s ++ codes "%\n"
    ++ line_text (spelled_command (Goto (length s.items)))
