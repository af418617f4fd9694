-- `talk_about` of snapdb (src/about.rt): the proof of what its contract says.
use Rattle.std.proofs.Common.{ℕ, List, Option, Result, Ok, Err, IfSome}
use Rattle.std.specs.Prelude.{OnErr}
use Rattle.snap_streams.specs.Dialog.{ShowsTranscriptPart}
use Rattle.snap_streams.specs.TypedLines.{typed_lines}
use Rattle.snap_streams.proofs.Dialogs.{shown_first}
use Rattle.snap_streams.proofs.Parts.{shown_between}
use Rattle.snap_runs.specs.Run.{run_over}
use Rattle.snap_prompt.specs.Prompt.{Prompt, Says, next_line, opened_prompt, prompt_text}
use Rattle.snap_faults.specs.declared.fault.ProgramFault.{ProgramFault}
use Rattle.snapdb.proofs.about.talk_about.Goals as goal

-- what holds anyway holds of an error
on_err : {A : Type 0} {P : Type 0} (answer : Result A ProgramFault) → P → OnErr answer P
on_err (Ok found) p = tt
on_err (Err fault) p = p

-- nothing was shown
none_shown : (p : Prompt) (left u : Option (List ℕ)) →
    IfSome left (λ input. ShowsTranscriptPart prompt_text Says next_line p (typed_lines input) u u)
none_shown p left u =
    shown_between prompt_text Says next_line p p left left u u (shown_first prompt_text Says next_line p left u)

pub returns-in_err-schedule-clause-shown_part : goal.returns-in_err-schedule-clause-shown_part
returns-in_err-schedule-clause-shown_part g c =
    on_err c.from_residual.result
    (λ s is.
    none_shown (opened_prompt (run_over c.args.program.now s) c.args.shows (g.S.Folder.kept c.args.folder.now)) (g.C.Console.left c.args.console.now)
    (g.C.Console.shown c.args.console.now))
