-- `AnswersLine`: what snapdraw does about its command line: what it writes for the files that are named, what it says,
-- and the status that it ends with.
use Rattle.std.specs.Prelude.{◌≡◌, ℕ, List, Option, Some, None, Result, Ok, Err, codes}
use Rattle.std.specs.declared.io.ErrorKind.{ErrorKind}
use Rattle.snap_streams.specs.Sent.{Sends, unsent}
use Rattle.snap_streams.specs.declared.sending.Unsent.{Unsent}
use Rattle.snap_streams.specs.State.{SinkState}
use Rattle.snap_faults.specs.Names.{of_program}
use Rattle.snap_faults.specs.Told.{SaysWhy, exit_status, success}
use Rattle.snap_faults.specs.declared.fault.ProgramFault.{ProgramFault}
use Rattle.snap_faults.specs.declared.fault.ProgramFault.TheVariants as fault
use Rattle.snap_options.specs.CommandLines.{AnswersUnasked}
use Rattle.snap_options.specs.declared.invocation.Invocation.{Invocation}
use Rattle.snap_options.specs.declared.invocation.Unasked.{Unasked}
use Rattle.snap_picture.specs.declared.options.Options.{Options}
use Rattle.snap_named_files.specs.Explained.{explained}
use Rattle.snap_named_files.specs.Named.{names_of, view_named}
use Rattle.snap_named_files.specs.Texts.{AreTexts, Read, view_texts}
use Rattle.snap_named_files.specs.declared.texts.Texts.{Texts}
use Rattle.snapdraw.specs.declared.arguments.Drawing.{Drawing}
use Rattle.snapdraw.specs.Drawing.{IsDrawing, options_of}

-- what the program is called
abbrev pub called : List ℕ
called = codes "snapdraw"

-- What was written where this was to be written, or is the reason why nothing is: all of it; or what the sink took
-- before it failed or took nothing; or nothing at all, also where memory ran out.
abbrev pub Writes : Result (Unit {0}) ProgramFault → Result (List ℕ) ProgramFault → (sink sink_after : SinkState) → Type 0
Writes (Ok done) wanted sink sink_after =
    (text : List ℕ) × (wanted ≡ Ok text) × Sends unsent (Ok done) text sink sink_after
Writes (Err fault.Memory) wanted sink sink_after = sink ≡ sink_after
Writes (Err (fault.Write n)) wanted sink sink_after =
    (text : List ℕ) × (wanted ≡ Ok text)
    × ((u : Unsent) × Sends {E = Unsent} unsent (Err u) text sink sink_after × (n ≡ u.count))
Writes (Err f) wanted sink sink_after = (wanted ≡ Err f) × (sink ≡ sink_after)

-- A picture is drawn of these texts and written, or a fault is met.
abbrev pub Draws : Read → Options → (style legend : List ℕ) → Result (Unit {0}) ProgramFault →
    (sink sink_after : SinkState) → Type 0
Draws texts o style legend done sink sink_after =
    (picture : Result (List ℕ) ProgramFault) × IsDrawing texts o style legend picture
    × Writes done picture sink sink_after

-- A picture is drawn of what was read and written, or a fault is met; where nothing was read, nothing is written.
abbrev pub DrawsRead : Result Texts ProgramFault → Option Read → Options → (style legend : List ℕ) →
    Result (Unit {0}) ProgramFault → (sink sink_after : SinkState) → Type 0
DrawsRead (Ok read) texts o style legend done sink sink_after =
    (texts ≡ Some (view_texts read)) × Draws (view_texts read) o style legend done sink sink_after
DrawsRead (Err f) texts o style legend done sink sink_after =
    (texts ≡ None) × (done ≡ Err f) × (sink ≡ sink_after)

-- What the program does about a picture that is asked for. Where a text is refused, it is the one that is explained.
abbrev pub AnswersDrawing : (files : List ℕ → Option (Result (List ℕ) ErrorKind)) → (style legend : List ℕ) →
    Invocation Drawing → (status : ℕ) → (sink sink_after errors errors_after : SinkState) → Type 0
AnswersDrawing files style legend asked status sink sink_after errors errors_after =
    (done : Result (Unit {0}) ProgramFault) × (read : Result Texts ProgramFault) × (texts : Option Read)
    × (status ≡ exit_status success done) × AreTexts files (view_named asked.request.named) read
    × DrawsRead read texts (options_of asked.request) style legend done sink sink_after
    × SaysWhy (names_of called (view_named asked.request.named)) (explained asked.explains texts) done errors errors_after

-- What the program does about a command line, or about one that asks for no picture: what it gives its sink and its
-- device for messages, and its status.
abbrev pub AnswersLine : (files : List ℕ → Option (Result (List ℕ) ErrorKind)) → (style legend : List ℕ) →
    Result (Invocation Drawing) Unasked → (status : ℕ) → (sink sink_after errors errors_after : SinkState) → Type 0
AnswersLine files style legend (Ok asked) status sink sink_after errors errors_after =
    AnswersDrawing files style legend asked status sink sink_after errors errors_after
AnswersLine files style legend (Err unasked) status sink sink_after errors errors_after =
    AnswersUnasked (of_program called) unasked status sink sink_after errors errors_after
