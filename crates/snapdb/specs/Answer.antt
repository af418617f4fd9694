-- `AnswersLine`: what snapdb does about its command line: what it shows at its console, what it says, and the status that
-- it ends with.
use Rattle.std.specs.Prelude.{◌≡◌, ◌⊎◌, ℕ, List, Option, Result, Ok, Err, codes, string_bytes}
use Rattle.std.specs.declared.io.ErrorKind.{ErrorKind}
use Rattle.snap_streams.specs.Event.{Shows}
use Rattle.snap_streams.specs.declared.dialog_fault.DialogFault.{DialogFault}
use Rattle.snap_faults.specs.Names.{of_program}
use Rattle.snap_faults.specs.Told.{SaysWhy, Tells, exit_status, success}
use Rattle.snap_faults.specs.declared.fault.ProgramFault.{ProgramFault}
use Rattle.snap_faults.specs.declared.fault.ProgramFault.TheVariants as fault
use Rattle.snap_named_files.specs.Explained.{explained}
use Rattle.snap_named_files.specs.Named.{names_of, view_named}
use Rattle.snap_named_files.specs.Texts.{AreTexts, Read}
use Rattle.snap_named_files.specs.declared.texts.Texts.{Texts}
use Rattle.snap_named_files.specs.declared.named.Named.{Named}
use Rattle.snap_options.specs.CommandLines.{SaysUnread}
use Rattle.snap_options.specs.declared.invocation.Invocation.{Invocation}
use Rattle.snap_options.specs.declared.invocation.Unasked.{Unasked}
use Rattle.snap_options.specs.declared.invocation.Unasked.TheVariants as unasked
use Rattle.snap_streams.specs.Sent.{Says}
use Rattle.snap_streams.specs.State.{SinkState}
use Rattle.snapdb.specs.Talk.{Devices, TalksRead}

-- what the program is called
abbrev pub called : List ℕ
called = codes "snapdb"

-- What the program does about a session: what it shows and keeps at these devices, what it says, and its status. Where a
-- text is refused, it is the one that is explained.
abbrev pub AnswersSession : (files : List ℕ → Option (Result (List ℕ) ErrorKind)) → Invocation Named → (status : ℕ) →
    Devices → (errors errors_after : SinkState) → Type 0
AnswersSession files asked status d errors errors_after =
    (done : Result (Unit {0}) ProgramFault) × (read : Result Texts ProgramFault) × (texts : Option Read)
    × (status ≡ exit_status success done) × AreTexts files (view_named asked.request) read × TalksRead read texts done d
    × SaysWhy (names_of called (view_named asked.request)) (explained asked.explains texts) done errors errors_after

-- Help is shown, and 0 is its status; or the console failed, which is said, and it is 3.
abbrev pub Shown : List ℕ → (status : ℕ) → (shown shown_after : Option (List ℕ)) →
    (errors errors_after : SinkState) → Type 0
Shown text status shown shown_after errors errors_after =
    ((u : Result (Unit {0}) DialogFault) × (u ≡ Ok tt) × (status ≡ 0) × Shows u shown shown_after text
    × (errors ≡ errors_after))
    ⊎ ((f : DialogFault) × (status ≡ 3) × Shows (Err f) shown shown_after text
    × Tells (of_program called) fault.Show errors errors_after)

-- Help, or the version, is shown; or what is wrong with the command line is said, and nothing shown.
abbrev pub AnswersUnasked : Unasked → (status : ℕ) → (shown shown_after : Option (List ℕ)) →
    (errors errors_after : SinkState) → Type 0
AnswersUnasked (unasked.Help text) status shown shown_after errors errors_after =
    Shown (string_bytes text) status shown shown_after errors errors_after
AnswersUnasked (unasked.Wrong text) status shown shown_after errors errors_after =
    (status ≡ 2) × (shown ≡ shown_after) × Says (string_bytes text) errors errors_after
AnswersUnasked (unasked.Unread u) status shown shown_after errors errors_after =
    (shown ≡ shown_after) × SaysUnread u status errors errors_after

-- What the program does about a command line, or about one that asks for no session: what it shows and keeps, what it
-- says, and its status.
abbrev pub AnswersLine : (files : List ℕ → Option (Result (List ℕ) ErrorKind)) → Result (Invocation Named) Unasked →
    (status : ℕ) → Devices → (errors errors_after : SinkState) → Type 0
AnswersLine files (Ok asked) status d errors errors_after = AnswersSession files asked status d errors errors_after
AnswersLine files (Err unasked) status d errors errors_after =
    (d.kept_after ≡ d.kept) × AnswersUnasked unasked status d.shown d.shown_after errors errors_after
