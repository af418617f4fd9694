-- `AnswersLine`: what snaphunt does about its command line: what it prints for the files that are there, what it says,
-- and the status that it ends with.
use Rattle.std.specs.Prelude.{◌≡◌, ℕ, Bool, List, [], Option, Some, None, Result, Ok, Err, if◌then◌else◌, codes}
use Rattle.std.specs.declared.io.ErrorKind.{ErrorKind}
use Rattle.snap_streams.specs.Sent.{Sends, unsent}
use Rattle.snap_streams.specs.declared.sending.Unsent.{Unsent}
use Rattle.snap_streams.specs.State.{SinkState}
use Rattle.snap_faults.specs.Names.{Names, of_program}
use Rattle.snap_faults.specs.Told.{SaysWhy, exit_status}
use Rattle.snap_faults.specs.declared.fault.ProgramFault.{ProgramFault}
use Rattle.snap_faults.specs.declared.fault.ProgramFault.TheVariants as fault
use Rattle.snap_semantics.specs.declared.refusal.Refusal.TheVariants as refusal
use Rattle.snap_explanation.specs.Explanation.{explanation}
use Rattle.snap_explanation.specs.declared.layout.Layout.TheVariants as layout
use Rattle.snap_hunt_output.specs.declared.hunt_request.HuntRequest.{HuntRequest}
use Rattle.snap_hunt_output.specs.declared.hunted.Hunted.{Hunted}
use Rattle.snap_hunt_output.specs.declared.hunted.Hunted.TheVariants as hunted
use Rattle.snap_options.specs.CommandLines.{AnswersUnasked}
use Rattle.snap_options.specs.declared.invocation.Invocation.{Invocation}
use Rattle.snap_options.specs.declared.invocation.Unasked.{Unasked}
use Rattle.snaphunt.specs.Search.{Named, File, Shipped, view_listed}
use Rattle.snaphunt.specs.declared.arguments.Search.{Search}
use Rattle.snaphunt.specs.Searching.{ComesTo, IsSearched, hunted_text}

-- 0 where none of the runs fails, 4 where one does
abbrev pub hunted_status : Hunted → ℕ
hunted_status hunted.NoneFails = 0
hunted_status (hunted.Fails k f input) = 4

-- what the program is called, and the file of the listing that it hunts in, where it is not shipped
abbrev pub names_of : Named → Names
names_of (File name) = record { program = codes "snaphunt"; listing = Some name; schedule = None }
names_of (Shipped kind) = of_program (codes "snaphunt")

-- What was printed of a hunt that came to this, or of one that came to nothing: all of its text; or what the sink took
-- before it failed or took nothing; or nothing at all.
abbrev pub Prints : HuntRequest → (came done : Result Hunted ProgramFault) → (sink sink_after : SinkState) → Type 0
Prints a came (Ok h) sink sink_after =
    (came ≡ Ok h) × ((u : Result (Unit {0}) Unsent) × (u ≡ Ok tt) × Sends unsent u (hunted_text a h) sink sink_after)
Prints a came (Err (fault.Write n)) sink sink_after =
    (h : Hunted) × (came ≡ Ok h)
    × ((u : Unsent) × Sends {E = Unsent} unsent (Err u) (hunted_text a h) sink sink_after × (n ≡ u.count))
Prints a came (Err fault.Memory) sink sink_after = sink ≡ sink_after
Prints a came (Err f) sink sink_after = (came ≡ Err f) × (sink ≡ sink_after)

-- What was done about a hunt in the runs of the listing that a text is, and what was printed of it.
abbrev pub HuntsIn : (text : List ℕ) → HuntRequest → Result Hunted ProgramFault → (sink sink_after : SinkState) → Type 0
HuntsIn text a done sink sink_after =
    (came : Result Hunted ProgramFault) × ComesTo text a came × Prints a came done sink sink_after

-- What was done about a search in the runs of the listing that is named, whose text this is where it has one, and what
-- was printed of it.
abbrev pub Hunts : (files : List ℕ → Option (Result (List ℕ) ErrorKind)) → Named → HuntRequest → (text : List ℕ) →
    Result Hunted ProgramFault → (sink sink_after : SinkState) → Type 0
Hunts files named a text done sink sink_after =
    (came : Result Hunted ProgramFault) × IsSearched files named a text came × Prints a came done sink sink_after

-- What is said behind the line of a fault, where refusals are explained: what `snaplab check` says of the listing. A
-- shape is no part of it.
abbrev pub why : (text : List ℕ) → ProgramFault → List ℕ
why text (fault.Refused (refusal.Words f)) = []
why text (fault.Refused r) = explanation layout.Listing text r
why text (fault.TooLong w) = explanation layout.Listing text refusal.InputTooLong
why text _ = []

abbrev pub explained : (explains : Bool) → (text : List ℕ) → ProgramFault → List ℕ
explained explains text f = if explains then why text f else []

-- What the program does about a search. Where the listing is refused, it is the one that is explained.
abbrev pub AnswersSearch : (files : List ℕ → Option (Result (List ℕ) ErrorKind)) → Invocation Search → (status : ℕ) →
    (sink sink_after errors errors_after : SinkState) → Type 0
AnswersSearch files asked status sink sink_after errors errors_after =
    (done : Result Hunted ProgramFault) × (text : List ℕ) × (status ≡ exit_status hunted_status done)
    × Hunts files (view_listed asked.request.listed) asked.request.asked text done sink sink_after
    × SaysWhy (names_of (view_listed asked.request.listed)) (explained asked.explains text) done errors errors_after

-- What the program does about a command line, or about one that asks for no hunt: what it gives its sink and its device
-- for messages, and its status.
abbrev pub AnswersLine : (files : List ℕ → Option (Result (List ℕ) ErrorKind)) → Result (Invocation Search) Unasked →
    (status : ℕ) → (sink sink_after errors errors_after : SinkState) → Type 0
AnswersLine files (Ok asked) status sink sink_after errors errors_after =
    AnswersSearch files asked status sink sink_after errors errors_after
AnswersLine files (Err unasked) status sink sink_after errors errors_after =
    AnswersUnasked (of_program (codes "snaphunt")) unasked status sink sink_after errors errors_after
