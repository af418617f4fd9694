-- A whole run of the program, from a byte source to a byte sink.
use Rattle.std.specs.Prelude.{◌≡◌, ℕ, ◌+◌, ◌<◌, ◌≤◌, Vec, Bool, true, List, [], false, take}
use Rattle.std.specs.Prelude.{Result, Ok, Err, IfOk, length, ⊤, ◌⊎◌}
use Rattle.std.specs.Global.{Global}
use Rattle.std.specs.Io.KnownBytes.{Consumes, Appends, IsAtEnd}
use Rattle.snap_input.specs.Parts.{max_input}
use Rattle.snap_live_output.specs.LiveOutput.{MayGiveUp, MayWrite, setup_of}
use Rattle.snap_live_output.specs.Uncalled.{MayTell}
use Rattle.snap_judge.specs.declared.linearizability.Linearizability.{Linearizability}
use Rattle.snap_judge_task.specs.Judged.{judged}
use Rattle.snap_judge_task.specs.JudgeAnswer.{IsJudged}
use Rattle.snap_program.specs.ModelOutput.{MayModel, RefusesModel}
use Rattle.snap_streams.specs.State.{SourceState, SinkState}
use Rattle.snap_tasks.specs.declared.judge_request.JudgeRequest.{JudgeRequest}
use Rattle.snap_tasks.specs.declared.subject.Subject.{Subject}
use Rattle.snap_faults.specs.Told.{Sends}
use Rattle.snap_faults.specs.declared.fault.ProgramFault.{ProgramFault}
use Rattle.snap_faults.specs.declared.fault.ProgramFault.TheVariants as fault

-- the input is all that was there, or one byte more than is allowed
abbrev pub IsWhole : List ℕ → (source_after : SourceState) → Type 0
IsWhole input source_after = (length input ≡ max_input + 1) ⊎ IsAtEnd source_after.left

-- what a run read of a byte source: at most one byte more than is allowed
abbrev pub Takes : List ℕ → (source source_after : SourceState) → Type 0
Takes input source source_after = Consumes source.left source_after.left input × (length input ≤ max_input + 1)

-- reading took an input, whole where it answers one; or it failed, or found no memory
abbrev pub Reads : Result (Vec ℕ Global) ProgramFault → (source source_after : SourceState) → Type 0
Reads (Ok v) source source_after =
    Takes v.items source source_after × IsWhole v.items source_after × (source_after.failed ≡ false)
Reads (Err e) source source_after =
    (input : List ℕ) × Takes input source source_after
    × ((e ≡ fault.Memory) ⊎ ((e ≡ fault.Read) × (source_after.failed ≡ true)))

-- what has been written by a run that answered so, where an input may have these outputs
-- and be refused for these reasons
abbrev pub Writes : (answer : Result (Unit {0}) ProgramFault) (IsOutput : List ℕ → Type 0)
    (Refuses : ProgramFault → Type 0) (text : List ℕ) (source_after : SourceState) (sink_after : SinkState) → Type 0
Writes (Ok done) IsOutput Refuses text source sink = IsOutput text
Writes (Err fault.Memory) IsOutput Refuses text source sink = text ≡ []
Writes (Err fault.Read) IsOutput Refuses text source sink = (text ≡ []) × (source.failed ≡ true)
Writes (Err (fault.Write count)) IsOutput Refuses text source sink =
    (whole : List ℕ) × IsOutput whole × (count < length whole) × (text ≡ take count whole)
    × ((sink.failed ≡ true) ⊎ (sink.stalled ≡ true))
Writes (Err f) IsOutput Refuses text source sink = (text ≡ []) × Refuses f

-- whether the input that was taken is whole; after a read fault or for want of memory it need not be
abbrev pub IsWholeFor : Result (Unit {0}) ProgramFault → List ℕ → (source_after : SourceState) → Type 0
IsWholeFor (Err fault.Memory) input source_after = ⊤
IsWholeFor (Err fault.Read) input source_after = ⊤
IsWholeFor _ input source_after = IsWhole input source_after

-- A whole run on this input: it takes it, and has written what its answer says of the outputs that the input may
-- have, and nothing else.
abbrev pub ConductsOn : (IsOutput : (input text : List ℕ) → Type 0)
    (Refuses : (input : List ℕ) → ProgramFault → Type 0) (input : List ℕ)
    (answer : Result (Unit {0}) ProgramFault) (source source_after : SourceState)
    (sink sink_after : SinkState) → Type 0
ConductsOn IsOutput Refuses input answer source source_after sink sink_after =
    (text : List ℕ) × Takes input source source_after × IsWholeFor answer input source_after
    × Appends sink.taken sink_after.taken text
    × Writes answer (IsOutput input) (Refuses input) text source_after sink_after

-- A whole run of some input.
abbrev pub ConductsBy : (IsOutput : (input text : List ℕ) → Type 0) (Refuses : (input : List ℕ) → ProgramFault → Type 0)
    (answer : Result (Unit {0}) ProgramFault) (source source_after : SourceState)
    (sink sink_after : SinkState) → Type 0
ConductsBy IsOutput Refuses answer source source_after sink sink_after =
    (input : List ℕ) × ConductsOn IsOutput Refuses input answer source source_after sink sink_after

-- where the input is refused, as no history too, it was kept
abbrev pub IsKept : (answer : Result (Unit {0}) ProgramFault) (kept input : List ℕ) → Type 0
IsKept (Err (fault.Refused f)) kept input = kept ≡ input
IsKept (Err (fault.History f)) kept input = kept ≡ input
IsKept _ kept input = ⊤

-- A whole run that keeps its input.
pub record ConductsKeeping (IsOutput : (input text : List ℕ) → Type 0)
    (Refuses : (input : List ℕ) → ProgramFault → Type 0) (kept : List ℕ)
    (answer : Result (Unit {0}) ProgramFault) (source source_after : SourceState)
    (sink sink_after : SinkState) : Type 0 where
  pub input : List ℕ
  pub is_kept : IsKept answer kept input
  pub conducts : ConductsOn IsOutput Refuses input answer source source_after sink sink_after

-- why a live run writes nothing: the input is refused, or the run is given up
abbrev pub RefusesLive : (may : ℕ → ℕ → Bool → Type 0) → Subject → (limit : ℕ) →
    (input : List ℕ) → ProgramFault → Type 0
RefusesLive may subject limit input (fault.Refused f) = setup_of subject input ≡ Err f
RefusesLive may subject limit input (fault.Live f) = MayGiveUp may subject limit input f
RefusesLive may subject limit input _ = ⊥

-- a whole run that also answers what it found, without that
abbrev pub done_of : {A : Type 0} → Result A ProgramFault → Result (Unit {0}) ProgramFault
done_of (Ok found) = Ok tt
done_of (Err e) = Err e

-- A text was sent to a sink; what was found is answered, where all of the text was taken.
pub record Delivers {A : Type 0} (answer : Result A ProgramFault) (text : List ℕ) (found : A)
    (sink sink_after : SinkState) : Type 0 where
  pub sends : Sends (done_of answer) text sink sink_after
  pub answers : IfOk answer (λ a. a ≡ found)

-- an output of a live run, and what is said of the calls that it skipped, where that is answered
abbrev pub IsLiveOf : Result (Vec ℕ Global) ProgramFault → (may : ℕ → ℕ → Bool → Type 0) → Subject → (limit : ℕ) →
    (input text : List ℕ) → Type 0
IsLiveOf (Ok uncalled) may subject limit input text = MayTell may subject limit input text uncalled.items
IsLiveOf (Err e) may subject limit input text = MayWrite may subject limit input text

-- A whole live run that keeps its input, and answers what is said of the calls that it skipped: each input has many
-- outputs, or one refusal; and the run may be given up.
abbrev pub ConductsLiveKeeping : (may : ℕ → ℕ → Bool → Type 0) (subject : Subject) (limit : ℕ) (kept : List ℕ)
    (answer : Result (Vec ℕ Global) ProgramFault) (source source_after : SourceState)
    (sink sink_after : SinkState) → Type 0
ConductsLiveKeeping may subject limit kept answer source source_after sink sink_after =
    ConductsKeeping (IsLiveOf answer may subject limit) (RefusesLive may subject limit) kept
    (done_of answer) source source_after sink sink_after

-- A whole live run, of which no more is answered.
abbrev pub ConductsLive : (may : ℕ → ℕ → Bool → Type 0) (subject : Subject) (limit : ℕ)
    (answer : Result (Unit {0}) ProgramFault) (source source_after : SourceState)
    (sink sink_after : SinkState) → Type 0
ConductsLive may subject limit answer source source_after sink sink_after =
    ConductsBy (MayWrite may subject limit)
    (RefusesLive may subject limit) answer source source_after sink sink_after

-- why nothing is judged
abbrev pub RefusesJudge : JudgeRequest → (input : List ℕ) → ProgramFault → Type 0
RefusesJudge asked input (fault.Refused f) = judged asked.source input ≡ Err (fault.Refused f)
RefusesJudge asked input (fault.History f) = judged asked.source input ≡ Err (fault.History f)
RefusesJudge asked input _ = ⊥

-- what is written of what was judged, and the word for it, where that is answered
abbrev pub IsJudgeOf : Result Linearizability ProgramFault → JudgeRequest → (input text : List ℕ) → Type 0
IsJudgeOf (Ok word) asked input text = IsJudged asked input text word
IsJudgeOf (Err e) asked input text = (word : Linearizability) × IsJudged asked input text word

-- A whole run that judges, and answers the word for what it judged; it keeps its input.
abbrev pub ConductsJudge : (asked : JudgeRequest) (kept : List ℕ) (answer : Result Linearizability ProgramFault)
    (source source_after : SourceState) (sink sink_after : SinkState) → Type 0
ConductsJudge asked kept answer source source_after sink sink_after =
    ConductsKeeping (IsJudgeOf answer asked) (RefusesJudge asked) kept
    (done_of answer) source source_after sink sink_after

-- A whole run that writes a model; it keeps its input. Of the text of a model nothing is promised.
abbrev pub ConductsModel : (subject : Subject) (kept : List ℕ) (answer : Result (Unit {0}) ProgramFault)
    (source source_after : SourceState) (sink sink_after : SinkState) → Type 0
ConductsModel subject kept answer source source_after sink sink_after =
    ConductsKeeping (λ input text. MayModel subject input) (RefusesModel subject) kept
    (done_of answer) source source_after sink sink_after
