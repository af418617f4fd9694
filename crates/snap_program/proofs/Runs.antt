-- What a whole run of the program has read and written, by cases on its answer: no memory, a refusal, a device that
-- failed, or all of the output.
use Rattle.std.proofs.Common.{◌≡◌, ℕ, Bool, List, [], Result, Ok, Err, Vec}
use Rattle.std.proofs.Common.{take, inl, inr, refl, sym, subst}
use Rattle.std.specs.Prelude.{⊤, IsErr, IsErrAnd}
use Rattle.std.specs.Global.{Global}
use Rattle.std.proofs.KnownBytes.{Appends-nil}
use Rattle.snap_semantics.specs.Answers.{IsRefusal}
use Rattle.snap_semantics.specs.declared.fault.Fault.{Fault}
use Rattle.snap_semantics.specs.declared.fault.Fault.TheVariants as inner
use Rattle.snap_semantics.specs.declared.refusal.Refusal.{Refusal}
use Rattle.snap_streams.specs.State.{SourceState, SinkState}
use Rattle.snap_faults.specs.Faults.{of_input_fault}
use Rattle.snap_faults.specs.declared.fault.ProgramFault.{ProgramFault}
use Rattle.snap_faults.specs.declared.fault.ProgramFault.TheVariants as fault
use Rattle.snap_live_output.specs.LiveAnswer.{AnswersLive}
use Rattle.snap_live_output.specs.LiveOutput.{MayWrite}
use Rattle.snap_judge_task.specs.JudgeAnswer.{AnswersJudge}
use Rattle.snap_output.specs.Output.{output_of}
use Rattle.snap_program.specs.ModelOutput.{RefusesModel}
use Rattle.snap_program.specs.TaskRun.{RefusesTask}
use Rattle.snap_program.specs.WholeRun.{ConductsBy, ConductsKeeping, Delivers, IsKept, IsLiveOf, Reads, RefusesJudge}
use Rattle.snap_program.specs.WholeRun.{RefusesLive, done_of}
use Rattle.snap_tasks.specs.declared.judge_request.JudgeRequest.{JudgeRequest}
use Rattle.snap_tasks.specs.declared.subject.Subject.{Subject}
use Rattle.snap_tasks.specs.declared.task.Task.{Task}

-- what holds of a fault holds where it is passed on
pub passed : {A : Type 0} (P : Result A ProgramFault → Type 0) (answer : Result A ProgramFault) (e : ProgramFault) →
    IsErr answer × IsErrAnd answer (λ f. f ≡ e) → P (Err e) → P answer
passed P (Ok found) e from h = absurd from.1
passed P (Err f) e from h = subst (λ (x : ProgramFault). P (Err x)) (sym from.1) h

-- what was read is kept
pub is_kept : (e : ProgramFault) (input : List ℕ) → IsKept (Err e) input input
is_kept (fault.Refused f) input = refl
is_kept (fault.History f) input = refl
is_kept _ input = tt

-- what is kept of an input that is refused is all of it
pub still_kept : {A : Type 0} (e : Fault Refusal) {kept input : List ℕ} →
    ((r : Refusal) → ◌≡◌ {A = Result A (Fault Refusal)} (Err e) (Err (inner.Refused r)) → kept ≡ input) →
    IsKept (Err (of_input_fault e)) kept input
still_kept inner.Memory h = tt
still_kept (inner.Refused r) h = h r refl

-- why nothing was written, where no device failed
abbrev pub Why : (Refuses : ProgramFault → Type 0) → ProgramFault → Type 0
Why Refuses fault.Memory = ⊤
Why Refuses fault.Read = ⊥
Why Refuses (fault.Write count) = ⊥
Why Refuses f = Refuses f

-- a live run is refused or given up as its output says
pub why_live : (e : ProgramFault) (may : ℕ → ℕ → Bool → Type 0) (subject : Subject) (limit : ℕ) (input : List ℕ) →
    AnswersLive may subject limit input (Err e) → Why (RefusesLive may subject limit input) e
why_live fault.Memory may subject limit input h = tt
why_live e may subject limit input h = h

-- what a live run may write, with what is said of it, and where that is not answered
pub writes_live : (answer : Result (Vec ℕ Global) ProgramFault) (may : ℕ → ℕ → Bool → Type 0) (subject : Subject)
    (limit : ℕ) (input text : List ℕ) → IsLiveOf answer may subject limit input text →
    MayWrite may subject limit input text
writes_live (Ok told) may subject limit input text h = (h.0, h.1, h.2.0)
writes_live (Err e) may subject limit input text h = h

-- what is judged is refused as its output says
pub why_judge : (e : ProgramFault) (asked : JudgeRequest) (input : List ℕ) → AnswersJudge asked input (Err e) →
    Why (RefusesJudge asked input) e
why_judge fault.Memory asked input h = tt
why_judge e asked input h = h

-- a model is refused as its output says
pub why_model : (e : ProgramFault) (subject : Subject) (input : List ℕ) → RefusesModel subject input e →
    Why (RefusesModel subject input) e
why_model fault.Memory subject input h = tt
why_model e subject input h = h

-- a task is refused as its output says
pub why_task : (e : Fault Refusal) (task : Task) (input : List ℕ) → IsRefusal e (output_of [] task input) →
    Why (RefusesTask task input) (of_input_fault e)
why_task inner.Memory task input h = tt
why_task (inner.Refused f) task input h = h

module _ {Refuses : List ℕ → ProgramFault → Type 0} {kept : List ℕ} {source source_after : SourceState}
    {sink : SinkState} where
  module _ {IsOutput : List ℕ → List ℕ → Type 0} where
    not_read_so : (e : ProgramFault) → Reads (Err e) source source_after →
        ConductsKeeping IsOutput Refuses kept (Err e) source source_after sink sink
    not_read_so e h = elim h.2 [
      | inl is ↦ rw is (record { input = h.0; is_kept = tt; conducts = ([], h.1, tt, Appends-nil sink.taken, refl) })
      | inr failed ↦ rw failed.0
          (record { input = h.0; is_kept = tt; conducts = ([], h.1, tt, Appends-nil sink.taken, (refl, failed.1)) })
    ]

    -- reading failed
    pub not_read : {A : Type 0} (answer : Result A ProgramFault) (e : ProgramFault) →
        IsErr answer × IsErrAnd answer (λ f. f ≡ e) → Reads (Err e) source source_after →
        ConductsKeeping IsOutput Refuses kept (done_of answer) source source_after sink sink
    not_read answer e from h =
        passed (λ x. ConductsKeeping IsOutput Refuses kept (done_of x) source source_after sink sink) answer e from
        (not_read_so e h)

    refused_so : (v : Vec ℕ Global) {now : List ℕ} (e : ProgramFault) → Reads (Ok v) source source_after →
        now ≡ v.items → IsKept (Err e) kept v.items → Why (Refuses now) e →
        ConductsKeeping IsOutput Refuses kept (Err e) source source_after sink sink
    refused_so v fault.Memory read same is_kept why =
        record { input = v.items; is_kept = tt; conducts = ([], read.0, tt, Appends-nil sink.taken, refl) }
    refused_so v fault.Read read same is_kept why = absurd why
    refused_so v (fault.Write count) read same is_kept why = absurd why
    refused_so v e read same is_kept why = record {
      input = v.items;
      is_kept = is_kept;
      conducts = ([], read.0, read.1, Appends-nil sink.taken, (refl, rw same at why));
    }

    -- what was read is refused
    pub refused : {A : Type 0} (answer : Result A ProgramFault) (e : ProgramFault) →
        IsErr answer × IsErrAnd answer (λ f. f ≡ e) → (v : Vec ℕ Global) {now : List ℕ} →
        Reads (Ok v) source source_after → now ≡ v.items → IsKept (Err e) kept v.items → Why (Refuses now) e →
        ConductsKeeping IsOutput Refuses kept (done_of answer) source source_after sink sink
    refused answer e from v read same is_kept why =
        passed (λ x. ConductsKeeping IsOutput Refuses kept (done_of x) source source_after sink sink) answer e from
        (refused_so v e read same is_kept why)

  -- an output is sent as far as the sink takes it
  pub sends : {A : Type 0} (IsOutput : Result A ProgramFault → List ℕ → List ℕ → Type 0)
      {answer : Result A ProgramFault} {now text : List ℕ} {found : A} {sink_after : SinkState} (v : Vec ℕ Global) →
      Reads (Ok v) source source_after → now ≡ v.items →
      IsOutput (Ok found) now text → ((e : ProgramFault) → IsOutput (Err e) now text) →
      Delivers answer text found sink sink_after →
      ConductsKeeping (IsOutput answer) Refuses kept (done_of answer) source source_after sink sink_after
  sends IsOutput {answer = Ok a} {text} v read same whole stopped delivered = record {
    input = v.items;
    is_kept = tt;
    conducts = (text, read.0, read.1, delivered.sends, rw delivered.answers (rw same at whole));
  }
  sends IsOutput {answer = Err e} {text} v read same whole stopped delivered =
      let sent = delivered.sends in
      let output = stopped (fault.Write sent.0) in
      rw sent.1 (record {
        input = v.items;
        is_kept = tt;
        conducts = (take sent.0 text, read.0, read.1, sent.3, (text, rw same at output, sent.2, refl, sent.4));
      })

  -- outputs that are these are also those
  pub also : {Narrow : List ℕ → List ℕ → Type 0} (Wide : List ℕ → List ℕ → Type 0)
      (answer : Result (Unit {0}) ProgramFault) {sink_after : SinkState} →
      ((input text : List ℕ) → Narrow input text → Wide input text) →
      ConductsKeeping Narrow Refuses kept answer source source_after sink sink_after →
      ConductsBy Wide Refuses answer source source_after sink sink_after
  also Wide (Ok done) wider h =
      let done = h.conducts in (h.input, (done.0, done.1, done.2, done.3, wider h.input done.0 done.4))
  also Wide (Err (fault.Write count)) wider h =
      let done = h.conducts in
      let out = done.4 in
      (h.input, (done.0, done.1, done.2, done.3, (out.0, wider h.input out.0 out.1, out.2, out.3, out.4)))
  also Wide (Err e) wider h = (h.input, h.conducts)
