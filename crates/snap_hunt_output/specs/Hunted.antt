-- `IsHunted`: what a hunt comes to, that no run fails, or the first that does (`IsFound`), and the text of a small
-- schedule whose run fails as it does (`IsPrinted`); `asked_source`, the listing that is asked for, or why it is
-- refused.
use Rattle.std.specs.Prelude.{◌≡◌, ℕ, List, Option, Some, None, Result, Ok, Err, ⊤, if◌then◌else◌}
use Rattle.snap_words.specs.Kind.{fits}
use Rattle.snap_words.specs.declared.shape.WordFault.TheVariants.{BadShape}
use Rattle.snap_semantics.specs.Answers.{◌>>=◌, refused_as}
use Rattle.snap_semantics.specs.Listing.{listing_of}
use Rattle.snap_semantics.specs.Schedule.{Schedule}
use Rattle.snap_semantics.specs.Source.{Source}
use Rattle.snap_semantics.specs.declared.refusal.Refusal.{Refusal}
use Rattle.snap_semantics.specs.declared.refusal.Refusal.TheVariants as refusal
use Rattle.snap_runs.specs.Run.{Run, run_over}
use Rattle.snap_chance.specs.Chance.{schedule_of}
use Rattle.snap_chance.specs.Plan.{Plan}
use Rattle.snap_hunt.specs.Finding.{Finds}
use Rattle.snap_hunt.specs.Kinds.{kind_of, with_only}
use Rattle.snap_hunt.specs.declared.failures.Failure.{Failure}
use Rattle.snap_hunt.specs.declared.failures.FailureKind.{FailureKind}
use Rattle.snap_hunt.specs.declared.failures.Wanted.{Wanted}
use Rattle.snap_hunt.specs.Hunt.{IsFirst}
use Rattle.snap_hunt.specs.declared.found.Found.{Found}
use Rattle.snap_hunt.specs.Shrinking.{IsShrunk}
use Rattle.snap_hunt_output.specs.HuntRequest.{owned}
use Rattle.snap_hunt_output.specs.Check.{run_in_input}
use Rattle.snap_hunt_output.specs.Input.{input_text}
use Rattle.snap_hunt_output.specs.declared.hunt_request.HuntRequest.{HuntRequest}
use Rattle.snap_hunt_output.specs.declared.hunted.Hunted.{Hunted}
use Rattle.snap_hunt_output.specs.declared.hunted.Hunted.TheVariants as hunted
use Rattle.snap_faults.specs.declared.fault.ProgramFault.{ProgramFault}
use Rattle.snap_faults.specs.declared.fault.ProgramFault.TheVariants.{Memory, Refused, Unsaid}

-- what a hunt of a listing is to find: the first of the runs that are asked for in which something fails, or none
abbrev pub IsFirstOf : Source → HuntRequest → Option Found → Type 0
IsFirstOf l a = IsFirst l (owned l.kind a.plan) a.wanted a.seed 0 a.runs

-- The text is that of the listing, of a note, and of a small schedule: it has no more processes, words and items than
-- that of run k, this fails in its run, and without any one of its items nothing of this kind is found in the run.
-- The note has the seed, the run and what fails.
pub record IsPrinted (l : Source) (p : Plan) (text : List ℕ) (a : HuntRequest) (k : ℕ) (kind : FailureKind) (f :
    Failure)
    (input : List ℕ) : Type 0 where
  pub small : Schedule
  pub shrunk : IsShrunk l (with_only kind a.wanted) (schedule_of a.seed k p) small
  pub fails : Finds (with_only kind a.wanted) (run_over l small) (Some f)
  pub printed : input ≡ input_text text a.seed k f small

-- Read as the debugger reads it, an input has a run in which this fails.
abbrev pub Says : Wanted → List ℕ → Failure → Type 0
Says w input f = (r : Run) × (run_in_input input ≡ Ok r) × Finds w r (Some f)

-- A run is the first one that fails, and the input is the text of a small schedule in whose run a failure of the same
-- kind is found. Read as the debugger reads it, the input has a run that fails so.
pub record IsFound (l : Source) (text : List ℕ) (a : HuntRequest) (k : ℕ) (f : Failure) (input : List ℕ) : Type 0 where
  pub found : Failure
  pub first : IsFirstOf l a (Some (record { run = k; failure = found }))
  pub alike : kind_of found ≡ kind_of f
  pub printed : IsPrinted l (owned l.kind a.plan) text a k (kind_of f) f input
  pub says : Says (with_only (kind_of f) a.wanted) input f

abbrev pub IsHuntedOf : Source → List ℕ → HuntRequest → Hunted → Type 0
IsHuntedOf l text a hunted.NoneFails = IsFirstOf l a None
IsHuntedOf l text a (hunted.Fails k f input) = IsFound l text a k f input.items

-- the listing of a hunt; it is refused as `check` refuses it, and where the shape does not fit its kind
abbrev pub asked_source : List ℕ → HuntRequest → Result Source Refusal
asked_source text a = do
  l ← refused_as refusal.Listing (listing_of text)
  if fits l.kind a.plan.shape then Ok l else Err (refusal.Words BadShape)

-- what a hunt comes to, for the listing that a text is
pub record IsHunted (text : List ℕ) (a : HuntRequest) (h : Hunted) : Type 0 where
  pub listing : Source
  pub is : asked_source text a ≡ Ok listing
  pub hunted : IsHuntedOf listing text a h

-- a fault that refuses nothing
abbrev pub IsNoRefusal : ProgramFault → Type 0
IsNoRefusal Memory = ⊤
IsNoRefusal Unsaid = ⊤
IsNoRefusal _ = ⊥

-- a fault of a hunt of a listing: it refuses nothing, and unless memory ran out a run fails
abbrev pub IsFaultOf : Source → HuntRequest → ProgramFault → Type 0
IsFaultOf l a Memory = ⊤
IsFaultOf l a Unsaid = (x : Found) × IsFirstOf l a (Some x)
IsFaultOf l a _ = ⊥

-- a fault that is due: a refusal is that of what is asked for, and where nothing is refused it is one of its listing
abbrev pub IsDue : List ℕ → HuntRequest → ProgramFault → Type 0
IsDue text a Memory = ⊤
IsDue text a (Refused r) = asked_source text a ≡ Err r
IsDue text a Unsaid = (l : Source) × (asked_source text a ≡ Ok l) × ((x : Found) × IsFirstOf l a (Some x))
IsDue text a _ = ⊥
