-- What a live run answers for an input: the history that it writes, and what is said of operations that call nothing;
-- or why it writes nothing.
use Rattle.std.specs.Prelude.{◌≡◌, ℕ, List, Bool, Result, Ok, Err, ⊤}
use Rattle.snap_tasks.specs.declared.subject.Subject.{Subject}
use Rattle.snap_live_output.specs.LiveOutput.{MayGiveUp, setup_of}
use Rattle.snap_live_output.specs.Uncalled.{MayTell}
use Rattle.snap_faults.specs.declared.fault.ProgramFault.{ProgramFault}
use Rattle.snap_faults.specs.declared.fault.ProgramFault.TheVariants as fault
use Rattle.snap_live_output.specs.declared.output.LiveOutput.{LiveOutput}

-- A text; or why the input says nothing to play; or why the run was given up.
abbrev pub AnswersLive : (may : ℕ → ℕ → Bool → Type 0) → Subject → (limit : ℕ) → (input : List ℕ) →
    Result LiveOutput ProgramFault → Type 0
AnswersLive may s limit input (Ok out) =
    MayTell may s limit input out.text.items out.uncalled.items
AnswersLive may s limit input (Err fault.Memory) = ⊤
AnswersLive may s limit input (Err (fault.Refused r)) = setup_of s input ≡ Err r
AnswersLive may s limit input (Err (fault.Live r)) = MayGiveUp may s limit input r
AnswersLive may s limit input (Err _) = ⊥
