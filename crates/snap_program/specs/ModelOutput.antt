-- When a model is written for an input, and why none is.
use Rattle.std.specs.Prelude.{◌≡◌, ℕ, Vec, true, ⊤, List, Result, Ok, Err}
use Rattle.std.specs.Global.{Global}
use Rattle.snap_semantics.specs.declared.fault.Fault.TheVariants as inner
use Rattle.snap_tasks.specs.declared.subject.Subject.{Subject}
use Rattle.snap_promela.specs.Model.{AnswersModel, is_small}
use Rattle.snap_live_output.specs.LiveOutput.{Setup, setup_of}
use Rattle.snap_faults.specs.declared.fault.ProgramFault.{ProgramFault}
use Rattle.snap_faults.specs.declared.fault.ProgramFault.TheVariants as fault

-- The input asks to play scripts that are small, so there may be a model.
abbrev pub MayModel : Subject → (input : List ℕ) → Type 0
MayModel s input = (g : Setup) × (setup_of s input ≡ Ok g) × (is_small g.scripts ≡ true)

-- why there is none: the input asks for nothing, or no model holds what it asks for
abbrev pub RefusesModel : Subject → (input : List ℕ) → ProgramFault → Type 0
RefusesModel s input fault.Memory = ⊤
RefusesModel s input (fault.Refused r) = setup_of s input ≡ Err r
RefusesModel s input (fault.Model r) =
    (g : Setup) × (setup_of s input ≡ Ok g) × AnswersModel g.scripts (Err (inner.Refused r))
RefusesModel s input _ = ⊥

-- A text, or why there is none.
abbrev pub AnswersInput : Subject → (input : List ℕ) → Result (Vec ℕ Global) ProgramFault → Type 0
AnswersInput s input (Ok text) = MayModel s input
AnswersInput s input (Err f) = RefusesModel s input f
