-- What a page in a browser asks a hunt for (`hunt_asked`), and the code and the text that it is handed for what the hunt
-- comes to (`IsHandedHunt`).
use Rattle.std.specs.Prelude.{◌≡◌, ◌⊎◌, ℕ, ◌≤◌, true, false, List, [], Some, None, Result, Ok, Err, length, take}
use Rattle.snap_words.specs.Shape.{Counts, IsShape}
use Rattle.snap_chance.specs.Plan.{Plan}
use Rattle.snap_chance.specs.declared.plan.Pace.TheVariants.{Mixed}
use Rattle.snap_hunt.specs.declared.failures.StepBound.TheVariants.{Shipped}
use Rattle.snap_hunt.specs.declared.failures.Wanted.{Wanted}
use Rattle.snap_faults.specs.RefusalText.{refusal_line}
use Rattle.snap_hunt_output.specs.Hunted.{IsDue, IsHunted}
use Rattle.snap_hunt_output.specs.declared.hunt_request.HuntRequest.{HuntRequest}
use Rattle.snap_hunt_output.specs.declared.hunted.Hunted.{Hunted}
use Rattle.snap_hunt_output.specs.declared.hunted.Hunted.TheVariants as hunted
use Rattle.snap_faults.specs.declared.fault.ProgramFault.{ProgramFault}
use Rattle.snap_faults.specs.declared.fault.ProgramFault.TheVariants as fault

-- how many runs a page asks for at most
abbrev pub most_runs : ℕ
most_runs = 1000000

-- numbers of processes, words and runs of which there can be a hunt
abbrev pub IsHuntable : (n w runs : ℕ) → Type 0
IsHuntable n w runs = IsShape n w × (runs ≤ most_runs)

-- schedules of 120 turns, in which processes take turns in all ways
abbrev pub hunt_plan : Counts → Plan
hunt_plan shape =
    record { shape = shape; owns = false; pace = Mixed; turns = 120; crashes = 0; repeated = 1; depth = None }

-- A run fails that is not linearizable, that has a trap, or that has an operation of more steps of its own than one of
-- the shipped listing of its kind takes.
abbrev pub hunt_wanted : Wanted
hunt_wanted = record { linearizable = true; point = false; trap = true; steps = Some Shipped; collects = None }

-- what a page's hunt is asked for: so many runs of a seed
abbrev pub hunt_asked : (n w seed runs : ℕ) → HuntRequest
hunt_asked n w seed runs =
    record { plan = hunt_plan (record { n = n; w = w }); wanted = hunt_wanted; seed = seed; runs = runs }

-- what a hunt of a listing's text comes to, or a fault that is due
abbrev pub IsHuntAnswer : (listing : List ℕ) → HuntRequest → Result Hunted ProgramFault → Type 0
IsHuntAnswer listing a (Ok h) = IsHunted listing a h
IsHuntAnswer listing a (Err why) = IsDue listing a why

-- 0 with what a hunt comes to, 1 with a refusal, 2 without memory, and 5 where a run fails of which none is printed;
-- other faults are none of a hunt
abbrev pub hunt_code : Result Hunted ProgramFault → ℕ
hunt_code (Ok h) = 0
hunt_code (Err (fault.Refused r)) = 1
hunt_code (Err fault.Memory) = 2
hunt_code (Err fault.Unsaid) = 5
hunt_code (Err _) = 2

-- the input of a small run that fails, no text where none does, or the line that says why there is no hunt
abbrev pub hunt_text : Result Hunted ProgramFault → List ℕ
hunt_text (Ok hunted.NoneFails) = []
hunt_text (Ok (hunted.Fails run failure input)) = input.items
hunt_text (Err (fault.Refused r)) = refusal_line r
hunt_text (Err _) = []

-- A page is handed the code of a hunt's answer with its text; or there was no memory for them, or too little room, and
-- then it is told how long the text is.
abbrev pub IsHandedHunt : Result Hunted ProgramFault → (code len : ℕ) → (room : List ℕ) → Type 0
IsHandedHunt answer code len room =
    ((code ≡ hunt_code answer) × (take len room ≡ hunt_text answer))
    ⊎ ((code ≡ 2) ⊎ ((code ≡ 3) × (len ≡ length (hunt_text answer))))
