-- Plays of a script: what a process does of it, turn by turn.
use Rattle.std.specs.Prelude.{◌≡◌, ℕ, ◌+◌, List, [], ◌∷◌, Option, MatchBool}
use Rattle.snap_semantics.specs.declared.process.Item.{Item}
use Rattle.snap_semantics.specs.declared.process.Item.TheVariants.{Step, Call, Crash}
use Rattle.snap_semantics.specs.declared.process.Op.{Op}
use Rattle.snap_semantics.specs.declared.process.Outcome.{Outcome}
use Rattle.snap_semantics.specs.declared.process.Outcome.TheVariants.{Answered, Finished, Trapped, Skipped}
use Rattle.snap_live.specs.declared.seat_state.OwnTurn.{OwnTurn}
use Rattle.snap_sched.specs.ScriptText.{Script}
use Rattle.snap_live.specs.Script.{crashes_behind}

-- what is due of a script: the call of the first of these operations; the steps of an operation and then these;
-- nothing, after a trap or a crash
pub data Due : Type 0 where
  rest : List Op → Due
  busy : List Op → Due
  over : Due

-- something is due
abbrev pub IsDue : Due → Type 0
IsDue (rest []) = ⊥
IsDue (rest (o ∷ os)) = Unit {0}
IsDue (busy os) = Unit {0}
IsDue over = ⊥

abbrev pub IsDone : Due → Type 0
IsDone (rest []) = Unit {0}
IsDone (rest (o ∷ os)) = ⊥
IsDone (busy os) = ⊥
IsDone over = Unit {0}

-- a call that was skipped has no steps
abbrev pub after_call : Outcome → List Op → Due
after_call (Skipped reason) os = rest os
after_call _ os = busy os

-- the steps go on up to an answer, an end or a trap
abbrev pub after_step : Outcome → List Op → Due
after_step (Answered view) os = rest os
after_step Finished os = rest os
after_step (Trapped cause) os = over
after_step _ os = busy os

abbrev pub IsCallOf : Op → Item → Type 0
IsCallOf o (Step i) = ⊥
IsCallOf o (Call i op) = op ≡ o
IsCallOf o (Crash i) = ⊥

abbrev pub IsStep : Item → Type 0
IsStep (Step i) = Unit {0}
IsStep (Call i op) = ⊥
IsStep (Crash i) = ⊥

abbrev pub IsCrash : Item → Type 0
IsCrash (Step i) = ⊥
IsCrash (Call i op) = ⊥
IsCrash (Crash i) = Unit {0}

-- the turn is what was due, and leaves this due
abbrev pub Does : Due → OwnTurn → Due → Type 0
Does (rest []) t e = ⊥
Does (rest (o ∷ os)) t e = IsCallOf o t.item × (e ≡ after_call t.outcome os)
Does (busy os) t e = IsStep t.item × (e ≡ after_step t.outcome os)
Does over t e = ⊥

-- the turn behind k turns: where the crash comes at it, a crash in the place of what was due, and then nothing is due
-- any more; else what was due
abbrev pub Moves : Option ℕ → ℕ → Due → OwnTurn → Due → Type 0
Moves crash k d t e = MatchBool (crashes_behind crash k) (IsDue d × IsCrash t.item × (e ≡ over)) (Does d t e)

-- turns behind k turns, from what is due before them to what is due after them
abbrev pub Plays : Option ℕ → ℕ → Due → List OwnTurn → Due → Type 0
Plays crash k d [] e = d ≡ e
Plays crash k d (t ∷ ts) e = (m : Due) × Moves crash k d t m × Plays crash (k + 1) m ts e

-- the turns do this of the script, and leave this due
abbrev pub Leaves : Script → List OwnTurn → Due → Type 0
Leaves script ts e = Plays script.crash 0 (rest script.operations) ts e

-- the turns are a play of the script
abbrev pub IsPlay : Script → List OwnTurn → Type 0
IsPlay script ts = (e : Due) × Leaves script ts e × IsDone e

-- the turns are a begun play of the script: one is still due
abbrev pub IsBegun : Script → List OwnTurn → Type 0
IsBegun script ts = (e : Due) × Leaves script ts e × IsDue e
