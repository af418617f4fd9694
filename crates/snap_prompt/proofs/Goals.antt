-- A step of a process towards its goal, a line or the end of its operation: how the count of steps goes on with it.
use Rattle.std.proofs.Common.{◌≡◌, ◌<◌, ◌+◌, ◌-◌, ℕ, suc, Bool, if◌then◌else◌, Option, Some, arith}
use Rattle.snap_words.specs.Shape.{Counts}
use Rattle.snap_semantics.specs.Source.{Source}
use Rattle.snap_semantics.specs.State.{State, process_at}
use Rattle.snap_semantics.specs.Table.{done}
use Rattle.snap_semantics.specs.declared.process.Item.TheVariants.{Step}
use Rattle.snap_semantics.specs.declared.process.Outcome.{Outcome}
use Rattle.snap_prompt.specs.Reach.{has_reached, stepped, steps_from}
use Rattle.snap_prompt.specs.declared.goal.Goal.{Goal}

-- where a step was left to be taken, it leads to the goal, or goes on to the goal behind it
pub goes_on : (l : Source) (shape : Counts) (i taken most : ℕ) (g : Goal) (s s' : State) (o : Outcome) (b : Bool)
    (all : Option ℕ) → taken < most → done l shape s (Step i) ≡ (s', o) → has_reached g (process_at s' i).status ≡ b →
    steps_from l shape i g taken (most - taken) s ≡ all →
    (if b then Some (taken + 1) else steps_from l shape i g (taken + 1) (most - (taken + 1)) s') ≡ all
goes_on l shape i taken most g s s' o b all less does reached is =
    let more : most - taken ≡ suc (most - (taken + 1)) = omega arith in
    rw (more, steps_from, stepped, does, reached) at is
