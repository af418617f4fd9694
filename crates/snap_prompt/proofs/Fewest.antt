-- The steps to a line or to the end of an operation that `steps_to` finds are the fewest (`IsFewest`); where it finds
-- none, none lead there.
use Rattle.std.proofs.Common.{◌≡◌, ◌<◌, ◌≤◌, ◌+◌, ◌-◌, ℕ, zero, suc, Bool, true, false, not, if◌then◌else◌, List}
use Rattle.std.proofs.Common.{Option, Some, None, Result, Ok, Err, refl, arith}
use Rattle.snap_words.specs.Shape.{Counts, max_items}
use Rattle.snap_semantics.specs.Answers.{◌>>=◌}
use Rattle.snap_semantics.specs.Listing.{has_line}
use Rattle.snap_semantics.specs.Source.{Source}
use Rattle.snap_semantics.specs.State.{State, process_at}
use Rattle.snap_semantics.specs.declared.instr.Line.{Line}
use Rattle.snap_semantics.specs.declared.process.Status.{Status}
use Rattle.snap_semantics.specs.declared.process.Status.TheVariants.{Idle, Busy, Trapped, Crashed}
use Rattle.snap_debug.specs.Session.{Session, has_process, state_of}
use Rattle.snap_prompt.specs.Reach.{IsFewest, IsRightOf, LeadsNowhere, checked_goal, checked_status, or_full}
use Rattle.snap_prompt.specs.Reach.{reached_after, steps_from, steps_to, stepped}
use Rattle.snap_prompt.specs.declared.goal.Goal.{Goal}
use Rattle.snap_prompt.specs.declared.goal.Goal.TheVariants as goal
use Rattle.snap_prompt.specs.declared.goal.NoSteps.{NoSteps}
use Rattle.snap_prompt.specs.declared.goal.NoSteps.TheVariants as none

module _ (l : Source) (shape : Counts) (i : ℕ) (g : Goal) where
  -- a step that does not lead there, before k steps of which no fewer do
  none_before : (s : State) (k : ℕ) → reached_after l shape i g s 1 ≡ false →
      ((j : ℕ) → 0 < j → j < k → reached_after l shape i g (stepped l shape i s) j ≡ false) →
      (j : ℕ) → 0 < j → j < suc k → reached_after l shape i g s j ≡ false
  none_before s k not_yet later zero some less = absurd (omega arith)
  none_before s k not_yet later (suc zero) some less = not_yet
  none_before s k not_yet later (suc (suc j)) some less = later (suc j) (omega arith) (omega arith)

  -- the count of the steps from a state on, with those taken before it, is that of the fewest, or no steps lead there
  abbrev IsCounted : State → (taken left : ℕ) → Option ℕ → Type 0
  IsCounted s taken left None = LeadsNowhere l shape i g s left
  IsCounted s taken left (Some n) = (more : ℕ) × (n ≡ taken + more) × (more ≤ left) × IsFewest l shape i g s more

  -- where the first step leads there, or those behind it do
  by_first : (s : State) (taken left : ℕ) (b : Bool) (behind : Option ℕ) → reached_after l shape i g s 1 ≡ b →
      IsCounted (stepped l shape i s) (taken + 1) left behind →
      IsCounted s taken (suc left) (if b then Some (taken + 1) else behind)
  by_first s taken left true behind there h = (
    1,
    refl,
    omega arith,
    record { some = omega arith; there = there; fewest = λ j some less. absurd (omega (arith, some, less)) },
  )
  by_first s taken left false None not_yet h =
      λ j some less.
      none_before s (suc left) not_yet (λ k more few. h k more (omega (arith, few))) j some (omega (arith, less))
  by_first s taken left false (Some n) not_yet h = (
    suc h.0,
    omega (arith, h.1),
    omega (arith, h.2),
    record { some = omega arith; there = h.3.there; fewest = none_before s h.0 not_yet h.3.fewest },
  )

  counted : (s : State) (taken left : ℕ) → IsCounted s taken left (steps_from l shape i g taken left s)
  counted s taken zero = λ j some less. absurd (omega (arith, some, less))
  counted s taken (suc left) =
      by_first s taken left (reached_after l shape i g s 1)
      (steps_from l shape i g (taken + 1) left (stepped l shape i s)) refl
      (counted (stepped l shape i s) (taken + 1) left)

-- what an answer says, where the steps were counted
told : (s : Session) (i : ℕ) (g : Goal) (steps : Option ℕ) →
    IsCounted s.run.source s.run.shape i g (state_of s) 0 (max_items - s.position) steps →
    IsRightOf s i g (or_full steps)
told s i g None h = h
told s i g (Some k) h = let all : k ≡ h.0 = omega (arith, h.1) in rw all (h.3, h.2)

module _ (s : Session) (i : ℕ) (g : Goal) (steps : Option ℕ) (h : IsRightOf s i g (or_full steps)) where
  -- for each way in which the process may stand
  by_status : (t : Status) → IsRightOf s i g (checked_status t >>= λ leads. or_full steps)
  by_status (Busy a) = h
  by_status Idle = tt
  by_status (Trapped e a) = tt
  by_status (Crashed was) = tt

  -- whether or not there is the line
  by_line : (t : Status) (b : Bool) →
      IsRightOf s i g
      (((let r : Result (Unit {0}) NoSteps = if b then Ok tt else Err none.NoSuchLine in r)
      >>= λ there. checked_status t) >>= λ leads. or_full steps)
  by_line t true = by_status t
  by_line t false = tt

  -- for each goal
  by_goal : (to : Goal) (t : Status) (lines : List Line) →
      IsRightOf s i g ((checked_goal lines to >>= λ there. checked_status t) >>= λ leads. or_full steps)
  by_goal (goal.Line number) t lines = by_line t (has_line lines number)
  by_goal goal.End t lines = by_status t

  -- whether or not there is the process
  by_process : (t : Status) (lines : List Line) (b : Bool) → IsRightOf s i g
      ((if not b then Err none.NoSuchProcess else (checked_goal lines g >>= λ there. checked_status t))
      >>= λ leads. or_full steps)
  by_process t lines true = by_goal g t lines
  by_process t lines false = tt

pub right : (s : Session) (i : ℕ) (g : Goal) → IsRightOf s i g (steps_to s i g)
unfolding steps_to
right s i g =
    by_process s i g _ (told s i g _ (counted s.run.source s.run.shape i g (state_of s) 0 (max_items - s.position)))
    (process_at (state_of s) i).status s.run.source.lines (has_process s i)
