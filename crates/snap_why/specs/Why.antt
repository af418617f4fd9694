-- What the debugger's `why` prints of an item: why a scan answered what it answered, or why a process trapped; where
-- there is neither, which answer or trap is next.
use Rattle.std.specs.Prelude.{◌≡◌, ℕ, zero, suc, List, length, drop, Option, Some, None, codes}
use Rattle.snap_semantics.specs.State.{process_at}
use Rattle.snap_runs.specs.Audit.{audit}
use Rattle.snap_runs.specs.Run.{Run, state}
use Rattle.snap_runs.specs.declared.verdict.Verdict.{Verdict}
use Rattle.snap_acts.specs.Trace.{trace_of}
use Rattle.snap_acts.specs.declared.act.Act.{Act}
use Rattle.snap_acts.specs.declared.act.Act.TheVariants as act
use Rattle.snap_acts.specs.declared.act.TraceStep.{TraceStep}
use Rattle.snap_acts.specs.Loans.{step_at}
use Rattle.snap_acts.specs.Searches.{first_meeting, last_before}
use Rattle.snap_acts.specs.declared.searches.StepPattern.TheVariants as wanted
use Rattle.snap_why.specs.Answer.{IsPointText, answer_lines, goto_line, verdict_with}
use Rattle.snap_why.specs.Trap.{trap_lines}

-- the process that a step leaves trapped
abbrev pub trapped_by : ℕ → Act → Option ℕ
trapped_by i act.Trap = Some i
trapped_by i _ = None

-- the process that traps at item t
abbrev pub trapped_at : List TraceStep → ℕ → Option ℕ
trapped_at ss zero = None
trapped_at ss (suc k) = trapped_by (step_at ss k).process (step_at ss k).act

abbrev pub item_of : Option TraceStep → Option ℕ
item_of None = None
item_of (Some s) = Some s.item

-- the item of the step at a place
abbrev pub item_there : List TraceStep → Option ℕ → Option ℕ
item_there ss None = None
item_there ss (Some k) = Some (step_at ss k).item

-- where neither a scan is answered nor a process traps: the next item at which one is or
-- does, or else the last one before
abbrev pub nothing_line : (next last : Option ℕ) → List ℕ
nothing_line (Some t) last = goto_line (codes "nothing to explain here; the next answer or trap") t
nothing_line None (Some t) = goto_line (codes "nothing to explain here; the last answer or trap") t
nothing_line None None =
    codes "nothing to explain here, nor at another item: no scan is answered, and no process traps\n"

-- of item t
unfoldable pub nothing_lines : List TraceStep → ℕ → List ℕ
nothing_lines ss t =
    nothing_line (item_of (first_meeting wanted.AnswerOrTrap (drop t ss)))
    (item_there ss (last_before wanted.AnswerOrTrap ss t))

abbrev pub trap_or_nothing : Run → List TraceStep → ℕ → Option ℕ → List ℕ
trap_or_nothing r ss t (Some i) = trap_lines r.source r.shape (state r t) i (process_at (state r t) i).status
trap_or_nothing r ss t None = nothing_lines ss t

-- what may be said of item t, which answers the scan of a verdict, if there is one
abbrev pub IsToldOf : Run → List TraceStep → ℕ → Option Verdict → List ℕ → Type 0
IsToldOf r ss t (Some v) text =
    (point : List ℕ) × IsPointText r t v.point point × (text ≡ answer_lines ss (length ss) v t point)
IsToldOf r ss t None text = text ≡ trap_or_nothing r ss t (trapped_at ss t)

-- What is said of item t: one text, but for the verdict at an answer without a point.
unfoldable pub IsWhy : Run → ℕ → List ℕ → Type 0
IsWhy r t text = IsToldOf r (trace_of r) t (verdict_with (audit r) t) text
