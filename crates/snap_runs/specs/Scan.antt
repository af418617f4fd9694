-- The scans of a run: where they start and end, their points, and how many double collects and steps they take.
use Rattle.std.specs.Prelude.{◌≡◌, ℕ, zero, suc, ◌<◌, ◌≤◌, Bool, true, false, ◌&&◌, List, [], length, Option, Some}
use Rattle.std.specs.Prelude.{None, nat_eq, nat_lt, if◌then◌else◌}
use Rattle.snap_words.specs.Shape.{IsOneOf}
use Rattle.snap_semantics.specs.declared.instr.Instr.{Instr}
use Rattle.snap_semantics.specs.declared.instr.Instr.TheVariants as instr
use Rattle.snap_semantics.specs.declared.process.Item.{Item}
use Rattle.snap_semantics.specs.declared.process.Item.TheVariants.{Step, Call}
use Rattle.snap_semantics.specs.declared.process.Op.TheVariants as op
use Rattle.snap_semantics.specs.declared.process.Outcome.{Outcome}
use Rattle.snap_semantics.specs.declared.process.Outcome.TheVariants as outcome
use Rattle.snap_semantics.specs.declared.process.Status.{Status}
use Rattle.snap_semantics.specs.declared.process.Status.TheVariants.{Busy}
use Rattle.snap_semantics.specs.Source.{Source, instr_at}
use Rattle.snap_semantics.specs.State.{Locals, value_at, process_at, values}
use Rattle.snap_semantics.specs.Table.{who}
use Rattle.snap_runs.specs.Run.{Run, state, before, item, outcome as outcome_at}

-- the line at which a busy process stands
abbrev pub line_in : Source → Status → Option Instr
line_in s (Busy a) = instr_at s.lines a.line
line_in s _ = None

-- the link of a busy process
abbrev pub link_in : Status → Option ℕ
link_in (Busy a) = a.link
link_in _ = None

-- a line `call N`
abbrev pub IsCallLine : Option Instr → Type 0
IsCallLine (Some (instr.Call target)) = Unit {0}
IsCallLine _ = ⊥

-- a line `return S` that returns this view
abbrev pub ReturnsView : Option Instr → Locals → List ℕ → Type 0
ReturnsView (Some (instr.Return x)) l view = value_at x l.views [] ≡ view
ReturnsView _ l view = ⊥

-- Item c starts a scan of process i: a call of a scan, with no link, or a `call` line, which leaves a link.
abbrev pub Starts : Run → ℕ → ℕ → Option ℕ → Type 0
Starts r i c None = (item r c ≡ Call i op.Scan) × (outcome_at r c ≡ outcome.Called)
Starts r i c (Some k) =
    (item r c ≡ Step i) × IsCallLine (line_in r.source (process_at (before r c) i).status)
    × (outcome_at r c ≡ outcome.Stepped)
    × (link_in (process_at (state r c) i).status ≡ Some k)

-- Item e ends a scan of process i with this view: it answers it, or executes a `return` line with that link.
abbrev pub Ends : Run → ℕ → ℕ → Option ℕ → List ℕ → Type 0
Ends r i e None view = (who (item r e) ≡ i) × (outcome_at r e ≡ outcome.Answered view)
Ends r i e (Some k) view =
    (item r e ≡ Step i)
    × ReturnsView (line_in r.source (process_at (before r e) i).status) (process_at (before r e) i).locals view
    × (link_in (process_at (before r e) i).status ≡ Some k)

-- Item c starts a scan of process i, which has not ended before item e.
pub record PendingScan (r : Run) (i : ℕ) (link : Option ℕ) (c e : ℕ) : Type 0 where
  pub process : IsOneOf r.shape.n i
  pub starts : Starts r i c link
  pub first : 0 < c
  pub order : c ≤ e
  pub last : e ≤ length r.items
  pub goes_on : (t : ℕ) (view : List ℕ) → c < t → t < e → Ends r i t link view → ⊥

-- A scan of process i that item c starts ends at item e with this view.
pub record FinishedScan (r : Run) (i : ℕ) (link : Option ℕ) (c e : ℕ) (view : List ℕ) : Type 0 where
  pub scan : PendingScan r i link c e
  pub order : c < e
  pub ends : Ends r i e link view

-- A point: after one of the items from c to e the values are this view.
abbrev pub HasPoint : Run → ℕ → ℕ → List ℕ → Type 0
HasPoint r c e view = (t : ℕ) × (c ≤ t) × (t ≤ e) × (values (state r t) ≡ view)

-- how many of the items after c and up to e pass a test
abbrev pub count : (ℕ → Bool) → ℕ → ℕ → ℕ
count test c zero = 0
count test c (suc e) = if nat_lt c (suc e) && test (suc e) then suc (count test c e) else count test c e

-- a step of process i
abbrev pub steps : ℕ → Item → Bool
steps i (Step k) = nat_eq k i
steps i _ = false

-- a line `if all G: C goto N`
abbrev pub is_if_all : Option Instr → Bool
is_if_all (Some (instr.IfAll range condition target)) = true
is_if_all _ = false

-- the process goes on
abbrev pub is_stepped : Outcome → Bool
is_stepped outcome.Stepped = true
is_stepped _ = false

-- the item does something
abbrev pub is_not_skipped : Outcome → Bool
is_not_skipped (outcome.Skipped reason) = false
is_not_skipped _ = true

-- whether item t ends a double collect of process i: it executes an `if all` line
abbrev pub ends_double_collect : Run → ℕ → ℕ → Bool
ends_double_collect r i t =
    steps i (item r t)
    && (is_if_all (line_in r.source (process_at (before r t) i).status) && is_stepped (outcome_at r t))

-- whether item t is a step of process i that is not skipped
abbrev pub takes_step : Run → ℕ → ℕ → Bool
takes_step r i t = steps i (item r t) && is_not_skipped (outcome_at r t)

-- how many double collects of process i end after item c and up to item e
abbrev pub double_collects : Run → ℕ → ℕ → ℕ → ℕ
double_collects r i = count (ends_double_collect r i)

-- how many steps process i takes after item c and up to item e
abbrev pub own_steps : Run → ℕ → ℕ → ℕ → ℕ
own_steps r i = count (takes_step r i)
