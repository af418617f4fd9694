-- `TrapsAreTold`: what `why` tells of a trap, the operand at which the line of a process traps, is what the table of
-- lines has.
use Rattle.std.specs.Prelude.{◌≡◌, ◌<◌, ℕ, suc, List, length, Option, Some, None, Result, Ok, Err, ⊤}
use Rattle.snap_semantics.specs.IsListing.{AreDistinct}
use Rattle.snap_semantics.specs.Listing.{all_names}
use Rattle.snap_semantics.specs.Source.{instr_at}
use Rattle.snap_semantics.specs.State.{Locals, State, process_at}
use Rattle.snap_semantics.specs.Table.{Effect, effect_at}
use Rattle.snap_semantics.specs.Value.{Context}
use Rattle.snap_semantics.specs.declared.process.Activity.{Activity}
use Rattle.snap_semantics.specs.declared.process.Cause.{Cause}
use Rattle.snap_semantics.specs.declared.process.Cause.TheVariants as cause
use Rattle.snap_semantics.specs.declared.process.Item.TheVariants.{Step}
use Rattle.snap_semantics.specs.declared.process.Outcome.TheVariants.{Trapped}
use Rattle.snap_semantics.specs.declared.process.Status.TheVariants.{Busy}
use Rattle.snap_runs.specs.Run.{Run, item, outcome, state}
use Rattle.snap_why.specs.Trap.{trouble_of}
use Rattle.snap_why.specs.declared.trouble.Trouble.{Trouble}
use Rattle.snap_why.specs.declared.trouble.Trouble.TheVariants.{NoPlace, LargeSum, NoBit, NotOwn}
use Rattle.snap_reading_laws.specs.traps.Operands.{IsFirstFault, Taken, operands_at}

-- the cause of a trap at such an operand
abbrev pub trouble_cause : Trouble → Cause
trouble_cause (NoPlace i value count) = cause.Index
trouble_cause (LargeSum x y) = cause.Overflow
trouble_cause (NoBit x) = cause.NotABit
trouble_cause (NotOwn b i j) = cause.Owner

-- causes of which no operand tells: where control goes
abbrev pub IsOfControl : Cause → Type 0
IsOfControl cause.Index = ⊥
IsOfControl cause.Overflow = ⊥
IsOfControl cause.NotABit = ⊥
IsOfControl cause.Owner = ⊥
IsOfControl cause.Nested = ⊤
IsOfControl cause.BadEnd = ⊤
IsOfControl cause.OffEnd = ⊤

-- An operand is told exactly where the line traps for one, and for its cause.
abbrev pub IsTold : {A : Type 0} → Option Trouble → Result A Cause → Type 0
IsTold (Some t) found = found ≡ Err (trouble_cause t)
IsTold None (Ok effect) = ⊤
IsTold None (Err c) = IsOfControl c

-- the cause of a trap is that of the operand that is told, and one of control where none is
abbrev pub IsCauseOf : Option Trouble → Cause → Type 0
IsCauseOf (Some t) c = c ≡ trouble_cause t
IsCauseOf None c = IsOfControl c

-- the operand that is told of process i, which stands so in a state
abbrev pub trouble_there : Run → State → (i : ℕ) → Activity → Option Trouble
trouble_there r S i a =
    trouble_of r.source r.shape S (record { process = i; op = a.op; place = 0 }) (instr_at r.source.lines a.line)

-- who takes the operands of a line: process i, with these locals
abbrev pub standing : Run → (i : ℕ) → Activity → Locals → Context
standing r i a l = record { shape = r.shape; me = i; op = a.op; locals = l; place = 0 }

-- what a step of process i would do in a state
abbrev pub effect_there : Run → State → (i : ℕ) → Activity → Result Effect Cause
effect_there r S i a =
    effect_at r.source (standing r i a (process_at S i).locals) S.memory a (instr_at r.source.lines a.line)

-- what the line of process i asks in a state, operand by operand
abbrev pub operands_there : Run → State → (i : ℕ) → Activity → List Taken
operands_there r S i a = operands_at (standing r i a (process_at S i).locals) (instr_at r.source.lines a.line)

-- In each state of a run of any listing, what is told of a process that stands at a line is what a step would trap for,
-- and the operand that is told is the first one that the process cannot take there; and what is told after a step that
-- trapped is what it trapped for, the first operand that it could not take.
pub record TrapsAreTold : Type 0 where
  pub before : (r : Run) (t i : ℕ) (a : Activity) → AreDistinct (all_names r.source) →
      IsTold (trouble_there r (state r t) i a) (effect_there r (state r t) i a)
  pub first_before : (r : Run) (t i : ℕ) (a : Activity) → AreDistinct (all_names r.source) →
      IsFirstFault r.source.kind (operands_there r (state r t) i a) (trouble_there r (state r t) i a)
  pub after : (r : Run) (t i : ℕ) (a : Activity) (c : Cause) → AreDistinct (all_names r.source) → t < length r.items →
      item r (suc t) ≡ Step i → (process_at (state r t) i).status ≡ Busy a → outcome r (suc t) ≡ Trapped c →
      IsCauseOf (trouble_there r (state r (suc t)) i a) c
  pub first_after : (r : Run) (t i : ℕ) (a : Activity) (c : Cause) → AreDistinct (all_names r.source) →
      t < length r.items →
      item r (suc t) ≡ Step i → (process_at (state r t) i).status ≡ Busy a → outcome r (suc t) ≡ Trapped c →
      IsFirstFault r.source.kind (operands_there r (state r t) i a) (trouble_there r (state r (suc t)) i a)
