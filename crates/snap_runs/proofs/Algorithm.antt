-- `Algorithm`: any listing in its own words, with typed variables, program
-- counters and one move for each line; and the runs of its processes.
use Rattle.std.specs.Prelude.{◌≡◌, ℕ, zero, suc, ◌+◌, ◌-◌, Bool, if◌then◌else◌, List, map, Option, Some, None, Result}
use Rattle.std.specs.Prelude.{Ok, slice_index_or, slice_set, replicate, refl}
use Rattle.snap_runs.proofs.Common.{Counts, Item, Step, Call, Crash, Op, Scan, Update, Outcome, Called, Stepped}
use Rattle.snap_runs.proofs.Common.{Answered, Finished, Skipped, Reason, Process, State, who}
use Rattle.snap_semantics.specs.declared.process.Cause.{Cause}
use Rattle.snap_semantics.specs.declared.process.Reason.TheVariants as reason
use Rattle.snap_semantics.specs.declared.process.Status.{Status}
use Rattle.snap_semantics.specs.declared.process.Status.TheVariants as status
use Rattle.snap_semantics.specs.Source.{Source}
use Rattle.snap_semantics.specs.State.{Locals, Memory, initial_memory, initial_process}
use Rattle.snap_semantics.specs.Table.{Effect, Goes, Answers, Finishes, call_skip, entry}

-- In all that follows V are the variables of a process, P the program counters, and M the memory, which may carry
-- counters beside the registers.

-- what a busy process is asked: a scan, a scan embedded in an update, or an update outside its scan
pub data Mode : Type 0 where
  Scanning : Mode
  Embedded : (word value : ℕ) → Mode
  Updating : (word value : ℕ) → Mode

-- the operation of a mode
abbrev pub op_of : Mode → Op
op_of Scanning = Scan
op_of (Embedded word value) = Update word value
op_of (Updating word value) = Update word value

-- the link of a mode, where an embedded scan leads back to this line
abbrev pub link_of : ℕ → Mode → Option ℕ
link_of back (Embedded word value) = Some back
link_of back _ = None

-- the value of an update, and 0 in a scan
abbrev pub value_of : Mode → ℕ
value_of Scanning = 0
value_of (Embedded word value) = value
value_of (Updating word value) = value

-- the mode with which an operation begins
abbrev pub mode_of : Op → Mode
mode_of Scan = Scanning
mode_of (Update word value) = Updating word value

pub op_is : (op : Op) → op_of (mode_of op) ≡ op
op_is Scan = refl
op_is (Update word value) = refl

pub link_is : (back : ℕ) (op : Op) → link_of back (mode_of op) ≡ None
link_is back Scan = refl
link_is back (Update word value) = refl

-- the control of a process: idle, or at a program counter in a mode
pub data Control (P : Type 0) : Type 0 where
  Idle : Control P
  At : (mode : Mode) → (counter : P) → Control P

-- what holds of a process at its line, where it is busy
abbrev pub WhenBusy : {P : Type 0} → (Mode → P → Type 0) → Control P → Type 0
WhenBusy Holds Idle = Unit {0}
WhenBusy Holds (At d k) = Holds d k

pub when_busy : {P : Type 0} (A B : Mode → P → Type 0) → ((d : Mode) (k : P) → A d k → B d k) →
    (control : Control P) → WhenBusy A control → WhenBusy B control
when_busy A B gives Idle h = tt
when_busy A B gives (At d k) h = gives d k h

-- what a line does: it goes on, begins an embedded scan, answers a scan, or finishes an update
pub data Move (V P M : Type 0) : Type 0 where
  To : (mode : Mode) → (memory : M) → (variables : V) → (counter : P) → Move V P M
  Begin : (mode : Mode) → (variables : V) → (counter : P) → Move V P M
  Answer : (view : List ℕ) → Move V P M
  Finish : Move V P M

-- a `return` line: a scan that was called answers the view, and an update goes on at this line
abbrev pub returning : {V P M : Type 0} → List ℕ → P → Mode → M → V → Move V P M
returning view k Scanning m p = Answer view
returning view k (Embedded word value) m p = To (Updating word value) m p k
returning view k (Updating word value) m p = Finish

-- a `call` line: an update begins a scan at this line
abbrev pub embedding : {V P M : Type 0} → P → Mode → V → Move V P M
embedding k (Updating word value) p = Begin (Embedded word value) p k
embedding k _ p = Finish

-- what holds of the mode, the variables and the line to which it leads
abbrev pub LeadsTo : {V P M : Type 0} → (Mode → V → P → Type 0) → Move V P M → Type 0
LeadsTo Holds (To d m p k) = Holds d p k
LeadsTo Holds (Begin d p k) = Holds d p k
LeadsTo Holds _ = Unit {0}

pub leads_to : {V P M : Type 0} (A B : Mode → V → P → Type 0) → ((d : Mode) (p : V) (k : P) → A d p k → B d p k) →
    (v : Move V P M) → LeadsTo A v → LeadsTo B v
leads_to A B gives (To d m p k) h = gives d p k h
leads_to A B gives (Begin d p k) h = gives d p k h
leads_to A B gives _ h = tt

-- what holds of the next line, where a move goes on
abbrev pub GoesOn : {V P M : Type 0} → (Mode → M → V → P → Type 0) → Move V P M → Type 0
GoesOn Holds (To d m p k) = Holds d m p k
GoesOn Holds _ = Unit {0}

-- the memory after it
abbrev pub memory_after : {V P M : Type 0} → M → Move V P M → M
memory_after m (To d m' p k) = m'
memory_after m _ = m

-- what the proof remembers of a process, in numbers of items and counts
pub record Auxiliary : Type 0 where
  -- the item that started its last scan
  pub since : ℕ
  -- own steps and double collects since the scan's start
  pub own : ℕ
  pub collects : ℕ
  -- the item that started its last double collect, and the ends of double collects since
  pub round : ℕ
  pub tested : ℕ
  -- the item of its last call, and its writes since
  pub called : ℕ
  pub wrote : ℕ

pub record TypedProcess (V P M : Type 0) : Type 0 where
  pub control : Control P
  pub variables : V
  pub auxiliary : Auxiliary

pub record TypedState (V P M : Type 0) : Type 0 where
  pub memory : M
  pub processes : List (TypedProcess V P M)

pub record Algorithm (V P M : Type 0) : Type 0 where
  pub source : Source
  pub shape : Counts
  -- what stands for what in the listing
  pub real : M → Memory
  pub locals_of : V → Locals
  pub number : P → ℕ
  -- the line to which an embedded scan leads back
  pub back : ℕ
  -- what a line does to a process with this number
  pub move : ℕ → Mode → M → V → P → Move V P M
  -- the program counter at which an operation begins
  pub counter : Op → P
  -- 1 for a line that ends a double collect, else 0; whether a line goes back to start another one
  pub tests : P → ℕ
  pub restarts : P → Bool
  -- 1 for the line that writes a word, else 0
  pub writes : P → ℕ
  pub first_variables : V
  pub first_memory : M
  pub variables_is : locals_of first_variables ≡ (initial_process source shape).locals
  pub memory_is : real first_memory ≡ initial_memory source.kind shape
  pub entry_is : (op : Op) → number (counter op) ≡ entry source op

-- after a line that goes on or ends the operation
abbrev pub stepped_auxiliary : {V P M : Type 0} → Algorithm V P M → P → ℕ → Auxiliary → Auxiliary
stepped_auxiliary a k time g = record {
  since = g.since;
  own = suc g.own;
  collects = g.collects + a.tests k;
  round = if a.restarts k then time else g.round;
  tested = if a.restarts k then 0 else g.tested + a.tests k;
  called = g.called;
  wrote = g.wrote + a.writes k;
}

-- after a line that begins an embedded scan
abbrev pub begun_auxiliary : {V P M : Type 0} → Algorithm V P M → P → ℕ → Auxiliary → Auxiliary
begun_auxiliary a k time g = record {
  since = time;
  own = 0;
  collects = 0;
  round = time;
  tested = 0;
  called = g.called;
  wrote = g.wrote + a.writes k;
}

-- after a call
abbrev pub called_auxiliary : ℕ → Op → Auxiliary → Auxiliary
called_auxiliary time Scan g =
    record { since = time; own = 0; collects = 0; round = time; tested = 0; called = time; wrote = 0 }
called_auxiliary time (Update word value) g =
    record {
      since = g.since;
      own = g.own;
      collects = g.collects;
      round = g.round;
      tested = g.tested;
      called = time;
      wrote = 0;
    }

-- what an item does: nothing, or another memory and another process
pub data Change (V P M : Type 0) : Type 0 where
  Same : (why : Reason) → Change V P M
  New : (memory : M) → (process : TypedProcess V P M) → (outcome : Outcome) → Change V P M

abbrev pub by_move : {V P M : Type 0} → Algorithm V P M → ℕ → M → TypedProcess V P M → P → Move V P M → Change V P M
by_move a time m q k (To d m' p k') =
    New m' (record { control = At d k'; variables = p; auxiliary = stepped_auxiliary a k time q.auxiliary }) Stepped
by_move a time m q k (Begin d p k') =
    New m (record { control = At d k'; variables = p; auxiliary = begun_auxiliary a k time q.auxiliary }) Stepped
by_move a time m q k (Answer v) =
    New m (record { control = Idle; variables = q.variables; auxiliary = stepped_auxiliary a k time q.auxiliary })
    (Answered v)
by_move a time m q k Finish =
    New m
    (record { control = Idle; variables = q.variables; auxiliary = stepped_auxiliary a k time q.auxiliary }) Finished

abbrev pub by_step : {V P M : Type 0} → Algorithm V P M → ℕ → M → ℕ → TypedProcess V P M → Control P → Change V P M
by_step a time m i q Idle = Same reason.Idle
by_step a time m i q (At d k) = by_move a time m q k (a.move i d m q.variables k)

abbrev pub by_admission : {V P M : Type 0} → Algorithm V P M → ℕ → M → TypedProcess V P M →
    Op → Option Reason → Change V P M
by_admission a time m q op (Some why) = Same why
by_admission a time m q op None =
    New m (record {
      control = At (mode_of op) (a.counter op);
      variables = q.variables;
      auxiliary = called_auxiliary time op q.auxiliary;
    }) Called

abbrev pub by_call : {V P M : Type 0} → Algorithm V P M → ℕ → M → ℕ → Op → TypedProcess V P M → Control P → Change V P M
by_call a time m i op q Idle = by_admission a time m q op (call_skip a.source.kind a.shape i op)
by_call a time m i op q (At d k) = Same reason.Busy

abbrev pub first_process : {V P M : Type 0} → Algorithm V P M → TypedProcess V P M
first_process a = record {
  control = Idle;
  variables = a.first_variables;
  auxiliary = record { since = 0; own = 0; collects = 0; round = 0; tested = 0; called = 0; wrote = 0 };
}

abbrev pub first_state : {V P M : Type 0} → Algorithm V P M → TypedState V P M
first_state a = record { memory = a.first_memory; processes = replicate a.shape.n (first_process a) }

-- process i, counted from 1
abbrev pub typed_at : {V P M : Type 0} → Algorithm V P M → TypedState V P M → ℕ → TypedProcess V P M
typed_at a x i = slice_index_or x.processes (i - 1) (first_process a)

-- No process crashes here: a run with crashes is looked at through one without them.
abbrev pub by_item : {V P M : Type 0} → Algorithm V P M → ℕ → TypedState V P M → Item → Change V P M
by_item a time x (Step i) = by_step a time x.memory i (typed_at a x i) (typed_at a x i).control
by_item a time x (Call i op) = by_call a time x.memory i op (typed_at a x i) (typed_at a x i).control
by_item a time x (Crash i) = Same reason.Crashed

abbrev pub changed : {V P M : Type 0} → TypedState V P M → ℕ → Change V P M → TypedState V P M
changed x i (Same why) = x
changed x i (New m q o) = record { memory = m; processes = slice_set x.processes (i - 1) q }

abbrev pub outcome_of : {V P M : Type 0} → Change V P M → Outcome
outcome_of (Same why) = Skipped why
outcome_of (New m q o) = o

abbrev pub happens : {V P M : Type 0} → Algorithm V P M → ℕ → TypedState V P M → Item → TypedState V P M
happens a time x item = changed x (who item) (by_item a time x item)

-- the item after t items
abbrev pub item_at : List Item → ℕ → Item
item_at items t = slice_index_or items t (Step 0)

-- the state after t items
abbrev pub typed_state : {V P M : Type 0} → Algorithm V P M → List Item → ℕ → TypedState V P M
typed_state a items zero = first_state a
typed_state a items (suc t) = happens a (suc t) (typed_state a items t) (item_at items t)

-- The status of a process, as the machine has it.
abbrev pub status_of : {V P M : Type 0} → Algorithm V P M → Control P → Status
status_of a Idle = status.Idle
status_of a (At d k) = status.Busy (record { op = op_of d; line = a.number k; link = link_of a.back d })

abbrev pub process_of : {V P M : Type 0} → Algorithm V P M → TypedProcess V P M → Process
process_of a q = record { status = status_of a q.control; locals = a.locals_of q.variables }

abbrev pub state_of : {V P M : Type 0} → Algorithm V P M → TypedState V P M → State
state_of a x = record { memory = a.real x.memory; processes = map (process_of a) x.processes }

abbrev pub shown : {V P M : Type 0} → Algorithm V P M → M → Move V P M → Result Effect Cause
shown a m (To d m' p k) = Ok (Goes (a.real m') (a.locals_of p) (link_of a.back d) (a.number k))
shown a m (Begin d p k) = Ok (Goes (a.real m) (a.locals_of p) (link_of a.back d) (a.number k))
shown a m (Answer v) = Ok (Answers v)
shown a m Finish = Ok Finishes

-- a move keeps the operation
abbrev pub SameOp : {V P M : Type 0} → Algorithm V P M → Mode → Move V P M → Type 0
SameOp a d v = LeadsTo (λ d' p k. op_of d' ≡ op_of d) v
