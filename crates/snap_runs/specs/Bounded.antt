-- Bounded: how large the numbers get that a listing keeps, in registers, in locals, and in what a process is at.
use Rattle.std.specs.Prelude.{◌≡◌, ℕ, suc, ◌+◌, ◌-◌, ◌<◌, ◌≤◌, ◌⊎◌, true, List, length}
use Rattle.std.specs.Prelude.{map, IsSome, IfSome, slice_index, slice_set}
use Rattle.std.specs.List.{AllByRecursion}
use Rattle.snap_words.specs.Shape.{Counts, IsOneOf, places}
use Rattle.snap_words.specs.Word.{Word}
use Rattle.snap_semantics.specs.declared.process.Activity.{Activity}
use Rattle.snap_semantics.specs.declared.process.Item.TheVariants.{Call}
use Rattle.snap_semantics.specs.declared.process.Op.{Op}
use Rattle.snap_semantics.specs.declared.process.Op.TheVariants.{Scan, Update}
use Rattle.snap_semantics.specs.declared.process.Outcome.TheVariants.{Called}
use Rattle.snap_semantics.specs.declared.process.Status.{Status}
use Rattle.snap_semantics.specs.declared.process.Status.TheVariants.{Idle, Busy, Trapped, Crashed}
use Rattle.snap_semantics.specs.Source.{Source, instr_at}
use Rattle.snap_semantics.specs.State.{NameMap, Locals, Memory, Process, State, value_at}
use Rattle.snap_semantics.specs.Table.{who}
use Rattle.snap_runs.specs.Run.{Run, IsValidRun, state, item, outcome}
use Rattle.snap_runs.specs.Update.{executes}

-- An update to this value was called at item t or before.
abbrev pub WasAsked : Run → ℕ → ℕ → Type 0
WasAsked r t value = (c i word : ℕ) × (c ≤ t) × (item r c ≡ Call i (Update word value)) × (outcome r c ≡ Called)

-- A value that may stand in a word or in a view after item t: 0, with which each word begins, or that of an update.
abbrev pub IsValue : Run → ℕ → ℕ → Type 0
IsValue r t value = (value ≡ 0) ⊎ WasAsked r t value

-- What numbers come to at most: in a word its sequence number and the number of its writer, and among the locals of a
-- process the scalars and the places of rows, each by its name.
pub record Limits : Type 0 where
  pub seq : ℕ
  pub id : ℕ
  pub scalars : NameMap ℕ
  pub rows : NameMap ℕ

abbrev pub IsBit : ℕ → Type 0
IsBit x = x ≤ 1

-- no more than so many, and each of them so
abbrev pub AtMost : {A : Type 0} → ℕ → (A → Type 0) → List A → Type 0
AtMost count Each xs = (length xs ≤ count) × AllByRecursion Each xs

-- In what follows m are the limits, s says how many processes and words there are, and Value which values may stand in
-- words.

pub record IsWordWithin (m : Limits) (s : Counts) (Value : ℕ → Type 0) (w : Word) : Type 0 where
  pub datum : Value w.datum
  pub seq : w.seq ≤ m.seq
  pub id : w.id ≤ m.id
  pub toggle : IsBit w.toggle
  -- a handshake bit for each process, and a value for each word
  pub handshakes : AtMost s.n IsBit w.handshakes
  pub view : AtMost s.w Value w.view

pub record IsMemoryWithin (m : Limits) (s : Counts) (Value : ℕ → Type 0) (x : Memory) : Type 0 where
  pub words : AtMost s.w (IsWordWithin m s Value) x.words
  pub q : AtMost s.n (AtMost s.n IsBit) x.q
  pub p : AtMost s.n (AtMost s.n IsBit) x.p
  pub views : AtMost s.n (AtMost s.w Value) x.views

pub record IsLocalsWithin (m : Limits) (s : Counts) (Value : ℕ → Type 0) (l : Locals) : Type 0 where
  pub scalars : AllByRecursion (λ e. e.1 ≤ value_at e.0 m.scalars 0) l.scalars
  pub rows : AllByRecursion (λ e. AtMost (places s) (λ x. x ≤ value_at e.0 m.rows 0) e.1) l.rows
  pub words : AllByRecursion (λ e. AtMost (places s) (IsWordWithin m s Value) e.1) l.words
  pub views : AllByRecursion (λ e. AtMost s.w Value e.1) l.views

-- what a process was asked for
abbrev pub IsOpWithin : Counts → (ℕ → Type 0) → Op → Type 0
IsOpWithin s Value Scan = Unit {0}
IsOpWithin s Value (Update word value) = IsOneOf s.w word × Value value

-- the listing has a line with this number
abbrev pub HasLine : Source → ℕ → Type 0
HasLine source line = IsSome (instr_at source.lines line)

-- what it is at: it stands at a line, and its link, where it has one, is a line
pub record IsActivityWithin (source : Source) (s : Counts) (Value : ℕ → Type 0) (a : Activity) : Type 0 where
  pub op : IsOpWithin s Value a.op
  pub line : HasLine source a.line
  pub link : IfSome a.link (HasLine source)

abbrev pub IsStatusWithin : Source → Counts → (ℕ → Type 0) → Status → Type 0
IsStatusWithin source s Value Idle = Unit {0}
IsStatusWithin source s Value (Busy a) = IsActivityWithin source s Value a
IsStatusWithin source s Value (Trapped cause a) = IsActivityWithin source s Value a
IsStatusWithin source s Value (Crashed was) = IfSome was (IsActivityWithin source s Value)

pub record IsProcessWithin (m : Limits) (source : Source) (s : Counts) (Value : ℕ → Type 0) (p : Process) : Type 0 where
  pub status : IsStatusWithin source s Value p.status
  pub locals : IsLocalsWithin m s Value p.locals

-- Every number that there is in a state is within the limits.
pub record IsStateWithin (m : Limits) (source : Source) (s : Counts) (Value : ℕ → Type 0) (x : State) : Type 0 where
  pub memory : IsMemoryWithin m s Value x.memory
  pub processes : AtMost s.n (IsProcessWithin m source s Value) x.processes

-- Every number of every state of a run is within the limits of its item, and each value is that of an update called
-- before. Where the limits are the same at each item, the run is bounded, however long it is.
abbrev pub StaysWithin : (ℕ → Limits) → Run → Type 0
StaysWithin limits r = IsValidRun r → (t : ℕ) → t ≤ length r.items →
    IsStateWithin (limits t) r.source r.shape (IsValue r t) (state r t)

-- the sequence numbers of the words
abbrev pub sequence_numbers : State → List ℕ
sequence_numbers x = map (λ (w : Word). w.seq) x.memory.words

-- a list of numbers in which place k is one more
abbrev pub one_more : ℕ → List ℕ → List ℕ
one_more k xs = slice_set xs (k - 1) (slice_index xs (k - 1) + 1)

-- The sequence numbers count writes: an item leaves them as they are, or it executes this line and raises that of its
-- process's word by one.
abbrev pub CountsWrites : ℕ → Run → Type 0
CountsWrites line r = IsValidRun r → (t : ℕ) → t < length r.items →
    (sequence_numbers (state r (suc t)) ≡ sequence_numbers (state r t))
    ⊎ ((executes r (who (item r (suc t))) line (suc t) ≡ true)
    × (sequence_numbers (state r (suc t)) ≡ one_more (who (item r (suc t))) (sequence_numbers (state r t))))
