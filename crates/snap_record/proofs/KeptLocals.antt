-- What every change of a local keeps, the locals of all processes keep: in each state of a run they have it, if they
-- have it at first.
use Rattle.std.proofs.Common.{ℕ, zero, suc, List, [], ◌∷◌, Option, Some, None, Result}
use Rattle.std.proofs.Common.{Ok, Err, replicate, slice_index_or, slice_set, take}
use Rattle.std.specs.List.{AllByRecursion}
use Rattle.snap_words.specs.Shape.{Counts}
use Rattle.snap_words.specs.Word.{Word}
use Rattle.snap_semantics.specs.Run.{after}
use Rattle.snap_semantics.specs.Source.{Name, Source, instr_at}
use Rattle.snap_semantics.specs.State.{Locals, Memory, Process, State, initial, initial_process, no_locals}
use Rattle.snap_semantics.specs.State.{nobody, process_at, with_scalar, with_row, with_words, with_view}
use Rattle.snap_semantics.specs.Table.{Effect, Goes, Answers, Finishes, effect_at, leave, step, call, called, call_skip}
use Rattle.snap_semantics.specs.Table.{done, crash}
use Rattle.snap_semantics.specs.Value.{Context}
use Rattle.snap_semantics.specs.declared.instr.Instr.{Instr}
use Rattle.snap_semantics.specs.declared.process.Activity.{Activity}
use Rattle.snap_semantics.specs.declared.process.Cause.{Cause}
use Rattle.snap_semantics.specs.declared.process.Item.{Item}
use Rattle.snap_semantics.specs.declared.process.Item.TheVariants as item
use Rattle.snap_semantics.specs.declared.process.Op.{Op}
use Rattle.snap_semantics.specs.declared.process.Reason.{Reason}
use Rattle.snap_semantics.specs.declared.process.Status.{Status}
use Rattle.snap_semantics.specs.declared.process.Status.TheVariants.{Idle, Busy}
use Rattle.snap_runs.specs.Run.{Run, state}
use Rattle.snap_runs.proofs.Effects.{Does, goes, Writes, sets_scalar, sets_row, sets_word, sets_view, line_does}

module _ (P : Locals → Type 0) (scalar : (y : Name) (v : ℕ) (l : Locals) → P l → P (with_scalar y v l))
    (row : (y : Name) (v : List ℕ) (l : Locals) → P l → P (with_row y v l))
    (words : (y : Name) (v : List Word) (l : Locals) → P l → P (with_words y v l))
    (view : (y : Name) (v : List ℕ) (l : Locals) → P l → P (with_view y v l)) (none : P no_locals) where
  -- where a line goes on there are such locals
  Keeps : Result Effect Cause → Type 0
  Keeps (Ok (Goes m l link line)) = P l
  Keeps (Ok (Answers v)) = Unit {0}
  Keeps (Ok Finishes) = Unit {0}
  Keeps (Err c) = Unit {0}

  -- a line that goes on leaves such locals
  wrote : (c : Context) (m : Memory) {i : Instr} {m' : Memory} {l' : Locals} → Writes c m i m' l' → P c.locals → P l'
  wrote c m (sets_scalar i x v) h = scalar x v c.locals h
  wrote c m (sets_row i x v) h = row x v c.locals h
  wrote c m (sets_word i x k w) h = words x _ c.locals h
  wrote c m (sets_view i x v) h = view x v c.locals h
  wrote c m _ h = h

  -- each form of a line
  keeps : (c : Context) (m : Memory) (a : Activity) {i : Instr} {r : Result Effect Cause} → Does c m a i r →
      P c.locals → Keeps r
  unfolding Keeps
  keeps c m a (goes i m' l' link line w) h = wrote c m w h
  keeps c m a _ h = tt

  -- the line at which a process stands, where there is one
  keeps_at : (s : Source) (c : Context) (m : Memory) (a : Activity) (i : Option Instr) →
      P c.locals → Keeps (effect_at s c m a i)
  unfolding Keeps
  keeps_at s c m a None h = tt
  keeps_at s c m a (Some i) h = keeps c m a (line_does s c m a i) h

  -- all processes
  abbrev All : List Process → Type 0
  All ps = AllByRecursion (λ (p : Process). P p.locals) ps

  -- one process is set
  set_all : (ps : List Process) (k : ℕ) (p : Process) → All ps → P p.locals → All (slice_set ps k p)
  set_all [] k p all h = tt
  set_all (q ∷ ps) zero p all h = (h, all.1)
  set_all (q ∷ ps) (suc k) p all h = (all.0, set_all ps k p all.1 h)

  -- any process, and nobody
  one_of : (ps : List Process) (k : ℕ) → All ps → P (slice_index_or ps k nobody).locals
  one_of [] k all = none
  one_of (q ∷ ps) zero all = all.0
  one_of (q ∷ ps) (suc k) all = one_of ps k all.1

  -- what a step leaves
  left : (S : State) (i : ℕ) (a : Activity) (l : Locals) (r : Result Effect Cause) → All S.processes → P l →
      Keeps r → All (leave S i a l r).0.processes
  unfolding Keeps
  left S i a l (Ok (Goes m l' link line)) all h k = set_all S.processes _ _ all k
  left S i a l _ all h k = set_all S.processes _ _ all h

  -- a step
  stepped : (s : Source) (n : Counts) (S : State) (i : ℕ) (p : Process) (t : Status) → All S.processes →
      P p.locals → All (step s n S i p t).0.processes
  stepped s n S i p (Busy a) all h =
      let c : Context = record { shape = n; me = i; op = a.op; locals = p.locals; place = 0 } in
      left S i a p.locals (effect_at s c S.memory a (instr_at s.lines a.line)) all h
      (keeps_at s c S.memory a (instr_at s.lines a.line) h)
  stepped s n S i p _ all h = all

  -- a call that may be skipped
  asked : (s : Source) (S : State) (i : ℕ) (p : Process) (o : Op) (r : Option Reason) → All S.processes →
      P p.locals → All (called s S i p o r).0.processes
  asked s S i p o (Some r) all h = all
  asked s S i p o None all h = set_all S.processes _ _ all h

  -- an item that calls
  calls : (s : Source) (n : Counts) (S : State) (i : ℕ) (o : Op) (p : Process) (t : Status) → All S.processes →
      P p.locals → All (call s n S i o p t).0.processes
  calls s n S i o p Idle all h = asked s S i p o (call_skip s.kind n i o) all h
  calls s n S i o p _ all h = all

  -- an item that crashes
  crashes : (S : State) (i : ℕ) (p : Process) (t : Status) → All S.processes → P p.locals →
      All (crash S i p t).0.processes
  crashes S i p Idle all h = set_all S.processes _ _ all h
  crashes S i p (Busy a) all h = set_all S.processes _ _ all h
  crashes S i p _ all h = all

  -- any item
  after_item : (s : Source) (n : Counts) (S : State) (y : Item) → All S.processes →
      All (done s n S y).0.processes
  after_item s n S (item.Step i) all =
      stepped s n S i (process_at S i) (process_at S i).status all (one_of S.processes _ all)
  after_item s n S (item.Call i o) all =
      calls s n S i o (process_at S i) (process_at S i).status all (one_of S.processes _ all)
  after_item s n S (item.Crash i) all =
      crashes S i (process_at S i) (process_at S i).status all (one_of S.processes _ all)

  -- any items
  after_items : (s : Source) (n : Counts) (S : State) (ys : List Item) → All S.processes →
      All (after s n S ys).processes
  after_items s n S [] all = all
  after_items s n S (y ∷ ys) all = after_items s n (done s n S y).0 ys (after_item s n S y all)

  -- processes that are alike
  all_same : (k : ℕ) (p : Process) → P p.locals → All (replicate k p)
  all_same zero p h = tt
  all_same (suc k) p h = (h, all_same k p h)

  -- any process, in each state of a run
  pub in_each_state : (r : Run) (t i : ℕ) → P (initial_process r.source r.shape).locals → P (process_at
      (state r t) i).locals
  in_each_state r t i h =
      one_of (state r t).processes _ (after_items r.source r.shape (initial r.source r.shape) (take t r.items)
      (all_same r.shape.n (initial_process r.source r.shape) h))
