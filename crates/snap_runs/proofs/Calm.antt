-- A run with crashes, looked at through one without them: instead of a crash, and of each item of a process that has
-- crashed, comes a call that is skipped. The states are the same, but that who has crashed is still at what it was
-- at.
use Rattle.std.proofs.Common.{◌≡◌, ℕ, zero, suc, ◌-◌, ◌<◌, ◌⊎◌, Bool, true, false, ◌&&◌, List, [], ◌∷◌, length}
use Rattle.std.proofs.Common.{map, take, Option, Some, None, Result, Ok, Err, nat_eq, nat_lt, nat_le, slice_index_or}
use Rattle.std.proofs.Common.{slice_set, if◌then◌else◌, refl, sym, ◌∙◌, ap, subst, arith, inl, inr}
use Rattle.std.specs.List.{AllByRecursion}
use Rattle.std.proofs.lemmas.List.{map-set}
use Rattle.std.proofs.Math.ListN.{get_or-map}
use Rattle.std.proofs.Math.Seq.{map-set_same}
use Rattle.snap_runs.proofs.Common.{Counts, IsOneOf, Activity, Item, Step, Call, Crash, Op, Scan, Update, Outcome}
use Rattle.snap_runs.proofs.Common.{Reason, Process, State, process_at, who, Run, IsValidRun, state, item, outcome}
use Rattle.snap_words.specs.declared.kind.KindTag.{KindTag}
use Rattle.snap_words.specs.declared.kind.KindTag.TheVariants as kind
use Rattle.snap_semantics.specs.declared.process.Cause.{Cause}
use Rattle.snap_semantics.specs.declared.process.Outcome.TheVariants as outcomes
use Rattle.snap_semantics.specs.declared.process.Reason.TheVariants as reason
use Rattle.snap_semantics.specs.declared.process.Status.{Status}
use Rattle.snap_semantics.specs.declared.process.Status.TheVariants.{Idle, Busy, Trapped, Crashed}
use Rattle.snap_semantics.specs.Run.{after}
use Rattle.snap_semantics.specs.Source.{Source, instr_at}
use Rattle.snap_semantics.specs.State.{Locals, Memory, nobody, initial, initial_process}
use Rattle.snap_semantics.specs.Table.{Effect, Goes, Answers, Finishes, effect_at, leave, step, entry, owner_skip}
use Rattle.snap_semantics.specs.Table.{call_skip, called, call, crashed, crash, done}
use Rattle.snap_runs.specs.WaitFree.{is_alive}
use Rattle.snap_runs.proofs.Calls.{turn, item_one}
use Rattle.snap_runs.proofs.Embedding.{map_same}
use Rattle.snap_runs.proofs.Steady.{IsNoCrash, Steady}
use Rattle.snap_runs.proofs.Transitions.{Transition, skipped, crashes}

-- a call that is skipped however its process stands: no word has number 0
abbrev pub pause : ℕ → Item
pause i = Call i (Update 0 0)

-- what comes instead of an item of which this came
abbrev pub instead : Item → Outcome → Item
instead (Step i) out = if is_alive out then Step i else pause i
instead (Call i op) out = if is_alive out then Call i op else pause i
instead (Crash i) out = pause i

abbrev pub calm_items : Source → Counts → State → List Item → List Item
calm_items s shape S [] = []
calm_items s shape S (x ∷ xs) = instead x (done s shape S x).1 ∷ calm_items s shape (done s shape S x).0 xs

-- a process as if it had not crashed
abbrev pub uncrashed : Status → Status
uncrashed (Busy a) = Busy a
uncrashed (Trapped c a) = Trapped c a
uncrashed (Crashed (Some a)) = Busy a
uncrashed _ = Idle

abbrev pub revived : Process → Process
revived p = record { status = uncrashed p.status; locals = p.locals }

abbrev pub calmed : State → State
calmed S = record { memory = S.memory; processes = map revived S.processes }

pub revived_at : (S : State) (i : ℕ) → process_at (calmed S) i ≡ revived (process_at S i)
revived_at S i = get_or-map revived S.processes (i - 1) nobody

-- a result, seen so
abbrev along : State × Outcome → State × Outcome
along x = (calmed x.0, x.1)

set_along : (S : State) (i : ℕ) (m : Memory) (q : Process) (out : Outcome) →
    ◌≡◌ {A = State × Outcome} (
      record { memory = m; processes = slice_set (map revived S.processes) (i - 1) (revived q) },
      out,
    )
    (calmed (record { memory = m; processes = slice_set S.processes (i - 1) q }), out)
set_along S i m q out =
    ap (λ (ps : List Process). let x : State × Outcome = (record { memory = m; processes = ps }, out) in x)
    (sym (map-set revived S.processes (i - 1) q))

leave_along : (S : State) (i : ℕ) (a : Activity) (l : Locals) (e : Result Effect Cause) →
    leave (calmed S) i a l e ≡ along (leave S i a l e)
leave_along S i a l (Ok (Goes m k link line)) =
    set_along S i m
    (record { status = Busy (record { op = a.op; line = line; link = link }); locals = k }) outcomes.Stepped
leave_along S i a l (Ok (Answers v)) =
    set_along S i S.memory (record { status = Idle; locals = l }) (outcomes.Answered v)
leave_along S i a l (Ok Finishes) = set_along S i S.memory (record { status = Idle; locals = l }) outcomes.Finished
leave_along S i a l (Err c) = set_along S i S.memory (record { status = Trapped c a; locals = l }) (outcomes.Trapped c)

-- What an item was: one that does the same in both runs, or one instead of which a call is skipped.
abbrev pub IsDead : Item → Outcome → Status → Type 0
IsDead (Step i) out st = (out ≡ outcomes.Skipped reason.Crashed) × ((was : Option Activity) × (st ≡ Crashed was))
IsDead (Call i op) out st = out ≡ outcomes.Skipped reason.Crashed
IsDead (Crash i) out st = (out ≡ outcomes.Crashed) ⊎ ((why : Reason) × (out ≡ outcomes.Skipped why))

-- a call is never skipped as one of a crashed process where its process has not crashed
abbrev IsAlive : Option Reason → Type 0
IsAlive None = Unit {0}
IsAlive (Some why) = is_alive (outcomes.Skipped why) ≡ true

alive_either : (b : Bool) (x y : Option Reason) → IsAlive x → IsAlive y → IsAlive (if b then x else y)
alive_either true x y h k = h
alive_either false x y h k = k

owner_alive : (k : KindTag) (i word : ℕ) → IsAlive (owner_skip k i word)
owner_alive kind.Multi i word = tt
owner_alive _ i word = alive_either (nat_eq word i) None (Some reason.NotOwner) tt refl

skip_alive : (k : KindTag) (shape : Counts) (i : ℕ) (op : Op) → IsAlive (call_skip k shape i op)
skip_alive k shape i Scan = tt
skip_alive k shape i (Update word value) =
    alive_either (nat_lt 0 word && nat_le word shape.w) (owner_skip k i word)
    (Some reason.NoSuchWord) (owner_alive k i word) refl

crashed_or_not : (st : Status) → (uncrashed st ≡ st) ⊎ ((was : Option Activity) × (st ≡ Crashed was))
crashed_or_not (Crashed was) = inr (was, refl)
crashed_or_not _ = inl refl

either_who : (b : Bool) (x : Item) (i : ℕ) → who x ≡ i → who (if b then x else pause i) ≡ i
either_who true x i h = h
either_who false x i h = refl

who_instead : (x : Item) (out : Outcome) → who (instead x out) ≡ who x
who_instead (Step i) out = either_who (is_alive out) (Step i) i refl
who_instead (Call i op) out = either_who (is_alive out) (Call i op) i refl
who_instead (Crash i) out = refl

either_steady : (b : Bool) (x : Item) (i : ℕ) → IsNoCrash x → IsNoCrash (if b then x else pause i)
either_steady true x i h = h
either_steady false x i h = tt

no_crash_instead : (x : Item) (out : Outcome) → IsNoCrash (instead x out)
no_crash_instead (Step i) out = either_steady (is_alive out) (Step i) i tt
no_crash_instead (Call i op) out = either_steady (is_alive out) (Call i op) i tt
no_crash_instead (Crash i) out = tt

module _ (s : Source) (shape : Counts) where
  record Keeps (S : State) (x : Item) : Type 0 where
    same_item : instead x (done s shape S x).1 ≡ x
    same_done : done s shape (calmed S) x ≡ along (done s shape S x)
    stands : uncrashed (process_at S (who x)).status ≡ (process_at S (who x)).status
    no_crash : IsNoCrash x

  record Pauses (S : State) (x : Item) : Type 0 where
    pauses : instead x (done s shape S x).1 ≡ pause (who x)
    why : Reason
    skips : done s shape (calmed S) (pause (who x)) ≡ (calmed (done s shape S x).0, outcomes.Skipped why)
    dead : IsDead x (done s shape S x).1 (process_at S (who x)).status

  -- what is done with the process as it stands
  at_process : {A : Type 0} (S : State) (i : ℕ) (f : Process → Status → A) →
      f (process_at (calmed S) i) (process_at (calmed S) i).status
      ≡ f (revived (process_at S i)) (uncrashed (process_at S i).status)
  at_process S i f = ap (λ (p : Process). f p p.status) (revived_at S i)

  alive_of : (S : State) (i : ℕ) (a : Activity) (l : Locals) (e : Result Effect Cause) →
      is_alive (leave S i a l e).1 ≡ true
  alive_of S i a l (Ok (Goes m k link line)) = refl
  alive_of S i a l _ = refl

  -- a step of a process that has not crashed
  step_along : (S : State) (i : ℕ) (p : Process) (st : Status) → uncrashed st ≡ st →
      (is_alive (step s shape S i p st).1 ≡ true)
      × (step s shape (calmed S) i (revived p) (uncrashed st) ≡ along (step s shape S i p st))
  step_along S i p (Busy a) e =
      let x =
      effect_at s (record { shape = shape; me = i; op = a.op; locals = p.locals; place = 0 }) S.memory a
      (instr_at s.lines a.line) in
      (alive_of S i a p.locals x, leave_along S i a p.locals x)
  step_along S i p (Crashed None) e = absurd (cc)
  step_along S i p (Crashed (Some a)) e = absurd (cc)
  step_along S i p _ e = (refl, refl)

  called_along : (S : State) (i : ℕ) (p : Process) (op : Op) (why : Option Reason) →
      called s (calmed S) i (revived p) op why ≡ along (called s S i p op why)
  called_along S i p op (Some why) = refl
  called_along S i p op None =
      set_along S i S.memory
      (record { status = Busy (record { op = op; line = entry s op; link = None }); locals = p.locals }) outcomes.Called

  called_alive : (S : State) (i : ℕ) (p : Process) (op : Op) (why : Option Reason) → IsAlive why →
      is_alive (called s S i p op why).1 ≡ true
  called_alive S i p op (Some why) h = h
  called_alive S i p op None h = refl

  -- a call of a process that has not crashed
  call_along : (S : State) (i : ℕ) (op : Op) (p : Process) (st : Status) → uncrashed st ≡ st →
      (is_alive (call s shape S i op p st).1 ≡ true)
      × (call s shape (calmed S) i op (revived p) (uncrashed st) ≡ along (call s shape S i op p st))
  call_along S i op p Idle e = (
    called_alive S i p op (call_skip s.kind shape i op) (skip_alive s.kind shape i op),
    called_along S i p op (call_skip s.kind shape i op),
  )
  call_along S i op p (Trapped c a) e = (refl, refl)
  call_along S i op p (Busy a) e = (refl, refl)
  call_along S i op p (Crashed None) e = absurd (cc)
  call_along S i op p (Crashed (Some a)) e = absurd (cc)

  -- a skipped call instead
  pausing : (S : State) (i : ℕ) (p : Process) (st : Status) →
      (why : Reason)
      × (call s shape (calmed S) i (Update 0 0) (revived p) (uncrashed st) ≡ (calmed S, outcomes.Skipped why))
  pausing S i p (Busy a) = (reason.Busy, refl)
  pausing S i p (Trapped c a) = (reason.Trapped, refl)
  pausing S i p (Crashed (Some a)) = (reason.Busy, refl)
  pausing S i p _ = (reason.NoSuchWord, refl)

  -- an item that leaves what is seen of the state
  paused : (S : State) (x : Item) → instead x (done s shape S x).1 ≡ pause (who x) →
      calmed (done s shape S x).0 ≡ calmed S →
      IsDead x (done s shape S x).1 (process_at S (who x)).status → Pauses S x
  paused S x is same dead =
      let y = pausing S (who x) (process_at S (who x)) (process_at S (who x)).status in
      record {
        pauses = is;
        why = y.0;
        skips = at_process S (who x) (call s shape (calmed S) (who x) (Update 0 0)) ∙ y.1
            ∙ ap (λ (T : State). let z : State × Outcome = (T, outcomes.Skipped y.0) in z) (sym same);
        dead = dead;
      }

  -- an item of a crashed process
  step_paused : (S : State) (i : ℕ) (was : Option Activity) → (process_at S i).status ≡ Crashed was → Pauses S (Step i)
  step_paused S i was e =
      let out : step s shape S i (process_at S i) (process_at S i).status ≡ (S, outcomes.Skipped reason.Crashed) =
      ap (step s shape S i (process_at S i)) e in
      paused S (Step i) (ap (λ (y : State × Outcome). if is_alive y.1 then Step i else pause i) out)
      (ap (λ (y : State × Outcome). calmed y.0) out)
      (ap (λ (y : State × Outcome). y.1) out, (was, e))

  call_paused : (S : State) (i : ℕ) (op : Op) (was : Option Activity) →
      (process_at S i).status ≡ Crashed was → Pauses S (Call i op)
  call_paused S i op was e =
      let out : call s shape S i op (process_at S i) (process_at S i).status ≡ (S, outcomes.Skipped reason.Crashed) =
      ap (call s shape S i op (process_at S i)) e in
      paused S (Call i op) (ap (λ (y : State × Outcome). if is_alive y.1 then Call i op else pause i) out)
      (ap (λ (y : State × Outcome). calmed y.0) out)
      (ap (λ (y : State × Outcome). y.1) out)

  -- a crash
  stop_unseen : (S : State) (i : ℕ) (was : Option Activity) →
      uncrashed (Crashed was) ≡ uncrashed (process_at S i).status →
      calmed (crashed S i (process_at S i) was).0 ≡ calmed S
  stop_unseen S i was e =
      ap (λ (ps : List Process). let T : State = record { memory = S.memory; processes = ps } in T)
      (map-set_same revived S.processes (i - 1)
      (record { status = Crashed was; locals = (process_at S i).locals }) nobody
      (ap (λ (st : Status). let p : Process = record { status = st; locals = (process_at S i).locals } in p) e))

  crash_unseen : (S : State) (i : ℕ) (st : Status) → (process_at S i).status ≡ st →
      calmed (crash S i (process_at S i) st).0 ≡ calmed S
  crash_unseen S i (Busy a) e = stop_unseen S i (Some a) (ap uncrashed (sym e))
  crash_unseen S i Idle e = stop_unseen S i None (ap uncrashed (sym e))
  crash_unseen S i _ e = refl

  stopped_by : (S : State) (i : ℕ) (p : Process) (st : Status) →
      ((crash S i p st).1 ≡ outcomes.Crashed) ⊎ ((why : Reason) × ((crash S i p st).1 ≡ outcomes.Skipped why))
  stopped_by S i p (Trapped c a) = inr (reason.Trapped, refl)
  stopped_by S i p (Crashed was) = inr (reason.Crashed, refl)
  stopped_by S i p _ = inl refl

  crash_paused : (S : State) (i : ℕ) → Pauses S (Crash i)
  crash_paused S i =
      paused S (Crash i) refl (crash_unseen S i (process_at S i).status refl)
      (stopped_by S i (process_at S i) (process_at S i).status)

  -- an item of a process that has not crashed
  step_kept : (S : State) (i : ℕ) → uncrashed (process_at S i).status ≡ (process_at S i).status → Keeps S (Step i)
  step_kept S i e =
      let x = step_along S i (process_at S i) (process_at S i).status e in
      record {
        same_item = ap (λ b. if b then Step i else pause i) x.0;
        same_done = at_process S i (step s shape (calmed S) i) ∙ x.1;
        stands = e;
        no_crash = tt;
      }

  call_kept : (S : State) (i : ℕ) (op : Op) →
      uncrashed (process_at S i).status ≡ (process_at S i).status → Keeps S (Call i op)
  call_kept S i op e =
      let x = call_along S i op (process_at S i) (process_at S i).status e in
      record {
        same_item = ap (λ b. if b then Call i op else pause i) x.0;
        same_done = at_process S i (call s shape (calmed S) i op) ∙ x.1;
        stands = e;
        no_crash = tt;
      }

  case_of : (S : State) (x : Item) → Keeps S x ⊎ Pauses S x
  case_of S (Step i) =
      elim (crashed_or_not (process_at S i).status) [
        | inl e ↦ inl (step_kept S i e)
        | inr e ↦ inr (step_paused S i e.0 e.1)
      ]
  case_of S (Call i op) =
      elim (crashed_or_not (process_at S i).status) [
        | inl e ↦ inl (call_kept S i op e)
        | inr e ↦ inr (call_paused S i op e.0 e.1)
      ]
  case_of S (Crash i) = inr (crash_paused S i)

  -- the state that an item leaves
  next_calm : (S : State) (x : Item) →
      (done s shape (calmed S) (instead x (done s shape S x).1)).0 ≡ calmed (done s shape S x).0
  next_calm S x =
      elim (case_of S x) [
        | inl k ↦ ap (λ y. (done s shape (calmed S) y).0) k.same_item ∙ ap (λ (y : State × Outcome). y.0) k.same_done
        | inr k ↦ ap (λ y. (done s shape (calmed S) y).0) k.pauses ∙ ap (λ (y : State × Outcome). y.0) k.skips
      ]

  -- the states of the calm run
  calm_after : (xs : List Item) (S : State) (t : ℕ) →
      after s shape (calmed S) (take t (calm_items s shape S xs)) ≡ calmed (after s shape S (take t xs))
  calm_after xs S zero = refl
  calm_after [] S (suc t) = refl
  calm_after (x ∷ xs) S (suc t) =
      ap (λ T. after s shape T (take t (calm_items s shape (done s shape S x).0 xs))) (next_calm S x)
      ∙ calm_after xs (done s shape S x).0 t

  -- a run without crashes has as many items
  calm_length : (xs : List Item) (S : State) → length (calm_items s shape S xs) ≡ length xs
  calm_length [] S = refl
  calm_length (x ∷ xs) S = ap suc (calm_length xs (done s shape S x).0)

  calm_item : (xs : List Item) (S : State) (t : ℕ) → t < length xs →
      slice_index_or (calm_items s shape S xs) t (Step 0)
      ≡ instead (slice_index_or xs t (Step 0))
      (done s shape (after s shape S (take t xs)) (slice_index_or xs t (Step 0))).1
  calm_item [] S t h = absurd (omega arith)
  calm_item (x ∷ xs) S zero h = refl
  calm_item (x ∷ xs) S (suc t) h = calm_item xs (done s shape S x).0 t (omega arith)

  calm_who : (n : ℕ) (xs : List Item) (S : State) → AllByRecursion (λ x. IsOneOf n (who x)) xs →
      AllByRecursion (λ x. IsOneOf n (who x)) (calm_items s shape S xs)
  calm_who n [] S h = tt
  calm_who n (x ∷ xs) S h =
      (subst (IsOneOf n) (sym (who_instead x (done s shape S x).1)) h.0, calm_who n xs (done s shape S x).0 h.1)

  calm_steady : (xs : List Item) (S : State) → AllByRecursion IsNoCrash (calm_items s shape S xs)
  calm_steady [] S = tt
  calm_steady (x ∷ xs) S = (no_crash_instead x (done s shape S x).1, calm_steady xs (done s shape S x).0)

abbrev pub calm_list : Run → List Item
calm_list r = calm_items r.source r.shape (initial r.source r.shape) r.items

-- a run, without its crashes
abbrev pub calm : Run → Run
calm r = record { source = r.source; shape = r.shape; items = calm_list r }

pub steady_of : (r : Run) → IsValidRun r → Steady (calm r)
steady_of r fits = record {
  all = calm_who r.source r.shape r.shape.n r.items (initial r.source r.shape) fits.all;
  steady = calm_steady r.source r.shape r.items (initial r.source r.shape);
}

first_calm : (s : Source) (shape : Counts) → calmed (initial s shape) ≡ initial s shape
first_calm s shape =
    ap (λ (ps : List Process). let T : State = record { memory = (initial s shape).memory; processes = ps } in T)
    (map_same revived shape.n (initial_process s shape))

-- who has not crashed has not crashed after an item that is no crash
uncrashed_after : {st st' : Status} {x : Item} {out : Outcome} → Transition st x out st' → IsNoCrash x →
    uncrashed st ≡ st → uncrashed st' ≡ st'
uncrashed_after (skipped st x why may) quiet e = e
uncrashed_after (crashes i st was) quiet e = absurd quiet
uncrashed_after other quiet e = refl

module _ (r : Run) where
  pub same_length : length (calm r).items ≡ length r.items
  same_length = calm_length r.source r.shape r.items (initial r.source r.shape)

  pub state_is : (t : ℕ) → state (calm r) t ≡ calmed (state r t)
  state_is t =
      ap (λ S. after r.source r.shape S (take t (calm_list r))) (sym (first_calm r.source r.shape))
      ∙ calm_after r.source r.shape r.items (initial r.source r.shape) t

  item_instead : (t : ℕ) → t < length r.items → item (calm r) (suc t) ≡ instead (item r (suc t)) (outcome r (suc t))
  item_instead t h = calm_item r.source r.shape r.items (initial r.source r.shape) t h

  pub process_is : (t i : ℕ) → process_at (state (calm r) t) i ≡ revived (process_at (state r t) i)
  process_is t i = ap (λ (S : State). process_at S i) (state_is t) ∙ revived_at (state r t) i

  outcome_by : (t : ℕ) (y : Item) → item (calm r) (suc t) ≡ y →
      outcome (calm r) (suc t) ≡ (done r.source r.shape (calmed (state r t)) y).1
  outcome_by t y is =
      ap (λ (S : State). (done r.source r.shape S (item (calm r) (suc t))).1) (state_is t)
      ∙ ap (λ (x : Item). (done r.source r.shape (calmed (state r t)) x).1) is

  standing : (t i : ℕ) → uncrashed (process_at (state r t) i).status ≡ (process_at (state r t) i).status →
      process_at (state (calm r) t) i ≡ process_at (state r t) i
  standing t i e =
      process_is t i ∙ ap
      (λ (st : Status). let p : Process = record { status = st; locals = (process_at (state r t) i).locals } in p) e

  -- Item t + 1 is the same in the calm run, and its process stands the same, before and after it.
  pub record Kept (t : ℕ) : Type 0 where
    pub item_is : item (calm r) (suc t) ≡ item r (suc t)
    pub outcome_is : outcome (calm r) (suc t) ≡ outcome r (suc t)
    pub before : process_at (state (calm r) t) (who (item r (suc t))) ≡ process_at (state r t) (who (item r (suc t)))
    pub later : process_at (state (calm r) (suc t)) (who (item r (suc t)))
        ≡ process_at (state r (suc t)) (who (item r (suc t)))

  -- Item t + 1 is a crash or an item of a crashed process, and in the calm run a call that is skipped.
  pub record Paused (t : ℕ) : Type 0 where
    pub item_is : item (calm r) (suc t) ≡ pause (who (item r (suc t)))
    pub why : Reason
    pub outcome_is : outcome (calm r) (suc t) ≡ outcomes.Skipped why
    pub dead : IsDead (item r (suc t)) (outcome r (suc t)) (process_at (state r t) (who (item r (suc t)))).status

  pub kept_or_paused : IsValidRun r → (t : ℕ) → t < length r.items → Kept t ⊎ Paused t
  kept_or_paused fits t h =
      let x = item r (suc t) in
      let one = item_one r fits t h in
      elim (case_of r.source r.shape (state r t) x) [
        | inl k ↦ (let is : item (calm r) (suc t) ≡ x = item_instead t h ∙ k.same_item in
            inl (record {
              item_is = is;
              outcome_is = outcome_by t x is ∙ ap (λ (y : State × Outcome). y.1) k.same_done;
              before = standing t (who x) k.stands;
              later = standing (suc t) (who x) (uncrashed_after (turn r fits t (who x) h one refl) k.no_crash k.stands);
            }))
        | inr k ↦ (let is : item (calm r) (suc t) ≡ pause (who x) = item_instead t h ∙ k.pauses in
            inr (record {
              item_is = is;
              why = k.why;
              outcome_is = outcome_by t (pause (who x)) is ∙ ap (λ (y : State × Outcome). y.1) k.skips;
              dead = k.dead;
            }))
      ]
