-- What one item does to the listing of one word: to the word, to its process, and to the operations that have taken
-- place.
use Rattle.std.proofs.Common.{◌≡◌, ◌≢◌, ℕ, ◌-◌, ◌<◌, ◌⊎◌, max, Bool, true, false, ◌||◌, ◌&&◌, List, [], ◌∷◌, ◌++◌}
use Rattle.std.proofs.Common.{map, length, Option, Some, None, Ok, nat_eq, nat_lt, nat_le, if◌then◌else◌}
use Rattle.std.proofs.Common.{slice_index_or, slice_set, refl, sym, ap, subst, arith, inl, inr}
use Rattle.std.proofs.lemmas.List.{length-set, get_or-set_same, get_or-set_other}
use Rattle.snap_runs.proofs.Common.{IsOneOf, Word, no_word, Activity, Item, Step, Call, Crash, Op, Scan, Update}
use Rattle.snap_runs.proofs.Common.{Outcome, Reason, Process, State, process_at, who}
use Rattle.snap_semantics.specs.declared.process.Outcome.TheVariants as outcome
use Rattle.snap_semantics.specs.declared.process.Reason.TheVariants as reason
use Rattle.snap_semantics.specs.declared.process.Status.{Status}
use Rattle.snap_semantics.specs.declared.process.Status.TheVariants.{Idle, Busy, Crashed}
use Rattle.snap_semantics.specs.Source.{instr_at}
use Rattle.snap_semantics.specs.State.{Locals, Memory, nobody, with_memory_words}
use Rattle.snap_semantics.specs.Table.{Goes, effect_at, leave, step, call, called, crash, done}
use Rattle.snap_semantics.specs.Value.{Context, place_in}
use Rattle.snap_runs.specs.Linearization.{after, Allows}
use Rattle.snap_runs.specs.Operation.{Action, Sets, Sees, Operation}
use Rattle.snap_runs.proofs.Calls.{IsEnd}
use Rattle.snap_runs.proofs.Places.{bind_ok, place_ok}
use Rattle.snap_runs_of_u.specs.ListingU.{a, s}
use Rattle.snap_strong.specs.OneWord.{one_word, shared_by}
use Rattle.snap_strong.proofs.Placed.{op_of, outcome_of, ended}

-- what an operation does that takes place while the values are these
abbrev pub action_of : Op → List ℕ → Action
action_of Scan now = Sees now
action_of (Update word value) now = Sets word value

-- the first line of a scan, or of an update
abbrev pub is_first : ℕ → Bool
is_first line = nat_eq line 10 || nat_eq line 20

abbrev pub started : ℕ → ℕ → List ℕ → Bool → Op → List Operation → List Operation
started i c now true op os = os ++ record { process = i; call = c; end = None; action = action_of op now } ∷ []
started i c now false op os = os

-- The operations after item e of process i, which is at its call of item c: one more where the item is the first step
-- of that, and ended where it ends it.
abbrev pub booked : (i c e : ℕ) → List ℕ → Outcome → Status → List Operation → List Operation
booked i c e now (outcome.Answered view) status os = map (ended i e) os
booked i c e now outcome.Finished status os = map (ended i e) os
booked i c e now outcome.Stepped (Busy b) os = started i c now (is_first b.line) b.op os
booked i c e now out status os = os

-- a process of this listing, with the word that it has read last and the view
abbrev pub process : Status → Word → List Word → List ℕ → Process
process status x xs v = record {
  status = status;
  locals = record { scalars = []; rows = []; words = (a, x ∷ xs) ∷ []; views = (s, v) ∷ [] };
}

abbrev pub at_line : Op → ℕ → Status
at_line op line = Busy (record { op = op; line = line; link = None })

-- How a process stands: with no operation that has taken place and not ended, or with one that did this.
pub data Stage (Free : Type 0) (Took : Action → Type 0) : Process → Type 0 where
  idle : (x : Word) (xs : List Word) (v : List ℕ) → Free → Stage Free Took (process Idle x xs v)
  reads : (x : Word) (xs : List Word) (v : List ℕ) → Free → Stage Free Took (process (at_line Scan 10) x xs v)
  views : (x : Word) (xs : List Word) (v : List ℕ) → Took (Sees (x.datum ∷ [])) →
      Stage Free Took (process (at_line Scan 11) x xs v)
  returns : (x : Word) (xs : List Word) (v : List ℕ) → Took (Sees v) →
      Stage Free Took (process (at_line Scan 12) x xs v)
  writes : (value : ℕ) (x : Word) (xs : List Word) (v : List ℕ) → Free →
      Stage Free Took (process (at_line (Update 1 value) 20) x xs v)
  finishes : (value : ℕ) (x : Word) (xs : List Word) (v : List ℕ) → Took (Sets 1 value) →
      Stage Free Took (process (at_line (Update 1 value) 21) x xs v)
  crashed : (was : Option Activity) (l : Locals) → Stage Free Took (record { status = Crashed was; locals = l })

pub stage_map : {F G : Type 0} {T U : Action → Type 0} {p : Process} → Stage F T p → (F → G) →
    ((b : Action) → T b → U b) → Stage G U p
stage_map (idle x xs v h) f t = idle x xs v (f h)
stage_map (reads x xs v h) f t = reads x xs v (f h)
stage_map (views x xs v h) f t = views x xs v (t (Sees (x.datum ∷ [])) h)
stage_map (returns x xs v h) f t = returns x xs v (t (Sees v) h)
stage_map (writes value x xs v h) f t = writes value x xs v (f h)
stage_map (finishes value x xs v h) f t = finishes value x xs v (t (Sets 1 value) h)
stage_map (crashed was l) f t = crashed was l

-- what an item of process i leaves: this word, this process, and the others as they were
pub record Leaves (S S' : State) (i : ℕ) (y : Word) (p : Process) : Type 0 where
  pub word : S'.memory.words ≡ y ∷ []
  pub count : length S'.processes ≡ length S.processes
  pub own : process_at S' i ≡ p
  pub others : (j : ℕ) → 0 < j → j ≢ i → process_at S' j ≡ process_at S j

module _ (S : State) (i : ℕ) (y : Word) (word : S.memory.words ≡ y ∷ []) (one : IsOneOf (length S.processes) i) where
  leaves_put : (m : Memory) (z : Word) (p : Process) → m.words ≡ z ∷ [] →
      Leaves S (record { memory = m; processes = slice_set S.processes (i - 1) p }) i z p
  leaves_put m z p is = record {
    word = is;
    count = length-set S.processes (i - 1) p;
    own = get_or-set_same S.processes (i - 1) p nobody (omega arith);
    others = λ j pos other. get_or-set_other S.processes (i - 1) (j - 1) p nobody (λ same. other (omega arith));
  }

-- An item that no operation begins or ends with.
pub record Quiet (F : Type 0) (T : Action → Type 0) (S : State) (i : ℕ) (y : Word) (status : Status)
    (d : State × Outcome) : Type 0 where
  pub process : Process
  pub stage : Stage F T process
  pub leaves : Leaves S d.0 i y process
  pub booked_is : (c e : ℕ) (now : List ℕ) (os : List Operation) → booked i c e now d.1 status os ≡ os
  pub no_end : IsEnd d.1 → ⊥

-- An item at which an operation takes place.
pub record Begins (F : Type 0) (S : State) (i : ℕ) (y : Word) (status : Status) (d : State × Outcome) : Type 0 where
  pub action : Action
  pub free : F
  pub process : Process
  pub stage : Stage ⊥ (λ b. b ≡ action) process
  pub word : Word
  pub leaves : Leaves S d.0 i word process
  pub line : ℕ
  pub busy : status ≡ at_line (op_of action) line
  pub stepped : d.1 ≡ outcome.Stepped
  pub booked_is : (c e : ℕ) (now : List ℕ) (os : List Operation) → now ≡ y.datum ∷ [] →
      booked i c e now d.1 status os ≡ os ++ record { process = i; call = c; end = None; action = action } ∷ []
  pub allows : Allows (y.datum ∷ []) action
  pub after_is : word.datum ∷ [] ≡ after (y.datum ∷ []) action

-- An item that ends an operation.
pub record Closes (T : Action → Type 0) (S : State) (i : ℕ) (y : Word) (status : Status)
    (d : State × Outcome) : Type 0 where
  pub action : Action
  pub took : T action
  pub process : Process
  pub stage : Stage Unit (λ b. ⊥) process
  pub leaves : Leaves S d.0 i y process
  pub ends : d.1 ≡ outcome_of action
  pub booked_is : (c e : ℕ) (now : List ℕ) (os : List Operation) → booked i c e now d.1 status os ≡ map (ended i e) os

abbrev pub Case : (F : Type 0) (T : Action → Type 0) (S : State) (i : ℕ) (y : Word)
    (status : Status) → State × Outcome → Type 0
Case F T S i y status d = Quiet F T S i y status d ⊎ (Begins F S i y status d ⊎ Closes T S i y status d)

module _ (n : ℕ) (F : Type 0) (T : Action → Type 0) (S : State) (i : ℕ) (y : Word) (word : S.memory.words ≡ y ∷ [])
    (one : IsOneOf (length S.processes) i) where
  -- an item that is skipped
  skips : (p : Process) (why : Reason) → process_at S i ≡ p → Stage F T p →
      Case F T S i y p.status (S, outcome.Skipped why)
  skips p why is stage = inl (record {
    process = p;
    stage = stage;
    leaves = record { word = word; count = refl; own = is; others = λ j pos other. refl };
    booked_is = λ c e now os. refl;
    no_end = λ ends. ends;
  })

  abbrev put : Memory → Process → State
  put m p = record { memory = m; processes = slice_set S.processes (i - 1) p }

  -- an item that leaves its process so
  goes_on : (p : Process) (old : Status) (out : Outcome) → Stage F T p → (IsEnd out → ⊥) →
      ((c e : ℕ) (now : List ℕ) (os : List Operation) → booked i c e now out old os ≡ os) →
      Case F T S i y old (put S.memory p, out)
  goes_on p old out stage no_end same = inl (record {
    process = p;
    stage = stage;
    leaves = leaves_put S i y word one S.memory y p word;
    booked_is = same;
    no_end = no_end;
  })

  -- an item that ends an operation
  comes_to_end : (x : Word) (xs : List Word) (v : List ℕ) (b : Action) (old : Status) → T b →
      ((c e : ℕ) (now : List ℕ) (os : List Operation) →
      booked i c e now (outcome_of b) old os ≡ map (ended i e) os) →
      Case F T S i y old (put S.memory (process Idle x xs v), outcome_of b)
  comes_to_end x xs v b old took same = inr (inr (record {
    action = b;
    took = took;
    process = process Idle x xs v;
    stage = idle x xs v tt;
    leaves = leaves_put S i y word one S.memory y (process Idle x xs v) word;
    ends = refl;
    booked_is = same;
  }))

  -- the step of a process that stands so
  abbrev does : Process → State × Outcome
  does p = step one_word (shared_by n) S i p p.status

  -- the word as it is read, and as it is written
  abbrev seen : Word
  seen = slice_index_or S.memory.words 0 no_word

  seen_is : seen ≡ y
  seen_is = ap (λ ws. slice_index_or ws 0 no_word) word

  abbrev written : ℕ → Word
  written value = record { datum = value; seq = 0; id = i; toggle = 0; handshakes = []; view = [] }

  -- a scan's first step, as it stands
  abbrev reading : Activity
  reading = record { op = Scan; line = 10; link = None }

  does_read : (x : Word) (xs : List Word) (v : List ℕ) →
      does (process (Busy reading) x xs v) ≡ (put S.memory (process (at_line Scan 11) seen xs v), outcome.Stepped)
  does_read x xs v =
      let l : Locals = (process (Busy reading) x xs v).locals in
      let its : Context = record { shape = shared_by n; me = i; op = Scan; locals = l; place = 0 } in
      let goes : effect_at one_word its S.memory reading (instr_at one_word.lines 10)
      ≡ Ok (Goes S.memory (process (at_line Scan 11) seen xs v).locals None 11) =
      bind_ok (place_in (max n 1) 1) _ 0 _ (place_ok (max n 1) 1 (omega arith, omega arith)) refl in
      ap (leave S i reading l) goes

  steps : (p : Process) → process_at S i ≡ p → Stage F T p → Case F T S i y p.status (does p)
  steps p is (idle x xs v f) = skips p reason.Idle is (idle x xs v f)
  steps p is (reads x xs v f) =
      subst (Case F T S i y (at_line Scan 10)) (sym (does_read x xs v)) (inr (inl (record {
        action = Sees (y.datum ∷ []);
        free = f;
        process = process (at_line Scan 11) seen xs v;
        stage = views seen xs v (ap (λ (u : Word). Sees (u.datum ∷ [])) seen_is);
        word = y;
        leaves = leaves_put S i y word one S.memory y (process (at_line Scan 11) seen xs v) word;
        line = 10;
        busy = refl;
        stepped = refl;
        booked_is = λ c e now os is. rw is refl;
        allows = refl;
        after_is = refl;
      })))
  steps p is (views x xs v took) =
      goes_on (process (at_line Scan 12) x xs (x.datum ∷ [])) (at_line Scan 11) outcome.Stepped
      (returns x xs (x.datum ∷ []) took) (λ ends. ends) (λ c e now os. refl)
  steps p is (returns x xs v took) =
      comes_to_end x xs v (Sees v) (at_line Scan 12) took (λ c e now os. refl)
  steps p is (writes value x xs v f) = inr (inl (record {
    action = Sets 1 value;
    free = f;
    process = process (at_line (Update 1 value) 21) x xs v;
    stage = finishes value x xs v refl;
    word = written value;
    leaves =
        leaves_put S i y word one (with_memory_words (slice_set S.memory.words 0 (written value)) S.memory)
        (written value)
        (process (at_line (Update 1 value) 21) x xs v) (ap (λ ws. slice_set ws 0 (written value)) word);
    line = 20;
    busy = refl;
    stepped = refl;
    booked_is = λ c e now os is. refl;
    allows = (omega arith, omega arith);
    after_is = refl;
  }))
  steps p is (finishes value x xs v took) =
      comes_to_end x xs v (Sets 1 value) (at_line (Update 1 value) 21) took (λ c e now os. refl)
  steps p is (crashed was l) = skips p reason.Crashed is (crashed was l)

  -- a call that is admitted
  starts : (p : Process) (status old : Status) → Stage F T (record { status = status; locals = p.locals }) →
      Case F T S i y old (put S.memory (record { status = status; locals = p.locals }), outcome.Called)
  starts p status old stage =
      goes_on (record { status = status; locals = p.locals }) old outcome.Called stage (λ ends. ends)
      (λ c e now os. refl)

  is_called : (p : Process) (op : Op) → process_at S i ≡ p → Stage F T p →
      Case F T S i y p.status (call one_word (shared_by n) S i op p p.status)
  is_called p Scan is (idle x xs v f) = starts p (at_line Scan 10) Idle (reads x xs v f)
  is_called p (Update w value) is (idle x xs v f) = by_word (nat_lt 0 w && nat_le w 1) refl
    where
      by_word : (b : Bool) → (nat_lt 0 w && nat_le w 1) ≡ b →
          Case F T S i y Idle
          (called one_word S i (process Idle x xs v) (Update w value) (if b then None else Some reason.NoSuchWord))
      by_word true there =
          let only : w ≡ 1 = grind arith in
          starts (process Idle x xs v) (at_line (Update w value) 20) Idle
          (subst (λ z. Stage F T (process (at_line (Update z value) 20) x xs v)) (sym only) (writes value x xs v f))
      by_word false there = skips (process Idle x xs v) reason.NoSuchWord is (idle x xs v f)
  is_called p op is (crashed was l) = skips p reason.Crashed is (crashed was l)
  is_called p op is stage = skips p reason.Busy is stage

  -- a crash
  stops : (p : Process) (was : Option Activity) (old : Status) →
      Case F T S i y old (put S.memory (record { status = Crashed was; locals = p.locals }), outcome.Crashed)
  stops p was old =
      goes_on (record { status = Crashed was; locals = p.locals }) old outcome.Crashed (crashed was p.locals)
      (λ ends. ends) (λ c e now os. refl)

  crashes : (p : Process) → process_at S i ≡ p → Stage F T p → Case F T S i y p.status (crash S i p p.status)
  crashes p is (idle x xs v f) = stops p None Idle
  crashes p is (crashed was l) = skips p reason.Crashed is (crashed was l)
  crashes p is stage = stops p (Some _) p.status

pub item_does : (n : ℕ) (F : Type 0) (T : Action → Type 0) (S : State) (y : Word) → S.memory.words ≡ y ∷ [] →
    (x : Item) → IsOneOf (length S.processes) (who x) → Stage F T (process_at S (who x)) →
    Case F T S (who x) y (process_at S (who x)).status (done one_word (shared_by n) S x)
item_does n F T S y word (Step i) one stage = steps n F T S i y word one (process_at S i) refl stage
item_does n F T S y word (Call i op) one stage = is_called n F T S i y word one (process_at S i) op refl stage
item_does n F T S y word (Crash i) one stage = crashes n F T S i y word one (process_at S i) refl stage
