-- What one item may do: values change only at a line `put r`, a scan is answered only by a line `return`, and nothing
-- else is; an update alone is finished.
use Rattle.std.proofs.Common.{◌≡◌, ◌⊎◌, inl, inr, ℕ, List, [], Option, Some, None, Result, Ok, Err, map, refl, ap, ◌∙◌}
use Rattle.snap_runs.proofs.Common.{Counts, Process, State, process_at, values, Word}
use Rattle.snap_runs.proofs.Common.{Activity, Item, Op, Outcome, Reason}
use Rattle.snap_semantics.specs.Source.{Source, instr_at}
use Rattle.snap_semantics.specs.State.{Locals, Memory, value_at}
use Rattle.snap_semantics.specs.Table.{Effect, Goes, Answers, Finishes, effect_at, leave, step, call, called}
use Rattle.snap_semantics.specs.Table.{call_skip, crash, done}
use Rattle.snap_semantics.specs.Value.{Context}
use Rattle.snap_semantics.specs.declared.instr.BitBank.TheVariants as bits
use Rattle.snap_semantics.specs.declared.instr.Instr.{Instr}
use Rattle.snap_semantics.specs.declared.process.Cause.{Cause}
use Rattle.snap_semantics.specs.declared.process.Item.TheVariants as item
use Rattle.snap_semantics.specs.declared.process.Op.TheVariants as op
use Rattle.snap_semantics.specs.declared.process.Outcome.TheVariants as outcome
use Rattle.snap_semantics.specs.declared.process.Status.{Status}
use Rattle.snap_semantics.specs.declared.process.Status.TheVariants.{Idle, Busy}
use Rattle.snap_runs.proofs.Effects.{Does, traps, goes, answers, finishes, Writes, puts_word, puts_bit, line_does}
use Rattle.snap_runs.specs.StepRoles.{StepRole, Write, Answer, line_step_role, returned, step_role_at}
use Rattle.snap_runs.specs.StepRoles.{step_role_in, step_role_of}

-- other words only of a line that writes them, an answer only of a line that gives it, to a scan, and a finish only of
-- an update
unfoldable pub Leaves : Memory → Op → StepRole → Result Effect Cause → Type 0
Leaves m o d (Ok (Goes m' l' link line)) = (d ≡ Write) ⊎ (m'.words ≡ m.words)
Leaves m o d (Ok (Answers v)) = (d ≡ Answer v) × (o ≡ op.Scan)
Leaves m o d (Ok Finishes) = (word : ℕ) × (value : ℕ) × (o ≡ op.Update word value)
Leaves m o d (Err c) = Unit {0}

-- other words only of a line that writes them
wrote : (c : Context) (m : Memory) (a : Activity) {i : Instr} {m' : Memory} {l' : Locals} → Writes c m i m' l' →
    (line_step_role a c.locals i ≡ Write) ⊎ (m'.words ≡ m.words)
wrote c m a (puts_word j t k w is) = inl refl
wrote c m a (puts_bit bits.Q j i e k p x there) = inr refl
wrote c m a (puts_bit bits.P j i e k p x there) = inr refl
wrote c m a _ = inr refl

-- each form of a line
leaves : (c : Context) (m : Memory) (a : Activity) {i : Instr} {r : Result Effect Cause} → Does c m a i r →
    Leaves m a.op (line_step_role a c.locals i) r
unfolding Leaves
leaves c m a (traps i e) = tt
leaves c m a (goes i m' l' link line h) = wrote c m a h
leaves c m a (answers x scans alone) =
    let view = value_at x c.locals.views [] in
    (ap (returned view a.op) alone ∙ ap (λ o. returned view o None) scans, scans)
leaves c m a (finishes i word value is) = (word, value, is)

-- the line at which a process stands, where there is one
pub leaves_at : (s : Source) (c : Context) (m : Memory) (a : Activity) (i : Option Instr) →
    Leaves m a.op (step_role_at a c.locals i) (effect_at s c m a i)
unfolding Leaves
leaves_at s c m a None = tt
leaves_at s c m a (Some i) = leaves c m a (line_does s c m a i)

-- where an item plays the role of its line: the values stay unless it writes, and it answers what the line answers
Plays : StepRole → State → State × Outcome → Type 0
Plays d S to =
    ((d ≡ Write) ⊎ (values to.0 ≡ values S)) × ((v : List ℕ) → to.1 ≡ outcome.Answered v → d ≡ Answer v)

-- what a step leaves behind
left : (S : State) (i : ℕ) (a : Activity) (l : Locals) (d : StepRole) (r : Result Effect Cause) →
    Leaves S.memory a.op d r → Plays d S (leave S i a l r)
unfolding Leaves Plays
left S i a l d (Ok (Goes m l' link line)) h = (
  elim h [
    | inl w ↦ inl w
    | inr same ↦ inr (ap (map (λ (x : Word). x.datum)) same)
  ],
  λ v e. absurd cc,
)
left S i a l d (Ok (Answers u)) h = (inr refl, λ v e. h.0 ∙ (let same : u ≡ v = cc in ap (λ x. Answer x) same))
left S i a l d (Ok Finishes) h = (inr refl, λ v e. absurd cc)
left S i a l d (Err c) h = (inr refl, λ v e. absurd cc)

-- a step
step_plays : (s : Source) (shape : Counts) (S : State) (i : ℕ) (p : Process) (t : Status) →
    Plays (step_role_in s p.locals t) S (step s shape S i p t)
unfolding Plays
step_plays s shape S i p (Busy a) =
    let c : Context = record { shape = shape; me = i; op = a.op; locals = p.locals; place = 0 } in
    left S i a p.locals (step_role_in s p.locals (Busy a)) (effect_at s c S.memory a (instr_at s.lines a.line))
    (leaves_at s c S.memory a (instr_at s.lines a.line))
step_plays s shape S i p _ = (inr refl, λ v e. absurd cc)

-- a call
called_plays : (d : StepRole) (s : Source) (S : State) (i : ℕ) (p : Process) (o : Op) (r : Option Reason) →
    Plays d S (called s S i p o r)
unfolding Plays
called_plays d s S i p o None = (inr refl, λ v e. absurd cc)
called_plays d s S i p o (Some r) = (inr refl, λ v e. absurd cc)

call_plays : (d : StepRole) (s : Source) (shape : Counts) (S : State) (i : ℕ) (o : Op) (p : Process) (t : Status) →
    Plays d S (call s shape S i o p t)
unfolding Plays
call_plays d s shape S i o p Idle = called_plays d s S i p o (call_skip s.kind shape i o)
call_plays d s shape S i o p _ = (inr refl, λ v e. absurd cc)

-- a crash
crash_plays : (d : StepRole) (S : State) (i : ℕ) (p : Process) (t : Status) → Plays d S (crash S i p t)
unfolding Plays
crash_plays d S i p Idle = (inr refl, λ v e. absurd cc)
crash_plays d S i p _ = (inr refl, λ v e. absurd cc)

item_plays : (s : Source) (shape : Counts) (S : State) (x : Item) → Plays (step_role_of s S x) S (done s shape S x)
item_plays s shape S (item.Step i) = step_plays s shape S i (process_at S i) (process_at S i).status
item_plays s shape S (item.Call i o) = call_plays _ s shape S i o (process_at S i) (process_at S i).status
item_plays s shape S (item.Crash i) = crash_plays _ S i (process_at S i) (process_at S i).status

-- the values stay, unless the item is a step at a line that writes a word
pub values_stay : (s : Source) (shape : Counts) (S : State) (x : Item) →
    (step_role_of s S x ≡ Write) ⊎ (values (done s shape S x).0 ≡ values S)
unfolding Plays
values_stay s shape S x = (item_plays s shape S x).0

-- an answer is the view of the line that answers
pub answer_is : (s : Source) (shape : Counts) (S : State) (x : Item) (v : List ℕ) →
    (done s shape S x).1 ≡ outcome.Answered v → step_role_of s S x ≡ Answer v
unfolding Plays
answer_is s shape S x v e = (item_plays s shape S x).1 v e
