-- Laws of a run item by item, for those who go through it: the items so far and the state, each with one item more,
-- and behind the last item.
use Rattle.std.proofs.Common.{◌≡◌, ℕ, suc, ◌+◌, ◌<◌, [], ◌∷◌, ◌++◌, length, take, refl, sym, ap, ◌∙◌, arith, Result, Ok}
use Rattle.std.proofs.lemmas.List.{take_all}
use Rattle.std.proofs.Math.Seq.{take-suc}
use Rattle.snap_words.specs.Shape.{Counts}
use Rattle.snap_semantics.specs.declared.process.Item.{Item}
use Rattle.snap_semantics.specs.declared.process.Activity.{Activity}
use Rattle.snap_semantics.specs.declared.process.Cause.{Cause}
use Rattle.snap_semantics.specs.declared.process.Item.TheVariants.{Step}
use Rattle.snap_semantics.specs.declared.process.Outcome.TheVariants.{Skipped}
use Rattle.snap_semantics.specs.declared.process.Reason.{Reason}
use Rattle.snap_semantics.specs.declared.process.Status.{Status}
use Rattle.snap_semantics.specs.declared.process.Status.TheVariants.{Busy}
use Rattle.snap_semantics.specs.Source.{Source, instr_at}
use Rattle.snap_semantics.specs.State.{Locals, State, process_at}
use Rattle.snap_semantics.specs.Table.{Effect, Goes, done, effect_at, leave, step}
use Rattle.snap_runs.specs.Run.{Run, item, outcome, state}
use Rattle.snap_runs.specs.StepRoles.{Nothing, step_role_in, step_role_of}
use Rattle.snap_runs.proofs.Embedding.{next_state}
use Rattle.snap_walk.specs.Walk.{Passes, Way}
use Rattle.snap_walk.specs.declared.passed.Passed.{Passed}

-- the items so far, with one more
pub items_more : (r : Run) (t : ℕ) → t < length r.items → take (suc t) r.items ≡ take t r.items ++ item r (suc t) ∷ []
items_more r t below = take-suc r.items t (Step 0) below

-- behind the last item they are all
pub all_items : (r : Run) (t : ℕ) → t ≡ length r.items → take t r.items ≡ r.items
all_items r t end = take_all t r.items (omega (arith, end))

-- what is passed leads to the next state
pub passed_state : (w w' : Way) (p : Passed) → Passes w p w' →
    state w'.run w'.at ≡ (done w.run.source w.run.shape (state w.run w.at) p.item).0
passed_state w w' p is =
    ap (λ (v : Way). state v.run v.at) is.way ∙ next_state w.run w.at is.left
    ∙ ap (λ (x : Item). (done w.run.source w.run.shape (state w.run w.at) x).0) (sym is.item)

-- a step that goes on or ends is not skipped
left_done : (S : State) (i : ℕ) (a : Activity) (l : Locals) (e : Result Effect Cause) (r : Reason) →
    (leave S i a l e).1 ≡ Skipped r → ⊥
left_done S i a l (Ok (Goes m l' link line)) r is = absurd cc
left_done S i a l _ r is = absurd cc

step_skipped : (s : Source) (n : Counts) (S : State) (i : ℕ) (t : Status) (r : Reason) →
    (step s n S i (process_at S i) t).1 ≡ Skipped r → step_role_in s (process_at S i).locals t ≡ Nothing
step_skipped s n S i (Busy a) r is =
    absurd (left_done S i a (process_at S i).locals (effect_at s
    (record { shape = n; me = i; op = a.op; locals = (process_at S i).locals; place = 0 }) S.memory a
    (instr_at s.lines a.line)) r is)
step_skipped s n S i _ r is = refl

item_skipped : (s : Source) (n : Counts) (S : State) (x : Item) (r : Reason) → (done s n S x).1 ≡ Skipped r →
    step_role_of s S x ≡ Nothing
item_skipped s n S (Step i) r is = step_skipped s n S i (process_at S i).status r is
item_skipped s n S _ r is = refl

-- an item that is skipped does nothing
pub skipped_nothing : (w w' : Way) (p : Passed) → Passes w p w' → (r : Reason) → p.outcome ≡ Skipped r →
    step_role_of w.run.source (state w.run w.at) p.item ≡ Nothing
skipped_nothing w w' p is r skipped =
    let s = w.run.source in
    let S = state w.run w.at in
    item_skipped s w.run.shape S p.item r
    (ap (λ (x : Item). (done s w.run.shape S x).1) is.item ∙ sym is.outcome ∙ skipped)
