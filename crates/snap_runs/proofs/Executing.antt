-- A process of an `Algorithm` that executes a line stands at the
-- program counter of that line; and what its step there leaves.
use Rattle.std.specs.Prelude.{◌≡◌, ℕ, suc, ◌<◌, Bool, true, false, ◌&&◌, List, length, Option, Some, nat_eq, refl}
use Rattle.std.proofs.Common.{sym, ◌∙◌, ap, subst, arith}
use Rattle.snap_runs.proofs.Common.{IsOneOf, Process, process_at, who, Item, Step, Stepped, Run, state}
use Rattle.snap_runs.proofs.Common.{before, item, outcome}
use Rattle.snap_runs.specs.Scan.{steps}
use Rattle.snap_runs.specs.Update.{is_at, goes_on, executes, TrapsExecuteNothing}
use Rattle.snap_runs.proofs.Algorithm.{Mode, Control, Idle, At, Move, To, TypedProcess, TypedState, Algorithm}
use Rattle.snap_runs.proofs.Algorithm.{by_move, by_step, typed_at, changed, happens, item_at, typed_state, status_of}
use Rattle.snap_runs.proofs.Algorithm.{stepped_auxiliary, memory_after}
use Rattle.snap_runs.proofs.Computing.{both, same_number, same_from}
use Rattle.snap_runs.proofs.Embedding as embed
use Rattle.snap_runs.proofs.Steady.{Steady}

pub step_of : (i : ℕ) (y : Item) → steps i y ≡ true → y ≡ Step i
step_of i (Step k) h = ap (λ u. Step u) (same_from k i h)
step_of i _ h = absurd (cc)

not_on : (b c : Bool) → (b && (c && false)) ≡ false
not_on true true = refl
not_on _ _ = refl

-- a line that traps is not executed
pub traps_execute_nothing : TrapsExecuteNothing
traps_execute_nothing r i line t cause trapped =
    ap (λ o. steps i (item r t) && (is_at line (process_at (before r t) i).status && goes_on o)) trapped
    ∙ not_on (steps i (item r t)) (is_at line (process_at (before r t) i).status)

module _ {V P M : Type 0} (a : Algorithm V P M) where
  -- each line by its number
  pub record Numbered : Type 0 where
    pub counter_with : ℕ → Option P
    pub alone : (k : P) → counter_with (a.number k) ≡ Some k

  pub at_number : (numbered : Numbered) (k : P) (line : ℕ) (there : P) → numbered.counter_with line ≡ Some there →
      nat_eq (a.number k) line ≡ true → k ≡ there
  at_number numbered k line there is same =
      let e : Some k ≡ Some there =
      sym (numbered.alone k) ∙ ap numbered.counter_with (same_from (a.number k) line same) ∙ is in
      cc

  -- a process at a line stands at its program counter
  busy_at : (numbered : Numbered) (line : ℕ) (there : P) (control : Control P) →
      numbered.counter_with line ≡ Some there → is_at line (status_of a control) ≡ true →
      (d : Mode) × (control ≡ At d there)
  busy_at numbered line there Idle is h = absurd (cc)
  busy_at numbered line there (At d k) is h = (d, ap (λ y. At d y) (at_number numbered k line there is h))

  module _ (items : List Item) (fits : Steady (embed.run_of a items)) (does : embed.AllDo a items) where
    abbrev pub r : Run
    r = embed.run_of a items

    abbrev pub at : ℕ → ℕ → TypedProcess V P M
    at t i = typed_at a (typed_state a items t) i

    -- the process of a step is one of the processes
    pub one_of : (t i : ℕ) → t < length items → item_at items t ≡ Step i → IsOneOf a.shape.n i
    one_of t i h is = subst (λ y. IsOneOf a.shape.n (who y)) is (embed.one_at a items fits t h)

    -- a step at a line executes it, since none traps
    pub line_executes : (t i line : ℕ) (d : Mode) (k : P) → t < length items → item_at items t ≡ Step i →
        (at t i).control ≡ At d k → nat_eq (a.number k) line ≡ true → executes r i line (suc t) ≡ true
    line_executes t i line d k h is there same =
        let stands : is_at line (process_at (state r t) i).status ≡ true =
        ap (λ (p : Process). is_at line p.status)
        (embed.process_at_is a items fits does t i (omega arith) (one_of t i h is))
        ∙ ap (λ (p : Control P). is_at line (status_of a p)) there ∙ same in
        let goes = goes_on (outcome r (suc t)) in
        ap (λ (y : Item). steps i y && (is_at line (process_at (state r t) i).status && goes)) is
        ∙ ap (λ b. b && (is_at line (process_at (state r t) i).status && goes)) (same_number i)
        ∙ ap (λ b. b && goes) stands ∙ embed.goes a items fits does t h

    -- a process stands at the line that it executes
    pub stands_at : (numbered : Numbered) (t i line : ℕ) (there : P) → t < length items → IsOneOf a.shape.n i →
        numbered.counter_with line ≡ Some there →
        executes r i line (suc t) ≡ true →
        (item_at items t ≡ Step i) × ((d : Mode) × ((at t i).control ≡ At d there))
    stands_at numbered t i line there h one is ex =
        let there_on = is_at line (process_at (state r t) i).status && goes_on (outcome r (suc t)) in
        let parts = both (steps i (item r (suc t))) there_on ex in
        let stands : is_at line (status_of a (at t i).control) ≡ true =
        sym (ap (λ (p : Process). is_at line p.status) (embed.process_at_is a items fits does t i (omega arith) one))
        ∙ (both (is_at line (process_at (state r t) i).status) (goes_on (outcome r (suc t))) parts.1).0 in
        (step_of i (item_at items t) parts.0, busy_at numbered line there (at t i).control is stands)

    -- the state after a step at a line, and its memory
    state_after : (t i : ℕ) (d : Mode) (k : P) → item_at items t ≡ Step i → (at t i).control ≡ At d k →
        typed_state a items (suc t)
        ≡ changed (typed_state a items t) i (by_step a (suc t) (typed_state a items t).memory i (at t i) (At d k))
    state_after t i d k is there =
        ap (happens a (suc t) (typed_state a items t)) is
        ∙ ap (λ (p : Control P).
        changed (typed_state a items t) i (by_step a (suc t) (typed_state a items t).memory i (at t i) p)) there

    pub memory_next : (t i : ℕ) (d : Mode) (k : P) → item_at items t ≡ Step i → (at t i).control ≡ At d k →
        (typed_state a items (suc t)).memory
        ≡ memory_after (typed_state a items t).memory (a.move i d (typed_state a items t).memory (at t i).variables k)
    memory_next t i d k is there =
        ap (λ (x : TypedState V P M). x.memory) (state_after t i d k is there)
        ∙ embed.move_memory a (suc t) (typed_state a items t) i k
        (a.move i d (typed_state a items t).memory (at t i).variables k)

    -- the variables after a step at a line that goes on
    pub variables_next : (t i : ℕ) (d : Mode) (k : P) (d' : Mode) (m' : M) (p' : V) (k' : P) →
        IsOneOf a.shape.n i → item_at items t ≡ Step i → (at t i).control ≡ At d k →
        a.move i d (typed_state a items t).memory (at t i).variables k ≡ To d' m' p' k' →
        (at (suc t) i).variables ≡ p'
    variables_next t i d k d' m' p' k' one is there goes =
        let x = typed_state a items t in
        let q' : TypedProcess V P M =
        record { control = At d' k'; variables = p'; auxiliary = stepped_auxiliary a k (suc t) (at t i).auxiliary } in
        ap (λ (q : TypedProcess V P M). q.variables)
        (embed.process_next a items t i m' q' Stepped one
        (state_after t i d k is there
        ∙ ap (λ (v : Move V P M). changed x i (by_move a (suc t) x.memory (at t i) k v)) goes))
