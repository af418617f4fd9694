-- An update writes at most once, and exactly once if it is done.
use Rattle.std.specs.Prelude.{◌≡◌, ℕ, zero, suc, ◌+◌, ◌<◌, ◌≤◌, List, length, nat_eq, if◌then◌else◌}
use Rattle.std.proofs.Common.{sym, ◌∙◌, subst, arith, inl, inr}
use Rattle.std.proofs.Math.Nat.{eq-or-lt_of_le}
use Rattle.snap_runs.proofs.Common.{IsOneOf, who, Item, Update, Finished, outcome}
use Rattle.snap_runs.specs.Scan.{count}
use Rattle.snap_runs.specs.Update.{executes, IsDone, PendingUpdate}
use Rattle.snap_runs.proofs.Algorithm.{Mode, Scanning, Embedded, Updating, op_of, Control, At, Move, Finish}
use Rattle.snap_runs.proofs.Algorithm.{TypedProcess, Algorithm, by_move, typed_at, outcome_of, item_at, typed_state}
use Rattle.snap_runs.proofs.Embedding as embed
use Rattle.snap_runs.proofs.Flow.{Lines}
use Rattle.snap_runs.proofs.Flow as flow
use Rattle.snap_runs.proofs.ItemCases as cases
use Rattle.snap_runs.proofs.Scans as scans
use Rattle.snap_runs.proofs.UpdateSpan as called

module _ {V P M : Type 0} (a : Algorithm V P M) (lines : Lines V P M) (line : ℕ) where
  -- what the listing says of the line that writes
  pub record Once : Type 0 where
    pub writes_is : (k : P) → (if nat_eq (a.number k) line then 1 else 0) ≡ a.writes k
    -- an update writes at most once up to the end of a line
    pub most : (k : P) → lines.written k + a.writes k ≤ 1
    -- at its last line it has written
    pub last : (k : P) → lines.IsLast k → (lines.written k ≡ 1) × (a.writes k ≡ 0)

  module _ (once : Once) (run : scans.Execution a lines) (i : ℕ) (one : IsOneOf a.shape.n i) where
    abbrev items : List Item
    items = run.items

    abbrev pub his : ℕ → TypedProcess V P M
    his t = typed_at a (typed_state a items t) i

    flows_at : (t : ℕ) (d : Mode) (k : P) → t < length items → (his t).control ≡ At d k →
        flow.Flows lines a d (typed_state a items t).memory (his t).variables k
        (a.move i d (typed_state a items t).memory (his t).variables k)
    flows_at t d k h is =
        subst (scans.FlowsAt a lines i (typed_state a items t).memory (his t).variables) is (run.flows t i h one)

    pub silent : (t : ℕ) → t < length items → (d : Mode) (k : P) → (his t).control ≡ At d k →
        (word value : ℕ) → op_of d ≡ Update word value →
        called.NoAnswer a (a.move i d (typed_state a items t).memory (his t).variables k)
    silent t h d k is word value e =
        flow.never_answers lines a d (typed_state a items t).memory (his t).variables k
        (a.move i d (typed_state a items t).memory (his t).variables k) word value e (flows_at t d k h is)

    most_once : (d : Mode) (k : P) (w word value : ℕ) → op_of d ≡ Update word value →
        flow.HasWritten lines (At d k) w → w + a.writes k ≤ 1
    most_once Scanning k w word value e h = absurd (cc)
    most_once _ k w word value e h = let most : lines.written k + a.writes k ≤ 1 = once.most k in omega arith

    -- where an update is done it has written
    once_done : (t : ℕ) (m : M) (q : TypedProcess V P M) (d : Mode) (k : P) (v : Move V P M) (w word value : ℕ) →
        outcome_of (by_move a t m q k v) ≡ Finished →
        op_of d ≡ Update word value → flow.Flows lines a d m q.variables k v →
        flow.HasWritten lines (At d k) w → (w ≡ 1) × (a.writes k ≡ 0)
    once_done t m q Scanning k Finish w word value out e h is = absurd h
    once_done t m q (Embedded x y) k Finish w word value out e h is = absurd h
    once_done t m q (Updating x y) k Finish w word value out e h is = let last = once.last k h in (is ∙ last.0, last.1)
    once_done t m q d k _ w word value out e h is = absurd (cc)

    abbrev pub Going : (word value c t : ℕ) → Type 0
    Going word value c t = called.Going a line once.writes_is items run.fits run.does i one silent word value c t

    done_once : (word value c t : ℕ) → c ≤ t → t < length items → Going word value c t →
        who (item_at items t) ≡ i → outcome (embed.run_of a items) (suc t) ≡ Finished →
        count (executes (embed.run_of a items) i line) c (suc t) ≡ 1
    done_once word value c t le short g w out =
        let m = (typed_state a items t).memory in
        let step = cases.busy_step a items run.fits run.does i one t g.mode g.counter short g.control w
        (λ why is. let e = sym out ∙ is in cc) in
        let written : flow.HasWritten lines (At g.mode g.counter) (his t).auxiliary.wrote =
        subst (λ (p : Control P). flow.HasWritten lines p (his t).auxiliary.wrote) g.control
        (run.wrote t i (omega arith) one) in
        let ended =
        once_done (suc t) m (his t) g.mode g.counter (a.move i g.mode m (his t).variables g.counter)
        (his t).auxiliary.wrote word value (sym step.1 ∙ out) g.op
        (flows_at t g.mode g.counter short g.control) written in
        let next : count (executes (embed.run_of a items) i line) c (suc t)
        ≡ count (executes (embed.run_of a items) i line) c t + a.writes g.counter =
        called.line_counts a line once.writes_is items run.fits run.does i one silent t c g.mode g.counter le
        short step.0 g.control in
        omega arith

    pub writes_once : (word value c e : ℕ) → PendingUpdate (embed.run_of a items) i word value c e →
        (count (executes (embed.run_of a items) i line) c e ≤ 1)
        × (c < e → IsDone (embed.run_of a items) i e → count (executes (embed.run_of a items) i line) c e ≡ 1)
    writes_once word value c zero up = (omega arith, λ lt done. absurd (omega arith))
    writes_once word value c (suc t) up =
        let r = embed.run_of a items in
        elim (eq-or-lt_of_le up.order) [
          | inl same ↦ (let none : count (executes r i line) c (suc t) ≡ 0 =
              called.none_yet a line once.writes_is items run.fits run.does i one silent c (suc t) (omega arith) in
              (omega arith, λ lt done. absurd (omega arith)))
          | inr more ↦ (
              let g =
              called.going a line once.writes_is items run.fits run.does i one silent word value c (suc t) t up
              (omega arith) (omega arith) in
              let written : flow.HasWritten lines (At g.mode g.counter) (his t).auxiliary.wrote =
              subst (λ (p : Control P). flow.HasWritten lines p (his t).auxiliary.wrote) g.control
              (run.wrote t i (omega arith) one) in
              let most : (his t).auxiliary.wrote + a.writes g.counter ≤ 1 =
              most_once g.mode g.counter (his t).auxiliary.wrote word value g.op written in
              let next : count (executes r i line) c (suc t) ≤ count (executes r i line) c t + a.writes g.counter =
              called.line_at_most a line once.writes_is items run.fits run.does i one silent t c g.mode g.counter
              (omega arith) (omega arith) g.control in (
                omega arith,
                λ lt done. done_once word value c t (omega arith) (omega arith) g done.0 done.1,
              ))
        ]
