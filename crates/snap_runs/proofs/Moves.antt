-- The moves that a scan of any algorithm sees: each tells of a step since the scan's start that the scanner can see,
-- with at most one double collect of the scan ended since.
use Rattle.std.specs.Prelude.{◌≡◌, ℕ, zero, suc, ◌+◌, ◌<◌, ◌≤◌, ◌⊎◌, true, List, length, Option, Some}
use Rattle.std.proofs.Common.{◌∙◌, ap, subst, arith, inl, inr}
use Rattle.std.proofs.Math.Nat.{eq-or-lt_of_le}
use Rattle.snap_runs.proofs.Common.{IsOneOf, Word, Process, process_at, Item, Run, state}
use Rattle.snap_semantics.specs.Source.{Name}
use Rattle.snap_runs.specs.Scan.{PendingScan, ends_double_collect, double_collects}
use Rattle.snap_runs.specs.Update.{executes}
use Rattle.snap_runs.specs.Promises.{row_place, ObservedMove, RecentWrite}
use Rattle.snap_runs.proofs.Algorithm.{Mode, At, To, TypedProcess, Algorithm, typed_at, typed_state}
use Rattle.snap_runs.proofs.Counting.{count_later}
use Rattle.snap_runs.proofs.Embedding as embed
use Rattle.snap_runs.proofs.Executing as executing
use Rattle.snap_runs.proofs.Flow.{Lines, IsUpdateOf}
use Rattle.snap_runs.proofs.Held.{seq_at}
use Rattle.snap_runs.proofs.ScanSpan as span
use Rattle.snap_runs.proofs.Scans as scans
use Rattle.snap_runs.proofs.WordWrites as writes

-- where a number has grown, and each item is an event or leaves it, there was an event
grown_at : (Event : ℕ → Type 0) (f : ℕ → ℕ) (last : ℕ) → ((v : ℕ) → v < last → Event (suc v) ⊎ (f (suc v) ≡ f v)) →
    (u v : ℕ) → u ≤ v → v ≤ last → f u < f v → (x : ℕ) × (u < x) × (x ≤ v) × Event x
grown_at Event f last each u zero le short lt =
    absurd (let e : f u ≡ f 0 = ap f (let z : u ≡ 0 = omega arith in z) in omega arith)
grown_at Event f last each u (suc v) le short lt =
    elim (eq-or-lt_of_le le) [
      | inl same ↦ absurd (let e : f u ≡ f (suc v) = ap f same in omega arith)
      | inr less ↦ elim (each v (omega arith)) [
        | inl event ↦ (suc v, less, omega arith, event)
        | inr kept ↦ (let e : f (suc v) ≡ f v = kept in
            let x = grown_at Event f last each u v (omega arith) (omega arith) (omega arith) in
            (x.0, x.1, omega arith, x.3))
      ]
    ]

module _ {V P M : Type 0} (a : Algorithm V P M) (lines : Lines V P M) (listed : scans.Listed a lines)
    (run : scans.Execution a lines) where
  abbrev items : List Item
  items = run.items

  abbrev r : Run
  r = embed.run_of a items

  abbrev at : ℕ → ℕ → TypedProcess V P M
  at t i = typed_at a (typed_state a items t) i

  -- where process i sees process j move it stands at that line, and the line raises the place
  pub record Observed (there : P) (raised : ℕ → V → V) (row : Name) (i j t : ℕ) : Type 0 where
    pub mode : Mode
    pub control : (at t i).control ≡ At mode there
    pub grows : row_place (a.locals_of (at t i).variables) row j
        < row_place (a.locals_of (raised i (at t i).variables)) row j

  row_is : (row : Name) (t i j : ℕ) → t ≤ length items → IsOneOf a.shape.n i →
      row_place (process_at (state r t) i).locals row j ≡ row_place (a.locals_of (at t i).variables) row j
  row_is row t i j short one =
      ap (λ (p : Process). row_place p.locals row j) (embed.process_at_is a items run.fits run.does t i short one)

  pub observed : (numbered : executing.Numbered a) (line : ℕ) (there next : P) (raised : ℕ → V → V) (row : Name) →
      numbered.counter_with line ≡ Some there →
      ((me : ℕ) (d : Mode) (m : M) (p : V) → a.move me d m p there ≡ To d m (raised me p) next) → (i j t : ℕ) →
      t < length items → IsOneOf a.shape.n i → ObservedMove r line row i j (suc t) → Observed there raised row i j t
  observed numbered line there next raised row its goes i j t short one move =
      let stands = executing.stands_at a items run.fits run.does numbered t i line there short one its move.executed in
      let d = stands.1.0 in
      let m = (typed_state a items t).memory in
      let p = (at t i).variables in
      let after : (at (suc t) i).variables ≡ raised i p =
      executing.variables_next a items run.fits run.does t i d there d m
      (raised i p) next one stands.0 stands.1.1 (goes i d m p) in
      record {
        mode = d;
        control = stands.1.1;
        grows = subst (λ y. y < row_place (a.locals_of (raised i p)) row j) (row_is row t i j (omega arith) one)
            (subst (λ y. row_place (process_at (state r t) i).locals row j < y)
            (row_is row (suc t) i j (omega arith) one ∙ ap (λ v. row_place (a.locals_of v) row j) after) move.grows);
      }

  -- Between items c and t there was an event, and process i has at most one double collect from there to item t.
  pub record Recent (Event : ℕ → Type 0) (i c t : ℕ) : Type 0 where
    pub item : ℕ
    pub after_start : c < item
    pub before_move : item < t
    pub event : Event item
    pub recent : double_collects r i item t ≤ 1

  -- an event that is recent: a number has grown since the start of the scan's double collect, of which at most one end
  -- has followed
  pub recent : (Event : ℕ → Type 0) (f : ℕ → ℕ) → ((v : ℕ) → v < length items → Event (suc v) ⊎ (f (suc v) ≡ f v)) →
      (i : ℕ) (link : Option ℕ) (c t : ℕ) (d : Mode) (k : P) → PendingScan r i link c (suc t) →
      c ≤ t → (at t i).control ≡ At d k → a.tests k ≡ 0 →
      (at t i).auxiliary.tested ≤ 1 → f (at t i).auxiliary.round < f t → Recent Event i c (suc t)
  recent Event f each i link c t d k scan le there none few grown =
      let round = (at t i).auxiliary.round in
      let g = scans.goes a lines listed run i scan.process link c (suc t) t scan le (omega arith) in
      let event = grown_at Event f (length items) each round t g.round_before (omega arith) grown in
      let last : double_collects r i round (suc t) ≤ double_collects r i round t + a.tests k =
      span.last_collects a listed.tested items run.fits run.does
      (scans.lawful a lines listed run) i scan.process round t d k g.round_before (omega arith) there in
      let fewer : double_collects r i event.0 (suc t) ≤ double_collects r i round (suc t) =
      count_later (ends_double_collect r i) round event.0 (suc t) (omega arith) in
      record {
        item = event.0;
        after_start = omega arith;
        before_move = omega arith;
        event = event.3;
        recent = omega arith;
      }

  -- Where each process writes its own word alone: the word of process j is newer than at
  -- the start of the double collect.
  pub recent_write : (line : ℕ) (writer : writes.Writer a lines line) →
      ((t i : ℕ) (d : Mode) → t < length items → IsOneOf a.shape.n i → (at t i).control ≡ At d writer.counter →
      IsUpdateOf (writer.Owned i) d) → ((i word : ℕ) → writer.Owned i word → word ≡ i) →
      (i j : ℕ) (link : Option ℕ) (c t : ℕ) (d : Mode) (k : P) → IsOneOf a.shape.n j →
      PendingScan r i link c (suc t) → c ≤ t → (at t i).control ≡ At d k →
      a.tests k ≡ 0 → (at t i).auxiliary.tested ≤ 1 →
      seq_at (writes.words_at a lines line writer run (at t i).auxiliary.round) j
      < seq_at (writes.words_at a lines line writer run t) j → RecentWrite r line i j c (suc t)
  recent_write line writer updates own i j link c t d k other scan le there none few newer =
      let each : (v : ℕ) → v < length items → (executes r j line (suc v) ≡ true) ⊎ (seq_at
      (writes.words_at a lines line writer run (suc v)) j ≡ seq_at (writes.words_at a lines line writer run v) j) =
      λ v h. elim (writes.word_changes a lines line writer run updates own j v other h) [
        | inl wrote ↦ inl wrote
        | inr same ↦ inr (ap (λ (w : Word). w.seq) same)
      ] in
      let x = recent (λ y. executes r j line y ≡ true)
      (λ y. seq_at (writes.words_at a lines line writer run y) j) each i link c t d k scan le there none few newer in
      record {
        item = x.item;
        after_start = x.after_start;
        before_move = x.before_move;
        executed = x.event;
        recent = x.recent;
      }
