-- Each item of a run of U keeps the invariant.
use Rattle.std.specs.Prelude.{◌≡◌, ℕ, suc, ◌+◌, ◌<◌, ◌≤◌, length, Option, Some, None, if◌then◌else◌, refl}
use Rattle.std.proofs.Common.{sym, ◌∙◌, ap, subst, arith, inl, inr}
use Rattle.std.proofs.Math.Nat.{eq-or-lt_of_le}
use Rattle.snap_runs.proofs.Common.{IsOneOf, who, Item, Step, Call, Crash, Op, Scan, Update, Called, Stepped, Answered}
use Rattle.snap_runs.proofs.Common.{Finished, Reason}
use Rattle.snap_words.specs.declared.kind.KindTag.TheVariants as kind
use Rattle.snap_semantics.specs.Table.{call_skip}
use Rattle.snap_runs.proofs.Algorithm.{Mode, op_of, Idle, At, To, Begin, Answer, Finish, New, by_move, by_step}
use Rattle.snap_runs.proofs.Algorithm.{by_admission, by_call, typed_at, changed, happens, stepped_auxiliary}
use Rattle.snap_runs.proofs.Flow as flow
use Rattle.snap_runs.proofs.Flow.{IsInScan, InScan, scan_inside}
use Rattle.snap_runs.proofs.Held.{seq_at, at_most_now, at_least_now, opened_next}
use Rattle.snap_runs.proofs.ListedLines.{writes_or_not}
use Rattle.snap_runs.proofs.WordWrites.{words_then}
use Rattle.snap_runs_of_u.specs.Promises.{square}
use Rattle.snap_runs_of_u.proofs.Algorithm.{written, Words, Move, Control, Process, State, Variables, ProgramCounter}
use Rattle.snap_runs_of_u.proofs.Algorithm.{L16, L32, move, IsLineOf, lines, tests, restarts, writes, algorithm}
use Rattle.snap_runs_of_u.proofs.Collect.{Low}
use Rattle.snap_runs_of_u.proofs.Control.{BelowLimit, VariablesAt, MoveWell, ControlWell, move_well, called_well}
use Rattle.snap_runs_of_u.proofs.Count.{Count, CountMove, count_move, moves, moves_less}
use Rattle.snap_runs_of_u.proofs.Flows.{Making, HasWritten, flows, counter_with, line_listed, writer}
use Rattle.snap_runs_of_u.proofs.Invariant.{ProcessInvariant, Invariant, StageAt, CountAt}
use Rattle.snap_runs_of_u.proofs.Invariant.{pending, time_passes, process_changes}
use Rattle.snap_runs_of_u.proofs.Write.{line_32_writes}
use Rattle.snap_runs_of_u.proofs.Stage.{Stage, StageMove, stage_move, Sized, SizedMove, sized_move}

-- process i
abbrev pub at : ℕ → State → ℕ → Process
at n x i = typed_at (algorithm n) x i

-- no process sees itself move, so the test at line 16 comes after fewer than n moves
unmoved : (n i : ℕ) (base m : Words) (p : Variables) → IsOneOf n i → Low n base m p.moved → BelowLimit n p →
    seq_at base i ≡ seq_at m i → moves n p < n
unmoved n i base m p one low below self =
    moves_less n i p one (omega (arith, low i one)) below

pub few_moves : (n me : ℕ) (history : ℕ → Words) (t since round : ℕ) (m : Words) (d : Mode)
    (p : Variables) (k : ProgramCounter) → IsOneOf n me → IsLineOf me d k → VariablesAt n p k →
    (IsInScan d → seq_at (history since) me ≡ seq_at m me) →
    Stage n history t since round m p k → k ≡ L16 → moves n p < n
few_moves n me history t since round m d p k one line keeps self stage e =
    unmoved n me (history since) m p one (subst (Stage n history t since round m p) e stage).0
    (subst (VariablesAt n p) e keeps).1
    (self (scan_inside (λ word. word ≡ me) d (subst (IsLineOf me d) e line)))

writes_le : (n : ℕ) (k : ProgramCounter) → writes k ≤ 1
writes_le n k = let once : written k + writes k ≤ 1 = (line_listed n k).once in omega arith

-- before a line that keeps the words, c is the sequence number of the process's word
is_seq : (n t : ℕ) (history : ℕ → Words) (x : State) (i : ℕ) (d : Mode) (k : ProgramCounter) →
    IsOneOf n i → Invariant n t history x → (at n x i).control ≡ At d k → writes k ≡ 0 →
    (at n x i).variables.c ≡ seq_at x.memory i + 0
is_seq n t history x i d k one h is quiet =
    (h.each i one).seq ∙ ap (λ (y : Control). seq_at x.memory i + pending y) is ∙ ap (λ y. seq_at x.memory i + y) quiet

-- a process whose operation has ended
idle_own : (n t : ℕ) (history : ℕ → Words) (words : Words) (i : ℕ) (q : Process) (k : ProgramCounter) →
    q.variables.c ≡ seq_at words i + 0 → history t ≡ words → q.variables.c < t →
    ProcessInvariant n t history words i q → ProcessInvariant n t history words i
    (record { control = Idle; variables = q.variables; auxiliary = stepped_auxiliary (algorithm n) k t q.auxiliary })
idle_own n t history words i q k seq now c own = record {
  well = tt;
  length_a = own.length_a;
  length_b = own.length_b;
  seq = seq;
  fresh = omega arith;
  since_le = own.since_le;
  low = own.low;
  opened = opened_next n history words (restarts k) t q.auxiliary.round now own.opened;
  views = own.views;
  stage = tt;
  self = λ inside. absurd inside;
  counts = tt;
  wrote = tt;
}

-- what the move v of a process at line k owes; t is the item's number
record MoveOwes (n t : ℕ) (history : ℕ → Words) (x : State) (i : ℕ) (d : Mode)
    (k : ProgramCounter) (v : Move) : Type 0 where
  -- a line keeps the words
  pub words : flow.KeepsMemory lines x.memory v
  -- a line leads to a line of its mode, with the variables that the next line asks for
  pub well : MoveWell (op_of d) n i v
  -- a line takes the scan to the stage of the next line
  pub stage : StageMove n history t (at n x i).auxiliary.since (if restarts k then t else (at n x i).auxiliary.round) v
  -- a line keeps the lengths of the copies, and c as it should be
  pub sized : SizedMove n (seq_at x.memory i) v
  -- a line begins to make no view, and leads into no scan
  pub making : flow.MakesNoMore lines d k v
  pub scan : flow.KeepsOut lines d v
  -- a line keeps the counts within their bounds
  pub counts : CountMove n (suc (at n x i).auxiliary.own) ((at n x i).auxiliary.collects + tests k)
      (if restarts k then 0 else (at n x i).auxiliary.tested + tests k) v
  pub wrote : flow.CountsWrites lines ((at n x i).auxiliary.wrote + writes k) v

-- a line that keeps the words
line_keeps : (n t : ℕ) (history : ℕ → Words) (x : State) (i : ℕ) (d : Mode) (k : ProgramCounter) (v : Move) →
    length x.processes ≡ n → IsOneOf n i → history t ≡ x.memory → Invariant n t history x →
    (at n x i).control ≡ At d k → (at n x i).variables.c < t → writes k ≡ 0 → MoveOwes n t history x i d k v →
    Invariant n t history (changed x i (by_move (algorithm n) t x.memory (at n x i) k v))
line_keeps n t history x i d k (To d' m' p k') count one now h is c quiet owes =
    let q = at n x i in
    let own : ProcessInvariant n t history x.memory i q = h.each i one in
    let q' : Process =
    record { control = At d' k'; variables = p; auxiliary = stepped_auxiliary (algorithm n) k t q.auxiliary } in
    let seq_q : q.variables.c ≡ seq_at x.memory i + writes k =
    own.seq ∙ ap (λ (y : Control). seq_at x.memory i + pending y) is in
    let sized : Sized n (seq_at x.memory i) p k' = owes.sized in
    subst (λ w. Invariant n t history (changed x i (New w q' Stepped))) (sym owes.words)
    (process_changes n t history x i q' Stepped count one now h
    (record {
      well = (owes.well.0, owes.well.1);
      length_a = sized.0;
      length_b = sized.1;
      seq = sized.2;
      fresh =
          omega (arith, sized.2, writes_le n k');
      since_le = own.since_le;
      low = own.low;
      opened = opened_next n history x.memory (restarts k) t q.auxiliary.round now own.opened;
      views = own.views;
      stage =
          subst (λ w. Stage n history t q.auxiliary.since (if restarts k then t else q.auxiliary.round) w p k')
          owes.words owes.stage;
      self = λ inside. own.self (subst InScan (sym is) (owes.scan inside));
      counts = owes.counts;
      wrote = owes.wrote;
    })
    (λ m. inr (subst Making (sym is) (owes.making m))) (inr refl))
line_keeps n t history x i d k (Begin d' p k') count one now h is c quiet owes =
    let q = at n x i in
    let own : ProcessInvariant n t history x.memory i q = h.each i one in
    let seq_q : q.variables.c ≡ seq_at x.memory i + writes k =
    own.seq ∙ ap (λ (y : Control). seq_at x.memory i + pending y) is in
    let sized : Sized n (seq_at x.memory i) p k' = owes.sized in
    process_changes n t history x i _ Stepped count one now h
    (record {
      well = (owes.well.0, owes.well.1);
      length_a = sized.0;
      length_b = sized.1;
      seq = sized.2;
      fresh =
          omega (arith, sized.2, writes_le n k');
      since_le = omega arith;
      low = λ k j. at_most_now history x.memory t now k;
      opened = λ k j. at_most_now history x.memory t now k;
      views =
          λ k j more. absurd (omega (arith, at_least_now history x.memory t now k));
      stage = subst (λ y. Stage n history t t t x.memory p y) (sym owes.stage) tt;
      self = λ inside. ap (λ w. seq_at w i) now;
      counts = subst (λ y. Count n p 0 0 0 y) (sym owes.stage) (refl, refl, refl);
      wrote = owes.wrote;
    })
    (λ m. inl refl) (inl refl)
line_keeps n t history x i d k (Answer v) count one now h is c quiet owes =
    let q = at n x i in
    process_changes n t history x i _ (Answered v) count one now h
    (idle_own n t history x.memory i q k (is_seq n t history x i d k one h is quiet) now c (h.each i one))
    (λ m. absurd m) (inr refl)
line_keeps n t history x i d k Finish count one now h is c quiet owes =
    let q = at n x i in
    process_changes n t history x i _ Finished count one now h
    (idle_own n t history x.memory i q k (is_seq n t history x i d k one h is quiet) now c (h.each i one))
    (λ m. absurd m) (inr refl)

admission_keeps : (n t : ℕ) (history : ℕ → Words) (x : State) (i : ℕ) (op : Op) (o : Option Reason) →
    call_skip kind.Seq (square n) i op ≡ o →
    length x.processes ≡ n → IsOneOf n i → Invariant n t history x → (at n x i).control ≡ Idle →
    history t ≡ (changed x i (by_admission (algorithm n) t x.memory (at n x i) op o)).memory →
    Invariant n t history (changed x i (by_admission (algorithm n) t x.memory (at n x i) op o))
admission_keeps n t history x i op (Some why) e count one h is now = h
admission_keeps n t history x i Scan None e count one h is now =
    let q = at n x i in
    let own : ProcessInvariant n t history x.memory i q = h.each i one in
    process_changes n t history x i _ Called count one now h
    (record {
      well = called_well n i q.variables Scan e;
      length_a = own.length_a;
      length_b = own.length_b;
      seq = own.seq ∙ ap (λ (y : Control). seq_at x.memory i + pending y) is;
      fresh = own.fresh;
      since_le = omega arith;
      low = λ k j. at_most_now history x.memory t now k;
      opened = λ k j. at_most_now history x.memory t now k;
      views =
          λ k j more. absurd (omega (arith, at_least_now history x.memory t now k));
      stage = tt;
      self = λ inside. ap (λ w. seq_at w i) now;
      counts = (refl, refl, refl);
      wrote = tt;
    })
    (λ m. absurd m) (inl refl)
admission_keeps n t history x i (Update word value) None e count one h is now =
    let q = at n x i in
    let own : ProcessInvariant n t history x.memory i q = h.each i one in
    process_changes n t history x i _ Called count one now h
    (record {
      well = called_well n i q.variables (Update word value) e;
      length_a = own.length_a;
      length_b = own.length_b;
      seq = own.seq ∙ ap (λ (y : Control). seq_at x.memory i + pending y) is;
      fresh = own.fresh;
      since_le = own.since_le;
      low = own.low;
      opened = own.opened;
      views = own.views;
      stage = tt;
      self = λ inside. absurd inside;
      counts = tt;
      wrote = refl;
    })
    (λ m. absurd m) (inr refl)

line_32_keeps : (n t : ℕ) (history : ℕ → Words) (x : State) (i : ℕ) (d : Mode) → length x.processes ≡ n →
    IsOneOf n i → Invariant n t history x → (at n x i).control ≡ At d L32 →
    Invariant n (suc t) history (changed x i (by_step (algorithm n) (suc t) x.memory i (at n x i) (At d L32)))
line_32_keeps n t history x i d count one h is =
    let well : ControlWell n i (at n x i).variables (At d L32) =
    subst (ControlWell n i (at n x i).variables) is (h.each i one).well in
    line_32_writes n t history x i d one h is well.0 Stepped count

-- one step of a process
step_keeps : (n t : ℕ) (history : ℕ → Words) (x : State) (i : ℕ) (control : Control) →
    ((u : ℕ) → u ≤ t → length (history u) ≡ n) → length x.processes ≡ n → IsOneOf n i →
    Invariant n t history x → (at n x i).control ≡ control →
    history (suc t) ≡ (changed x i (by_step (algorithm n) (suc t) x.memory i (at n x i) control)).memory →
    Invariant n (suc t) history (changed x i (by_step (algorithm n) (suc t) x.memory i (at n x i) control))
step_keeps n t history x i Idle lengths count one h is now = time_passes n t history x h
step_keeps n t history x i (At d k) lengths count one h is now =
    let q = at n x i in
    let words = x.memory in
    let later : Invariant n (suc t) history x = time_passes n t history x h in
    let own : ProcessInvariant n (suc t) history words i q = later.each i one in
    let well : ControlWell n i q.variables (At d k) = subst (ControlWell n i q.variables) is own.well in
    let stage : Stage n history (suc t) q.auxiliary.since q.auxiliary.round words q.variables k =
    subst (λ (p : Control). StageAt n history (suc t) q.auxiliary.since q.auxiliary.round words q.variables p)
    is own.stage in
    let seq : q.variables.c ≡ seq_at words i + writes k =
    own.seq ∙ ap (λ (y : Control). seq_at words i + pending y) is in
    let fresh : q.variables.c ≤ t = (h.each i one).fresh in
    let passes = flows n i d words q.variables k well.0 in
    elim (writes_or_not (algorithm n) lines 32 counter_with (line_listed n) L32 k refl) [
      | inl e ↦
          subst (λ y. Invariant n (suc t) history (changed x i (by_step (algorithm n) (suc t) words i q (At d y))))
          (sym e)
          (line_32_keeps n t history x i d count one h (is ∙ ap (λ y. At d y) e))
      | inr zeroed ↦
          elim (flow.keeps_memory lines (algorithm n) d words q.variables k (move n i d words q.variables k) passes) [
            | inl keeps ↦ (let same : history (suc t) ≡ words =
                now
                ∙ words_then (algorithm n) lines 32 (writer n) (suc t) x i k (move n i d words q.variables k) keeps in
                line_keeps n (suc t) history x i d k
                (move n i d words q.variables k) count one same later is (omega arith) zeroed
                (record {
                  words = keeps;
                  well = move_well n i d words q.variables k one well.0 well.1;
                  stage = stage_move n i history (suc t) q.auxiliary.since q.auxiliary.round words d q.variables k
                      (record {
                        lengths = λ u le. elim (eq-or-lt_of_le le) [
                          | inl last ↦ ap (λ y. length (history y)) last ∙ ap length same ∙ h.size
                          | inr less ↦ lengths u (omega arith)
                        ];
                        now = same;
                        since_le = own.since_le;
                        length_a = own.length_a;
                        length_b = own.length_b;
                        low = own.low;
                        opened = own.opened;
                        views = own.views;
                        line = well.0;
                        keeps = well.1;
                      })
                      stage;
                  sized =
                      subst (λ s. SizedMove n s (move n i d words q.variables k))
                      (let z : seq_at words i + writes k ≡ seq_at words i = omega arith in z)
                      (sized_move n i (seq_at words i) d words q.variables k well.0 (own.length_a, own.length_b, seq));
                  making =
                      flow.makes_no_more lines (algorithm n) d words q.variables k
                      (move n i d words q.variables k) passes;
                  scan =
                      flow.keeps_out lines (algorithm n) d words q.variables k (move n i d words q.variables k) passes;
                  counts =
                      count_move n i d words q.variables k q.auxiliary.own q.auxiliary.collects
                      (q.auxiliary.collects + tests k) q.auxiliary.tested
                      (if restarts k then 0 else q.auxiliary.tested + tests k) refl refl well.1
                      (few_moves n i history
                      (suc t) q.auxiliary.since q.auxiliary.round words d q.variables k one well.0
                      well.1 (λ inside. own.self (subst InScan (sym is) inside)) stage)
                      (subst (λ (y : Control).
                      CountAt n q.variables q.auxiliary.own q.auxiliary.collects q.auxiliary.tested y) is own.counts);
                  wrote =
                      flow.counts_writes lines (algorithm n) d words q.variables k (move n i d words q.variables k)
                      q.auxiliary.wrote passes (subst (λ (y : Control). HasWritten y q.auxiliary.wrote) is own.wrote);
                }))
            | inr e ↦
                subst (λ y.
                Invariant n (suc t) history (changed x i (by_step (algorithm n) (suc t) words i q (At d y))))
                (sym e)
                (line_32_keeps n t history x i d count one h (is ∙ ap (λ y. At d y) e))
          ]
    ]

call_keeps : (n t : ℕ) (history : ℕ → Words) (x : State) (i : ℕ) (op : Op) (control : Control) →
    length x.processes ≡ n → IsOneOf n i → Invariant n t history x → (at n x i).control ≡ control →
    history (suc t) ≡ (changed x i (by_call (algorithm n) (suc t) x.memory i op (at n x i) control)).memory →
    Invariant n (suc t) history (changed x i (by_call (algorithm n) (suc t) x.memory i op (at n x i) control))
call_keeps n t history x i op Idle count one h is now =
    admission_keeps n (suc t) history x i op (call_skip kind.Seq (square n) i op) refl count one
    (time_passes n t history x h) is now
call_keeps n t history x i op (At d k) count one h is now = time_passes n t history x h

pub item_keeps : (n t : ℕ) (history : ℕ → Words) (x : State) (y : Item) →
    ((u : ℕ) → u ≤ t → length (history u) ≡ n) → length x.processes ≡ n → IsOneOf n (who y) →
    Invariant n t history x → history (suc t) ≡ (happens (algorithm n) (suc t) x y).memory →
    Invariant n (suc t) history (happens (algorithm n) (suc t) x y)
item_keeps n t history x (Step i) lengths count one h now =
    step_keeps n t history x i (at n x i).control lengths count one h refl now
item_keeps n t history x (Call i op) lengths count one h now =
    call_keeps n t history x i op (at n x i).control count one h refl now
item_keeps n t history x (Crash i) lengths count one h now = time_passes n t history x h
