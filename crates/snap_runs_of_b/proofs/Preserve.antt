-- Each item of a run of B keeps the invariant.
use Rattle.std.specs.Prelude.{◌≡◌, ℕ, suc, ◌+◌, ◌<◌, ◌≤◌, length, Option, Some, None, if◌then◌else◌, refl}
use Rattle.std.proofs.Common.{sym, ◌∙◌, ap, subst, arith, inl, inr}
use Rattle.std.proofs.Math.Nat.{eq-or-lt_of_le}
use Rattle.snap_runs.proofs.Common.{IsOneOf, who, Item, Step, Call, Crash, Op, Scan, Update, Outcome, Called, Stepped}
use Rattle.snap_runs.proofs.Common.{Answered, Finished, Reason}
use Rattle.snap_words.specs.declared.kind.KindTag.TheVariants as kind
use Rattle.snap_semantics.specs.Table.{call_skip}
use Rattle.snap_runs.proofs.Algorithm.{Mode, op_of, Idle, At, To, Begin, Answer, Finish, New, by_move, by_step}
use Rattle.snap_runs.proofs.Algorithm.{by_admission, by_call, typed_at, changed, happens, stepped_auxiliary}
use Rattle.snap_runs.proofs.Flow as flow
use Rattle.snap_runs.proofs.Flow.{IsInScan, InScan, scan_inside}
use Rattle.snap_runs.proofs.Held.{word_at, seq_at, at_most_now, at_least_now, opened_next}
use Rattle.snap_runs.proofs.ListedLines.{writes_or_not}
use Rattle.snap_runs.proofs.WordWrites.{words_then}
use Rattle.snap_runs_of_b.specs.Promises.{square}
use Rattle.snap_runs_of_b.proofs.Algorithm.{Words, Registers, Move, Control, Process, State, Variables}
use Rattle.snap_runs_of_b.proofs.Algorithm.{ProgramCounter, L10, L20, L46, place, handshake_at, bit_for, move}
use Rattle.snap_runs_of_b.proofs.Algorithm.{IsLineOf, lines, tests, restarts, writes, algorithm}
use Rattle.snap_runs_of_b.proofs.Change.{process_changes}
use Rattle.snap_runs_of_b.proofs.Collect.{Low, Late, Viewed}
use Rattle.snap_runs_of_b.proofs.Control.{BelowLimit, VariablesAt, MoveWell, ControlWell, move_well, called_well}
use Rattle.snap_runs_of_b.proofs.Count.{Count, CountMove, count_move, moves, moves_less}
use Rattle.snap_runs_of_b.proofs.Flows.{Making, HasWritten, flows, counter_with, line_listed, writer}
use Rattle.snap_runs_of_b.proofs.Handshake.{Asked, Answers, KeepsBit, BitsMove, bits_move, PutsMove, puts_move}
use Rattle.snap_runs_of_b.proofs.Handshake.{square_kept, rows_kept, AnswersMove, answers_move}
use Rattle.snap_runs_of_b.proofs.Invariant.{ProcessInvariant, Invariant, StageAt, CountAt}
use Rattle.snap_runs_of_b.proofs.Invariant.{ToggledAt, AnswersAt, reach_at, time_passes}
use Rattle.snap_runs_of_b.proofs.Stage.{reach, Stage, StageMove, stage_move, IsToggle, Toggled, Fit, FitMove, fit_move}
use Rattle.snap_runs_of_b.proofs.Write.{line_46_writes}

-- process i
abbrev pub at : ℕ → State → ℕ → Process
at n x i = typed_at (algorithm n) x i

-- no process sees itself move, so the test at line 20 comes after fewer than n moves
unmoved : (n i : ℕ) (base opening words : Words) (p : Variables) → IsOneOf n i → Low n base opening p.moved →
    seq_at opening i ≤ seq_at words i → BelowLimit n p → seq_at base i ≡ seq_at words i → moves n p < n
unmoved n i base opening words p one low opened below self =
    moves_less n i p one (omega (arith, low i one)) below

pub few_moves : (n me : ℕ) (history : ℕ → Words) (t since round : ℕ) (words : Words) (d : Mode)
    (p : Variables) (k : ProgramCounter) → IsOneOf n me → IsLineOf me d k → VariablesAt n me p k →
    ((k : ℕ) → IsOneOf n k → seq_at (history round) k ≤ seq_at words k) →
    (IsInScan d → seq_at (history since) me ≡ seq_at words me) →
    Stage n me history t since round words p k → k ≡ L20 → moves n p < n
few_moves n me history t since round words d p k one line keeps opened self stage e =
    unmoved n me (history since) (history round) words p one
    (subst (Stage n me history t since round words p) e stage).0 (opened me one)
    (subst (VariablesAt n me p) e keeps).1 (self (scan_inside (λ word. word ≡ me) d (subst (IsLineOf me d) e line)))

-- a process whose operation has ended
idle_own : (n t : ℕ) (history : ℕ → Words) (m : Registers) (i : ℕ) (q : Process) (d : Mode) (k : ProgramCounter) →
    q.control ≡ At d k → writes k ≡ 0 → history t ≡ m.words →
    ProcessInvariant n t history m i q → ProcessInvariant n t history m i
    (record { control = Idle; variables = q.variables; auxiliary = stepped_auxiliary (algorithm n) k t q.auxiliary })
idle_own n t history m i q d k is quiet now own = record {
  well = tt;
  sized = own.sized;
  bits = own.bits;
  toggle =
      subst (λ w. IsToggle w (word_at m.words i).toggle q.variables.t) quiet
      (subst (ToggledAt (word_at m.words i).toggle q.variables) is own.toggle);
  since_le = own.since_le;
  low = own.low;
  opened = opened_next n history m.words (restarts k) t q.auxiliary.round now own.opened;
  views = own.views;
  asked = λ u ju lt. absurd (omega arith);
  late = λ u ju lt. absurd (omega arith);
  stage = tt;
  self = λ inside. absurd inside;
  counts = tt;
  wrote = tt;
}

-- what the move v of a process at line k owes; t is the item's number
record MoveOwes (n t : ℕ) (history : ℕ → Words) (x : State) (i : ℕ) (d : Mode)
    (k : ProgramCounter) (v : Move) : Type 0 where
  pub words : flow.KeepsMemory lines x.memory v
  pub puts : PutsMove i x.memory (at n x i).variables v
  pub well : MoveWell (op_of d) n i v
  pub stage : StageMove n i history t (at n x i).auxiliary.since
      (if restarts k then t else (at n x i).auxiliary.round) v
  pub fit : FitMove n (word_at x.memory.words i).toggle v
  pub bits : BitsMove n i x.memory (at n x i).variables (reach n (at n x i).variables k) v
  pub answers : (u bit : ℕ) → IsOneOf n u → bit_for x.memory.q u i ≡ bit →
      Answers u bit d (at n x i).variables k → AnswersMove u bit v
  pub making : flow.MakesNoMore lines d k v
  pub scan : flow.KeepsOut lines d v
  pub counts : CountMove n i (suc (at n x i).auxiliary.own) ((at n x i).auxiliary.collects + tests k)
      (if restarts k then 0 else (at n x i).auxiliary.tested + tests k) v
  pub wrote : flow.CountsWrites lines ((at n x i).auxiliary.wrote + writes k) v

module _ (i : ℕ) (m m' : Registers) (p p' : Variables) (r k : ℕ) where
  -- what the handshake owes after a line that goes on
  asked_next : (k < r → bit_for m.q i k ≡ place p.g k) → KeepsBit i m p r m' p' k → bit_for m'.q i k ≡ place p'.g k
  asked_next h (inl kept) = kept.3 ∙ h kept.0 ∙ sym kept.1
  asked_next h (inr put) = put.1

  late_next : (k < r → place p.marks k + 2 ≤ seq_at m.words k → handshake_at (word_at m.words k) i ≡ place p.g k → ⊥) →
      KeepsBit i m p r m' p' k → place p'.marks k + 2 ≤ seq_at m.words k →
      handshake_at (word_at m.words k) i ≡ place p'.g k → ⊥
  late_next h (inl kept) more says =
      h kept.0 (omega (arith, kept.2)) (says ∙ kept.1)
  late_next h (inr put) more says = absurd (omega (arith, put.0))

  asks_next : KeepsBit i m p r m' p' k → place p'.marks k < seq_at m.words k →
      (k < r) × (place p.marks k < seq_at m.words k) × (place p.g k ≡ place p'.g k)
  asks_next (inl kept) more = (kept.0, (omega (arith, kept.2)), sym kept.1)
  asks_next (inr put) more = absurd (omega (arith, put.0))

module _ (n t : ℕ) (history : ℕ → Words) (x : State) (i : ℕ) where
  -- a line that ends the operation
  end_keeps : (d : Mode) (k : ProgramCounter) → length x.processes ≡ n → IsOneOf n i → history t ≡ x.memory.words →
      Invariant n t history x → (at n x i).control ≡ At d k → writes k ≡ 0 → (o : Outcome) →
      Invariant n t history
      (changed x i (New x.memory (record {
        control = Idle;
        variables = (at n x i).variables;
        auxiliary = stepped_auxiliary (algorithm n) k t (at n x i).auxiliary;
      }) o))
  end_keeps d k count one now h is quiet o =
      let q = at n x i in
      process_changes n t history x i x.memory _ o count one now h (record {
        words = refl;
        square = h.square;
        rows = λ u b ju jb other. refl;
        own = idle_own n t history x.memory i q d k is quiet now (h.each i one);
        making = λ made. absurd made;
        since = inr refl;
        asks = λ u ju lt more. absurd (omega arith);
        answers = λ u bit ju put said. tt;
      })

  -- a line that keeps the words
  line_keeps : (d : Mode) (k : ProgramCounter) (v : Move) → length x.processes ≡ n → IsOneOf n i →
      history t ≡ x.memory.words → Invariant n t history x → (at n x i).control ≡ At d k → writes k ≡ 0 →
      MoveOwes n t history x i d k v →
      Invariant n t history (changed x i (by_move (algorithm n) t x.memory (at n x i) k v))
  line_keeps d k (To d' m' p k') count one now h is quiet owes =
      let q = at n x i in
      let m = x.memory in
      let own : ProcessInvariant n t history m i q = h.each i one in
      let fit : Fit n (word_at m.words i).toggle p k' = owes.fit in
      let ws : (P : Words → Type 0) → P m.words → P m'.words = λ P. subst P (sym owes.words) in
      let asked : Asked n m.q q.variables.g i (reach n q.variables k) =
      subst (λ (c : Control). Asked n m.q q.variables.g i (reach_at n q.variables c)) is own.asked in
      let late : Late n m.words q.variables.g q.variables.marks i (reach n q.variables k) =
      subst (λ (c : Control). Late n m.words q.variables.g q.variables.marks i (reach_at n q.variables c)) is own.late in
      let bits : (u : ℕ) → IsOneOf n u → u < reach n p k' → KeepsBit i m q.variables (reach n q.variables k) m' p u =
      owes.bits in
      process_changes n t history x i m' _ Stepped count one now h (record {
        words = owes.words;
        square = square_kept n i m q.variables m'.q h.square one owes.puts;
        rows = λ u b ju jb other. rows_kept n i u b m q.variables m'.q one.0 ju.0 other owes.puts;
        own = record {
          well = (owes.well.0, owes.well.1);
          sized = fit.0;
          bits = fit.1;
          toggle = ws (λ w. Toggled (word_at w i).toggle p k') fit.2;
          since_le = own.since_le;
          low = ws (λ w. (u : ℕ) → IsOneOf n u → seq_at (history q.auxiliary.since) u ≤ seq_at w u) own.low;
          opened =
              ws (λ w.
              (u : ℕ) → IsOneOf n u → seq_at (history (if restarts k then t else q.auxiliary.round)) u ≤ seq_at w u)
              (opened_next n history m.words (restarts k) t q.auxiliary.round now own.opened);
          views = ws (λ w. Viewed n history t q.auxiliary.since w) own.views;
          asked = λ u ju lt. asked_next i m m' q.variables p (reach n q.variables k) u (asked u ju) (bits u ju lt);
          late =
              ws (λ w. Late n w p.g p.marks i (reach n p k'))
              (λ u ju lt. late_next i m m' q.variables p (reach n q.variables k) u (late u ju) (bits u ju lt));
          stage = owes.stage;
          self =
              λ inside.
              own.self (subst InScan (sym is) (owes.scan inside)) ∙ ws (λ w. seq_at m.words i ≡ seq_at w i) refl;
          counts = owes.counts;
          wrote = owes.wrote;
        };
        making = λ made. inr (subst Making (sym is) (owes.making made), refl);
        since = inr refl;
        asks = λ u ju lt more.
            let r = asks_next i m m' q.variables p (reach n q.variables k) u (bits u ju lt) more in
            (subst (λ (c : Control). u < reach_at n q.variables c) (sym is) r.0, r.1, r.2);
        answers = λ u bit ju put said. owes.answers u bit ju put (subst (AnswersAt u bit q.variables) is said);
      })
  line_keeps d k (Begin d' p k') count one now h is quiet owes =
      let q = at n x i in
      let m = x.memory in
      let own : ProcessInvariant n t history m i q = h.each i one in
      let fit : Fit n (word_at m.words i).toggle p k' = owes.fit in
      process_changes n t history x i m _ Stepped count one now h (record {
        words = refl;
        square = h.square;
        rows = λ u b ju jb other. refl;
        own = record {
          well = (owes.well.0, owes.well.1);
          sized = fit.0;
          bits = fit.1;
          toggle = fit.2;
          since_le = omega arith;
          low = λ u j. at_most_now history m.words t now u;
          opened = λ u j. at_most_now history m.words t now u;
          views =
              λ u j more. absurd (omega (arith, at_least_now history m.words t now u));
          asked = subst (λ y. Asked n m.q p.g i (reach n p y)) (sym owes.bits) (λ u ju lt. absurd (omega arith));
          late =
              subst (λ y. Late n m.words p.g p.marks i (reach n p y)) (sym owes.bits) (λ u ju lt. absurd (omega arith));
          stage = subst (λ y. Stage n i history t t t m.words p y) (sym owes.stage) (λ u j. omega arith);
          self = λ inside. ap (λ w. seq_at w i) now;
          counts = subst (λ y. Count n i p 0 0 0 y) (sym owes.stage) (refl, refl, refl);
          wrote = owes.wrote;
        };
        making = λ made. inl refl;
        since = inl refl;
        asks =
            λ u ju lt more.
            absurd (let none : u < reach n p L10 = subst (λ y. u < reach n p y) owes.bits lt in omega arith);
        answers = λ u bit ju put said. owes.answers u bit ju put (subst (AnswersAt u bit q.variables) is said);
      })
  line_keeps d k (Answer v) count one now h is quiet owes = end_keeps d k count one now h is quiet (Answered v)
  line_keeps d k Finish count one now h is quiet owes = end_keeps d k count one now h is quiet Finished

  -- a called process stands at the first line of its operation
  admission_keeps : (op : Op) (o : Option Reason) → call_skip kind.Bits (square n) i op ≡ o → length x.processes ≡ n →
      IsOneOf n i → Invariant n t history x → (at n x i).control ≡ Idle →
      history t ≡ (changed x i (by_admission (algorithm n) t x.memory (at n x i) op o)).memory.words →
      Invariant n t history (changed x i (by_admission (algorithm n) t x.memory (at n x i) op o))
  admission_keeps op (Some why) e count one h is now = h
  admission_keeps Scan None e count one h is now =
      let q = at n x i in
      let m = x.memory in
      let own : ProcessInvariant n t history m i q = h.each i one in
      process_changes n t history x i m _ Called count one now h (record {
        words = refl;
        square = h.square;
        rows = λ u b ju jb other. refl;
        own = record {
          well = called_well n i q.variables Scan e;
          sized = own.sized;
          bits = own.bits;
          toggle = subst (ToggledAt (word_at m.words i).toggle q.variables) is own.toggle;
          since_le = omega arith;
          low = λ u j. at_most_now history m.words t now u;
          opened = λ u j. at_most_now history m.words t now u;
          views =
              λ u j more. absurd (omega (arith, at_least_now history m.words t now u));
          asked = λ u ju lt. absurd (omega arith);
          late = λ u ju lt. absurd (omega arith);
          stage = λ u j. omega arith;
          self = λ inside. ap (λ w. seq_at w i) now;
          counts = (refl, refl, refl);
          wrote = tt;
        };
        making = λ made. absurd made;
        since = inl refl;
        asks = λ u ju lt more. absurd (omega arith);
        answers = λ u bit ju put said. tt;
      })
  admission_keeps (Update word value) None e count one h is now =
      let q = at n x i in
      let m = x.memory in
      let own : ProcessInvariant n t history m i q = h.each i one in
      process_changes n t history x i m _ Called count one now h (record {
        words = refl;
        square = h.square;
        rows = λ u b ju jb other. refl;
        own = record {
          well = called_well n i q.variables (Update word value) e;
          sized = own.sized;
          bits = own.bits;
          toggle = subst (ToggledAt (word_at m.words i).toggle q.variables) is own.toggle;
          since_le = own.since_le;
          low = own.low;
          opened = own.opened;
          views = own.views;
          asked = λ u ju lt. absurd (omega arith);
          late = λ u ju lt. absurd (omega arith);
          stage = tt;
          self = λ inside. absurd inside;
          counts = tt;
          wrote = refl;
        };
        making = λ made. absurd made;
        since = inr refl;
        asks = λ u ju lt more. absurd (omega arith);
        answers = λ u bit ju put said. tt;
      })

module _ (n t : ℕ) (history : ℕ → Words) (x : State) where
  line_46_keeps : (i : ℕ) (d : Mode) → length x.processes ≡ n → IsOneOf n i → Invariant n t history x →
      (at n x i).control ≡ At d L46 →
      Invariant n (suc t) history (changed x i (by_step (algorithm n) (suc t) x.memory i (at n x i) (At d L46)))
  line_46_keeps i d count one h is =
      let well : ControlWell n i (at n x i).variables (At d L46) =
      subst (ControlWell n i (at n x i).variables) is (h.each i one).well in
      line_46_writes n t history x i d one h is well.0 Stepped count

  -- one step of a process
  step_keeps : (i : ℕ) (control : Control) → ((u : ℕ) → u ≤ t → length (history u) ≡ n) → length x.processes ≡ n →
      IsOneOf n i → Invariant n t history x → (at n x i).control ≡ control →
      history (suc t) ≡ (changed x i (by_step (algorithm n) (suc t) x.memory i (at n x i) control)).memory.words →
      Invariant n (suc t) history (changed x i (by_step (algorithm n) (suc t) x.memory i (at n x i) control))
  step_keeps i Idle lengths count one h is now = time_passes n t history x h
  step_keeps i (At d k) lengths count one h is now =
      let q = at n x i in
      let m = x.memory in
      let p = q.variables in
      let later : Invariant n (suc t) history x = time_passes n t history x h in
      let own : ProcessInvariant n (suc t) history m i q = later.each i one in
      let well : ControlWell n i p (At d k) = subst (ControlWell n i p) is own.well in
      let stage : Stage n i history (suc t) q.auxiliary.since q.auxiliary.round m.words p k =
      subst (λ (c : Control). StageAt n i history (suc t) q.auxiliary.since q.auxiliary.round m.words p c) is own.stage in
      let passes = flows n i d m p k well.0 in
      elim (writes_or_not (algorithm n) lines 46 counter_with (line_listed n) L46 k refl) [
        | inl e ↦
            subst (λ y. Invariant n (suc t) history (changed x i (by_step (algorithm n) (suc t) m i q (At d y)))) (sym e)
            (line_46_keeps i d count one h (is ∙ ap (λ y. At d y) e))
        | inr quiet ↦ elim (flow.keeps_memory lines (algorithm n) d m p k (move n i d m p k) passes) [
          | inl keeps ↦ (let same : history (suc t) ≡ m.words =
              now ∙ words_then (algorithm n) lines 46 (writer n) (suc t) x i k (move n i d m p k) keeps in
              line_keeps n (suc t) history x i d k (move n i d m p k) count one same later is quiet
              (record {
                words = keeps;
                puts = puts_move n i d m p k;
                well = move_well n i d m p k one h.bits own.sized well.0 well.1;
                stage = stage_move n i history (suc t) q.auxiliary.since q.auxiliary.round d m p k
                    (record {
                      lengths = λ u le. elim (eq-or-lt_of_le le) [
                        | inl last ↦ ap (λ y. length (history y)) last ∙ ap length same ∙ h.size
                        | inr less ↦ lengths u (omega arith)
                      ];
                      now = same;
                      since_le = own.since_le;
                      sized = own.sized;
                      low = own.low;
                      opened = own.opened;
                      views = own.views;
                      late = subst (λ (c : Control). Late n m.words p.g p.marks i (reach_at n p c)) is own.late;
                      line = well.0;
                      keeps = well.1;
                    })
                    stage;
                fit =
                    fit_move n i (word_at m.words i).toggle d m p k well.0 well.1 quiet
                    (own.sized, own.bits, subst (ToggledAt (word_at m.words i).toggle p) is own.toggle);
                bits = bits_move n i d m p k one h.square own.sized well.0 well.1;
                answers = λ u bit ju put said. answers_move n i u bit d m p k ju own.sized well.0 well.1 put said;
                making = flow.makes_no_more lines (algorithm n) d m p k (move n i d m p k) passes;
                scan = flow.keeps_out lines (algorithm n) d m p k (move n i d m p k) passes;
                counts =
                    count_move n i d m p k q.auxiliary.own q.auxiliary.collects
                    (q.auxiliary.collects + tests k) q.auxiliary.tested
                    (if restarts k then 0 else q.auxiliary.tested + tests k) refl refl well.1
                    (few_moves n i history (suc t) q.auxiliary.since q.auxiliary.round m.words d p k one well.0 well.1
                    own.opened (λ inside. own.self (subst InScan (sym is) inside)) stage)
                    (subst (λ (y : Control). CountAt n i p q.auxiliary.own q.auxiliary.collects q.auxiliary.tested y)
                    is own.counts);
                wrote =
                    flow.counts_writes lines (algorithm n) d m p k (move n i d m p k) q.auxiliary.wrote passes
                    (subst (λ (y : Control). HasWritten y q.auxiliary.wrote) is own.wrote);
              }))
          | inr e ↦
              subst (λ y. Invariant n (suc t) history (changed x i (by_step (algorithm n) (suc t) m i q (At d y))))
              (sym e)
              (line_46_keeps i d count one h (is ∙ ap (λ y. At d y) e))
        ]
      ]

  call_keeps : (i : ℕ) (op : Op) (control : Control) → length x.processes ≡ n → IsOneOf n i → Invariant n t history x →
      (at n x i).control ≡ control →
      history (suc t) ≡ (changed x i (by_call (algorithm n) (suc t) x.memory i op (at n x i) control)).memory.words →
      Invariant n (suc t) history (changed x i (by_call (algorithm n) (suc t) x.memory i op (at n x i) control))
  call_keeps i op Idle count one h is now =
      admission_keeps n (suc t) history x i op (call_skip kind.Bits (square n) i op) refl count one
      (time_passes n t history x h) is now
  call_keeps i op (At d k) count one h is now = time_passes n t history x h

  pub item_keeps : (y : Item) → ((u : ℕ) → u ≤ t → length (history u) ≡ n) → length x.processes ≡ n →
      IsOneOf n (who y) → Invariant n t history x → history (suc t) ≡ (happens (algorithm n) (suc t) x y).memory.words →
      Invariant n (suc t) history (happens (algorithm n) (suc t) x y)
  item_keeps (Step i) lengths count one h now = step_keeps i (at n x i).control lengths count one h refl now
  item_keeps (Call i op) lengths count one h now = call_keeps i op (at n x i).control count one h refl now
  item_keeps (Crash i) lengths count one h now = time_passes n t history x h
