-- The invariant of U: what holds in every state of every run.
use Rattle.std.proofs.Common.{◌≡◌, ℕ, suc, ◌+◌, ◌<◌, ◌≤◌, ◌⊎◌, max, length, refl, sym, ◌∙◌, ap, subst, arith, inl, inr}
use Rattle.snap_runs.proofs.Common.{Outcome, IsOneOf}
use Rattle.snap_runs.proofs.Algorithm.{Idle, At, WhenBusy, when_busy, New, typed_at, changed}
use Rattle.snap_runs.proofs.Frame as frame
use Rattle.snap_runs.proofs.Flow.{InScan}
use Rattle.snap_runs.proofs.Held.{word_at, held_wider, seq_at, before_seq, Grows}
use Rattle.snap_runs_of_u.proofs.Algorithm.{Words, Control, Process, State, Variables, writes, algorithm}
use Rattle.snap_runs_of_u.proofs.Collect.{Viewed}
use Rattle.snap_runs_of_u.proofs.Control.{ControlWell}
use Rattle.snap_runs_of_u.proofs.Count.{Count}
use Rattle.snap_runs_of_u.proofs.Flows.{Making, HasWritten}
use Rattle.snap_runs_of_u.proofs.Stage.{Stage, stage_kept}

-- the number that c is ahead: 1 just before the write
abbrev pub pending : Control → ℕ
pending Idle = 0
pending (At d k) = writes k

-- a busy process is at the stage of its line
abbrev pub StageAt : ℕ → (ℕ → Words) → ℕ → ℕ → ℕ → Words → Variables → Control → Type 0
StageAt n history t since round words p control = WhenBusy (λ d k. Stage n history t since round words p k) control

-- the counts of a busy process are those of its line
abbrev pub CountAt : ℕ → Variables → ℕ → ℕ → ℕ → Control → Type 0
CountAt n p own c recent control = WhenBusy (λ d k. Count n p own c recent k) control

-- What holds of process i, at whichever line it stands, with these words.
pub record ProcessInvariant (n t : ℕ) (history : ℕ → Words) (words : Words) (i : ℕ) (q : Process) : Type 0 where
  -- the process stands at a line of its mode, with the variables that the line asks for
  pub well : ControlWell n i q.variables q.control
  -- the copies have all places
  pub length_a : length q.variables.a ≡ max n n
  pub length_b : length q.variables.b ≡ max n n
  -- c is the sequence number of its own word, and one more just before the write
  pub seq : q.variables.c ≡ seq_at words i + pending q.control
  -- c is at most the number of items
  pub fresh : q.variables.c ≤ t
  -- the last scan has started
  pub since_le : q.auxiliary.since ≤ t
  -- no word is older than at the start of that scan
  pub low : (k : ℕ) → IsOneOf n k → seq_at (history q.auxiliary.since) k ≤ seq_at words k
  -- nor than at the start of that scan's last double collect
  pub opened : (k : ℕ) → IsOneOf n k → seq_at (history q.auxiliary.round) k ≤ seq_at words k
  -- the view beside the second or a later write since that scan's start was the values at some state since
  pub views : Viewed n history t q.auxiliary.since words
  -- the process has come as far as its line says
  pub stage : StageAt n history t q.auxiliary.since q.auxiliary.round words q.variables q.control
  -- in a scan it writes nothing
  pub self : InScan q.control → seq_at (history q.auxiliary.since) i ≡ seq_at words i
  -- the scan's double collects and steps are within their bounds
  pub counts : CountAt n q.variables q.auxiliary.own q.auxiliary.collects q.auxiliary.tested q.control
  -- an update has written once at line 33, and not before
  pub wrote : HasWritten q.control q.auxiliary.wrote

-- A view that process v makes after its word, b, was written since u's last scan started, is made by a scan that
-- started no earlier than u's.
abbrev pub PairInvariant : (ℕ → Words) → Words → Process → Process → ℕ → Type 0
PairInvariant history words u v b =
    Making v.control → seq_at (history u.auxiliary.since) b < seq_at words b → u.auxiliary.since ≤ v.auxiliary.since

-- What holds in every state of a run: the words, each process, and each pair of processes.
pub record Invariant (n t : ℕ) (history : ℕ → Words) (x : State) : Type 0 where
  -- there is a word for each process
  pub size : length x.memory ≡ n
  pub each : (i : ℕ) → IsOneOf n i → ProcessInvariant n t history x.memory i (typed_at (algorithm n) x i)
  pub start : (i k : ℕ) → IsOneOf n i → IsOneOf n k →
      PairInvariant history x.memory (typed_at (algorithm n) x i) (typed_at (algorithm n) x k) k

-- other processes act
pub others_act : (n t t' : ℕ) (history : ℕ → Words) (words words' : Words) (i : ℕ) (q : Process) → t ≤ t' →
    Grows n words words' → seq_at words' i ≡ seq_at words i → Viewed n history t' q.auxiliary.since words' →
    ProcessInvariant n t history words i q → ProcessInvariant n t' history words' i q
others_act n t t' history words words' i q le g same v h = record {
  well = h.well;
  length_a = h.length_a;
  length_b = h.length_b;
  seq = h.seq ∙ ap (λ s. s + pending q.control) (sym same);
  fresh = omega (arith, h.fresh);
  since_le = omega (arith, h.since_le);
  low = λ k i. omega (arith, h.low k i, before_seq (word_at words k) (word_at words' k) (g k i));
  opened = λ k i. omega (arith, h.opened k i, before_seq (word_at words k) (word_at words' k) (g k i));
  views = v;
  stage =
      when_busy _ _
      (λ d k. stage_kept n history t t' q.auxiliary.since q.auxiliary.round words words' q.variables k le g)
      q.control h.stage;
  self = λ scan. h.self scan ∙ sym same;
  counts = h.counts;
  wrote = h.wrote;
}

-- one more item, and nothing changes
pub time_passes : (n t : ℕ) (history : ℕ → Words) (x : State) → Invariant n t history x → Invariant n (suc t) history x
time_passes n t history x h = record {
  size = h.size;
  each =
      λ i e. others_act n t (suc t) history x.memory x.memory i (typed_at (algorithm n) x i)
      (omega arith) (λ k j. inr refl) refl
      (λ k j more. held_wider history t (suc t) _ _ _ (omega arith) (omega arith) ((h.each i e).views k j more))
      (h.each i e);
  start = h.start;
}

-- one process changes and the words stay: its scan goes on, or it starts one at item t
pub process_changes : (n t : ℕ) (history : ℕ → Words) (x : State) (i : ℕ) (q' : Process) (o : Outcome) →
    length x.processes ≡ n → IsOneOf n i →
    history t ≡ x.memory → Invariant n t history x → ProcessInvariant n t history x.memory i q' →
    (Making q'.control → (q'.auxiliary.since ≡ t) ⊎ Making (typed_at (algorithm n) x i).control) →
    ((q'.auxiliary.since ≡ t) ⊎ (q'.auxiliary.since ≡ (typed_at (algorithm n) x i).auxiliary.since)) →
    Invariant n t history (changed x i (New x.memory q' o))
process_changes n t history x i q' o count one now h own made scan =
    let a = algorithm n in
    let words = x.memory in
    record {
      size = h.size;
      each =
          frame.each_next a x i words q' o count one (ProcessInvariant n t history words) own (λ k j other. h.each k j);
      start = frame.pairs_next a x i words q' o count one (PairInvariant history words) (record {
        own = λ making more. omega arith;
        first = λ k j other making more. elim scan [
          | inl fresh ↦
              absurd (let e : seq_at (history q'.auxiliary.since) k ≡ seq_at words k =
              ap (λ s. seq_at (history s) k) fresh ∙ ap (λ w. seq_at w k) now in omega arith)
          | inr same ↦
              subst (λ s. s ≤ (typed_at a x k).auxiliary.since) (sym same)
              (h.start i k one j making (subst (λ s. seq_at (history s) k < seq_at words k) same more))
        ];
        second = λ k j other making more.
            let started : (typed_at a x k).auxiliary.since ≤ t = (h.each k j).since_le in
            elim scan [
              | inl fresh ↦ omega arith
              | inr same ↦ elim (made making) [
                | inl fresh ↦ omega arith
                | inr before ↦
                    subst (λ s. (typed_at a x k).auxiliary.since ≤ s) (sym same) (h.start k i j one before more)
              ]
            ];
        others = λ k l jk jl other away. h.start k l jk jl;
      });
    }
