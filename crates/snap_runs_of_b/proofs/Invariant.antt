-- The invariant of B: what holds in every state of every run.
use Rattle.std.proofs.Common.{◌≡◌, ℕ, suc, ◌<◌, ◌≤◌, length, refl, sym, ◌∙◌, ap, subst, arith, inr}
use Rattle.snap_runs.proofs.Common.{IsOneOf, Word}
use Rattle.snap_runs.proofs.Algorithm.{Idle, At, WhenBusy, typed_at}
use Rattle.snap_runs.proofs.Flow.{InScan}
use Rattle.snap_runs.proofs.Held.{word_at, held_wider, seq_at}
use Rattle.snap_runs_of_b.proofs.Algorithm.{Words, Registers, Control, Process, State}
use Rattle.snap_runs_of_b.proofs.Algorithm.{Variables, place, bit_for, algorithm}
use Rattle.snap_runs_of_b.proofs.Control.{BitWords, Sized, ControlWell}
use Rattle.snap_runs_of_b.proofs.Lines.{SaysBits}
use Rattle.snap_runs_of_b.proofs.Follow.{follows_seq, Grows}
use Rattle.snap_runs_of_b.proofs.Collect.{Late, Viewed}
use Rattle.snap_runs_of_b.proofs.Flows.{Making, HasWritten}
use Rattle.snap_runs_of_b.proofs.Stage.{reach, Stage, stage_kept, line_place, Toggled}
use Rattle.snap_runs_of_b.proofs.Handshake.{Square, Asked, Answers}
use Rattle.snap_runs_of_b.proofs.Count.{Count}

-- a busy process is at the stage of its line
abbrev pub StageAt : ℕ → ℕ → (ℕ → Words) → ℕ → ℕ → ℕ → Words → Variables → Control → Type 0
StageAt n i history t since round words p control = WhenBusy (λ d k. Stage n i history t since round words p k) control

abbrev pub ToggledAt : ℕ → Variables → Control → Type 0
ToggledAt toggle p Idle = p.t ≡ toggle
ToggledAt toggle p (At d k) = Toggled toggle p k

abbrev pub reach_at : ℕ → Variables → Control → ℕ
reach_at n p Idle = 0
reach_at n p (At d k) = reach n p k

abbrev pub AnswersAt : ℕ → ℕ → Variables → Control → Type 0
AnswersAt i bit p Idle = Unit {0}
AnswersAt i bit p (At d k) = Answers i bit d p k

abbrev pub CountAt : ℕ → ℕ → Variables → ℕ → ℕ → ℕ → Control → Type 0
CountAt n i p own c recent control = WhenBusy (λ d k. Count n i p own c recent k) control

-- What holds of process i, at whichever line it stands, with these registers.
pub record ProcessInvariant (n t : ℕ) (history : ℕ → Words) (m : Registers) (i : ℕ) (q : Process) : Type 0 where
  -- the process stands at a line of its mode, with the variables that the line asks for
  pub well : ControlWell n i q.variables q.control
  -- the copies and rows have all places, and what the process says to the others are bits
  pub sized : Sized n q.variables
  pub bits : SaysBits n q.variables
  -- the toggle is that of the process's word, and the other one just before the write
  pub toggle : ToggledAt (word_at m.words i).toggle q.variables q.control
  -- the last scan and its last double collect have started
  pub since_le : q.auxiliary.since ≤ t
  pub low : (k : ℕ) → IsOneOf n k → seq_at (history q.auxiliary.since) k ≤ seq_at m.words k
  pub opened : (k : ℕ) → IsOneOf n k → seq_at (history q.auxiliary.round) k ≤ seq_at m.words k
  -- the view beside a second write since its last scan's start was the values since
  pub views : Viewed n history t q.auxiliary.since m.words
  -- the bits of its handshake are put, and two later writes of a word show in that word
  pub asked : Asked n m.q q.variables.g i (reach_at n q.variables q.control)
  pub late : Late n m.words q.variables.g q.variables.marks i (reach_at n q.variables q.control)
  -- the process has come as far as its line says
  pub stage : StageAt n i history t q.auxiliary.since q.auxiliary.round m.words q.variables q.control
  -- in a scan it writes nothing
  pub self : InScan q.control → seq_at (history q.auxiliary.since) i ≡ seq_at m.words i
  -- the scan's double collects and steps are within their bounds
  pub counts : CountAt n i q.variables q.auxiliary.own q.auxiliary.collects q.auxiliary.tested q.control
  -- an update has written once at line 47, and not before
  pub wrote : HasWritten q.control q.auxiliary.wrote

-- A view that process v makes after its word, b, was written since u's last scan started, is made by a scan that
-- started no earlier than u's.
abbrev pub PairInvariant : (ℕ → Words) → Words → Process → Process → ℕ → Type 0
PairInvariant history words u v b =
    Making v.control → seq_at (history u.auxiliary.since) b < seq_at words b → u.auxiliary.since ≤ v.auxiliary.since

-- where process b has written since process i put its bit for b, b will say another bit to i in its next word
abbrev pub Answered : ℕ → Words → ℕ → Process → ℕ → Process → Type 0
Answered n words i u b v =
    b < reach_at n u.variables u.control → place u.variables.marks b < seq_at words b →
    AnswersAt i (place u.variables.g b) v.variables v.control

-- What holds in every state of a run: the registers, each process, and each pair of processes.
pub record Invariant (n t : ℕ) (history : ℕ → Words) (x : State) : Type 0 where
  pub size : length x.memory.words ≡ n
  pub square : Square n x.memory.q
  -- what the words say are bits
  pub bits : BitWords n x.memory.words
  pub each : (i : ℕ) → IsOneOf n i → ProcessInvariant n t history x.memory i (typed_at (algorithm n) x i)
  pub start : (i k : ℕ) → IsOneOf n i → IsOneOf n k →
      PairInvariant history x.memory.words (typed_at (algorithm n) x i) (typed_at (algorithm n) x k) k
  pub answered : (i k : ℕ) → IsOneOf n i → IsOneOf n k →
      Answered n x.memory.words i (typed_at (algorithm n) x i) k (typed_at (algorithm n) x k)

stage_at_kept : (n i : ℕ) (history : ℕ → Words) (t t' since round : ℕ) (words words' : Words) (p : Variables)
    (control : Control) → t ≤ t' → Grows n words words' → ControlWell n i p control →
    StageAt n i history t since round words p control → StageAt n i history t' since round words' p control
stage_at_kept n i history t t' since round words words' p Idle le g well h = tt
stage_at_kept n i history t t' since round words words' p (At d k) le g well h =
    stage_kept n i history t t' since round words words' p k le g (line_place n i p k well.1) h

-- other processes act
pub others_act : (n t t' : ℕ) (history : ℕ → Words) (m m' : Registers) (i : ℕ) (q : Process) →
    t ≤ t' → Grows n m.words m'.words → word_at m'.words i ≡ word_at m.words i →
    ((k : ℕ) → IsOneOf n k → bit_for m'.q i k ≡ bit_for m.q i k) →
    Late n m'.words q.variables.g q.variables.marks i (reach_at n q.variables q.control) →
    Viewed n history t' q.auxiliary.since m'.words → ProcessInvariant n t history m i q →
    ProcessInvariant n t' history m' i q
others_act n t t' history m m' i q le g same put late v h = record {
  well = h.well;
  sized = h.sized;
  bits = h.bits;
  toggle = subst (λ (w : Word). ToggledAt w.toggle q.variables q.control) (sym same) h.toggle;
  since_le = omega (arith, h.since_le);
  low = λ k ik. omega (arith, h.low k ik, follows_seq (word_at m.words k) (word_at m'.words k) (g k ik));
  opened = λ k ik. omega (arith, h.opened k ik, follows_seq (word_at m.words k) (word_at m'.words k) (g k ik));
  views = v;
  asked = λ k ik lt. put k ik ∙ h.asked k ik lt;
  late = late;
  stage =
      stage_at_kept n i history t t' q.auxiliary.since q.auxiliary.round m.words m'.words q.variables
      q.control le g h.well h.stage;
  self = λ scan. h.self scan ∙ sym (ap (λ (w : Word). w.seq) same);
  counts = h.counts;
  wrote = h.wrote;
}

pub time_passes : (n t : ℕ) (history : ℕ → Words) (x : State) → Invariant n t history x → Invariant n (suc t) history x
time_passes n t history x h = record {
  size = h.size;
  square = h.square;
  bits = h.bits;
  each =
      λ i e. others_act n t (suc t) history x.memory x.memory i (typed_at (algorithm n) x i) (omega arith)
      (λ k j. inr refl) refl (λ k j. refl)
      (h.each i e).late
      (λ k j more. held_wider history t (suc t) _ _ _ (omega arith) (omega arith) ((h.each i e).views k j more))
      (h.each i e);
  start = h.start;
  answered = h.answered;
}
