-- The double collects of M: which line reads which copy, and that a passed test is clean.
use Rattle.std.proofs.Common.{◌≡◌, ℕ, suc, ◌+◌, ◌≤◌, ◌<◌, ◌⊎◌, max, Bool, true, false, List, length, nat_eq, nat_lt}
use Rattle.std.proofs.Common.{if◌then◌else◌, refl, ap, arith, inl, inr}
use Rattle.snap_runs.proofs.Common.{Word, Item, Op, Scan, Update}
use Rattle.snap_runs.specs.Update.{is_at}
use Rattle.snap_runs.proofs.Algorithm.{Mode, Scanning, Updating, To, when_busy, status_of, typed_at}
use Rattle.snap_runs.proofs.Collecting as collecting
use Rattle.snap_runs.proofs.Collecting.{Copies, Phase, Away, ReadsFirst, HasFirst, ReadsSecond, HasSecond, Collected}
use Rattle.snap_runs.proofs.Computing.{not_lt, either, whether}
use Rattle.snap_runs.proofs.ItemCases.{moved}
use Rattle.snap_runs.proofs.Every as every
use Rattle.snap_runs.proofs.ListingFrame as frames
use Rattle.snap_runs_of_m.specs.Promises.{run_of, double_collect, PassedTestsAreClean}
use Rattle.snap_runs_of_m.proofs.Algorithm.{Registers, Move, Process, Variables, ProgramCounter, L16, L17, L18, L19}
use Rattle.snap_runs_of_m.proofs.Algorithm.{L20, L21, L22, L23, L24, L25, L26, L27, L28, L29, L30, L31, L32, L33, L34}
use Rattle.snap_runs_of_m.proofs.Algorithm.{L35, L37, L53, L54, number, same_at, all_still, third_move, move}
use Rattle.snap_runs_of_m.proofs.Algorithm.{first_to, counter, restarts, IsLineOf, algorithm}
use Rattle.snap_runs_of_m.proofs.Collect.{same_copies}
use Rattle.snap_runs_of_m.proofs.Control.{Keeps}
use Rattle.snap_runs_of_m.proofs.Runs.{state_at, registers_at, inv, own, stage_of, counts_of}
use Rattle.snap_runs_of_m.proofs.Stage.{still_bits, still_words}
use Rattle.snap_runs_of_m.proofs.Kept.{frame, kept, calm_kept}
use Rattle.snap_runs.proofs.Steady.{Steady}

abbrev pub phase : ProgramCounter → Phase
phase L17 = ReadsFirst
phase L18 = HasFirst
phase L19 = ReadsSecond
phase L20 = HasSecond
phase L21 = Collected
phase L22 = Collected
phase L23 = Collected
phase L24 = Collected
phase L25 = Collected
phase L26 = Collected
phase L27 = Collected
phase L28 = Collected
phase L29 = Collected
phase L30 = Collected
phase _ = Away

abbrev pub copies : ℕ → Copies Variables ProgramCounter Registers
copies w =
    record { words = λ m. m.words; places = w; index = λ p. p.k; first = λ p. p.a; second = λ p. p.b; phase = phase }

-- what is said of a line by its phase
record Named (k : ProgramCounter) : Type 0 where
  first : phase k ≡ ReadsFirst → nat_eq (number k) 17 ≡ true
  second : phase k ≡ ReadsSecond → nat_eq (number k) 19 ≡ true
  quiet : (phase k ≡ Away) ⊎ (restarts k ≡ false)

named : (k : ProgramCounter) → Named k
named L17 = record { first = λ e. refl; second = λ e. absurd (cc); quiet = inr refl }
named L19 = record { first = λ e. absurd (cc); second = λ e. refl; quiet = inr refl }
named L33 = record { first = λ e. absurd (cc); second = λ e. absurd (cc); quiet = inl refl }
named k = record { first = λ e. absurd (cc); second = λ e. absurd (cc); quiet = inr refl }

abbrev pub Reaches : ℕ → ℕ → Registers → Variables → ProgramCounter → Move → Type 0
Reaches n w = collecting.Reaches (algorithm n w) (copies w)

-- what each line does to the copies; a line that calls or returns does what the mode says
reaches : (n w me : ℕ) (d : Mode) (m : Registers) (p : Variables) (k : ProgramCounter) → IsLineOf w d k →
    Keeps n w d p k → w ≤ length p.a → w ≤ length p.b → Reaches n w m p k (move n w me d m p k)
reaches n w me d m p L16 s h a b = either (Reaches n w m p L16) (nat_lt p.j n) _ _ (λ e. tt) (λ e. inl h.1)
reaches n w me Scanning m p L35 s h a b = tt
reaches n w me Scanning m p L37 s h a b = tt
reaches n w me (Updating word value) m p L54 s h a b = refl
reaches n w me d m p L17 s h a b = (refl, refl, h.1, a, refl)
reaches n w me d m p L18 s h a b =
    either (Reaches n w m p L18) (nat_lt p.k w) _ _ (λ e. inr (refl, refl, refl))
    (λ e. (refl, inl (refl, not_lt p.k w e, refl)))
reaches n w me d m p L19 s h a b = (refl, refl, refl, h.1, b, refl)
reaches n w me d m p L20 s h a b =
    either (Reaches n w m p L20) (nat_lt p.k w) _ _ (λ e. (refl, inr (refl, refl, refl)))
    (λ e. (refl, refl, inl (refl, not_lt p.k w e)))
reaches n w me d m p L21 s h a b = (refl, refl, inr refl)
reaches n w me d m p L22 s h a b = (refl, refl, inr refl)
reaches n w me d m p L23 s h a b =
    either (Reaches n w m p L23) (nat_lt p.j n) _ _ (λ e. (refl, refl, inr refl)) (λ e. (refl, refl, inr refl))
reaches n w me d m p L24 s h a b = (refl, refl, inr refl)
reaches n w me d m p L25 s h a b = (refl, refl, inr refl)
reaches n w me d m p L26 s h a b =
    either (Reaches n w m p L26) (same_at p.a p.b p.k) _ _ (λ e. (refl, refl, inr refl)) (λ e. (refl, refl, inr refl))
reaches n w me d m p L27 s h a b = (refl, refl, inr refl)
reaches n w me d m p L28 s h a b = (refl, refl, inr refl)
reaches n w me d m p L29 s h a b =
    either (Reaches n w m p L29) (nat_lt p.k w) _ _ (λ e. (refl, refl, inr refl)) (λ e. (refl, refl, inr refl))
reaches n w me d m p L30 s h a b = either (Reaches n w m p L30) (all_still n p) _ _ (λ e. tt) (λ e. tt)
reaches n w me d m p L32 s h a b = whether (Reaches n w m p L32) (first_to d m p) (third_move n p) (λ e. tt) (λ k e. tt)
reaches n w me d m p L53 s h a b = either (Reaches n w m p L53) (nat_lt p.j n) _ _ (λ e. tt) (λ e. tt)
reaches n w me d m p k s h a b = tt

-- the test passes only where nobody is marked
passes : (n w t : ℕ) (q : Process) (d : Mode) (m : Registers) (p : Variables) (b : Bool) →
    is_at 34
    (status_of (algorithm n w) (moved (algorithm n w) t q L30 (if b then To d m p L34 else To d m p L31)).control)
    ≡ true → b ≡ true
passes n w t q d m p true h = refl
passes n w t q d m p false h = absurd (cc)

away : (op : Op) → phase (counter op) ≡ Away
away Scan = refl
away (Update word value) = refl

counts : (n w : ℕ) (items : List Item) (some : 0 < w) (fits : Steady (run_of n w items)) →
    frames.Counts (frame n w) items (kept n w items some fits)
counts n w items some fits = record {
  sizes = λ t short. ((inv n w items some fits t short).laws t (omega arith)).now.size;
  counts = λ t k word value short one is owned. refl;
}

collects : (n w : ℕ) (items : List Item) (some : 0 < w) (fits : Steady (run_of n w items)) →
    frames.Collects (frame n w) items (kept n w items some fits)
    (counts n w items some fits) (copies w) double_collect L30
collects n w items some fits = record {
  words_are = λ t. refl;
  places = refl;
  reaches = λ t i short one.
      let q = typed_at (algorithm n w) (state_at n w items t) i in
      let his = own n w items some fits t i (omega arith) one in
      let a : length q.variables.a ≡ max n w = his.long.a in
      let b : length q.variables.b ≡ max n w = his.long.b in
      when_busy _ _
      (λ d k well. reaches n w i d (registers_at n w items t) q.variables k well.0 well.1 (omega arith) (omega arith))
      q.control his.well;
  quiet = λ k. (named k).quiet;
  away = away;
  first = λ k. (named k).first;
  second = λ k. (named k).second;
  scalar = λ p. refl;
  tests = refl;
  collected = refl;
  ends = refl;
  fresh = λ t i d short one is. (counts_of n w items some fits t i d L30 short one is).3;
  agree = λ t i d short one is to k one_k.
      let q = typed_at (algorithm n w) (state_at n w items t) i in
      let p = q.variables in
      let history = registers_at n w items in
      let round = q.auxiliary.round in
      let laws = (inv n w items some fits t short).laws in
      let still = passes n w (suc t) q d (history t) p (all_still n p) to in
      let stage = stage_of n w items some fits t i d L30 short one is in
      ap (λ (x : Word). x.seq) (same_copies n w i history round t p.g p.a p.b p.h one laws stage.1 k one_k
      (still_bits n w i history round t p (w + 1) stage.2 still)
      (still_words n w i history round t p one laws stage.1 stage.2 still k one_k));
}

pub passed_tests_are_clean_lem : PassedTestsAreClean
passed_tests_are_clean_lem n w items some =
    every.passed_tests_are_clean (frame n w) items (calm_kept n w items some) double_collect (copies w) L30
    (λ steady. counts n w _ some steady) (λ steady. collects n w _ some steady)
