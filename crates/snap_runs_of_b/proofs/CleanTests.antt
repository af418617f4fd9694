-- The double collects of B: which line reads which copy, and that a passed test is clean.
use Rattle.std.proofs.Common.{◌≡◌, ℕ, suc, ◌+◌, ◌≤◌, ◌⊎◌, max, Bool, true, false, List, length, map, nat_eq, nat_lt}
use Rattle.std.proofs.Common.{if◌then◌else◌, refl, sym, ap, arith, inl, inr}
use Rattle.snap_runs.proofs.Common.{places_to, all_true, first_true, Item, Op, Scan, Update}
use Rattle.snap_runs.specs.Update.{is_at}
use Rattle.snap_runs.proofs.Algorithm.{Mode, Scanning, Updating, To, when_busy, status_of}
use Rattle.snap_runs.proofs.Collecting as collecting
use Rattle.snap_runs.proofs.Collecting.{Copies, Phase, Away, ReadsFirst, HasFirst, ReadsSecond, HasSecond, Collected}
use Rattle.snap_runs.proofs.Computing.{not_lt, either, whether}
use Rattle.snap_runs.proofs.Held.{seq_at}
use Rattle.snap_runs.proofs.ItemCases.{moved}
use Rattle.snap_runs.proofs.Every as every
use Rattle.snap_runs.proofs.ListingFrame as frames
use Rattle.snap_runs_of_b.specs.Promises.{run_of, double_collect, PassedTestsAreClean}
use Rattle.snap_runs_of_b.proofs.Algorithm.{Registers, Move, Process, Variables, ProgramCounter, L15, L16, L17, L18}
use Rattle.snap_runs_of_b.proofs.Algorithm.{L19, L20, L21, L22, L23, L25, L26, L28, L43, L44, number, agree, at_limit}
use Rattle.snap_runs_of_b.proofs.Algorithm.{move, first_to, counter, restarts, IsLineOf, algorithm}
use Rattle.snap_runs_of_b.proofs.PassedTests.{equal_counts}
use Rattle.snap_runs_of_b.proofs.Control.{VariablesAt}
use Rattle.snap_runs_of_b.proofs.Runs.{words_at, registers_at, process_after, invariant}
use Rattle.snap_runs_of_b.proofs.Runs.{invariant_of, stage_of, counts_of}
use Rattle.snap_runs_of_b.proofs.Kept.{frame, kept, calm_kept}
use Rattle.snap_runs.proofs.Steady.{Steady}

abbrev pub phase : ProgramCounter → Phase
phase L16 = ReadsFirst
phase L17 = HasFirst
phase L18 = ReadsSecond
phase L19 = HasSecond
phase L20 = Collected
phase _ = Away

abbrev pub copies : ℕ → Copies Variables ProgramCounter Registers
copies n =
    record { words = λ m. m.words; places = n; index = λ p. p.j; first = λ p. p.a; second = λ p. p.b; phase = phase }

-- what is said of a line by its phase
record Named (k : ProgramCounter) : Type 0 where
  first : phase k ≡ ReadsFirst → nat_eq (number k) 16 ≡ true
  second : phase k ≡ ReadsSecond → nat_eq (number k) 18 ≡ true
  quiet : (phase k ≡ Away) ⊎ (restarts k ≡ false)

named : (k : ProgramCounter) → Named k
named L16 = record { first = λ e. refl; second = λ e. absurd (cc); quiet = inr refl }
named L18 = record { first = λ e. absurd (cc); second = λ e. refl; quiet = inr refl }
named L23 = record { first = λ e. absurd (cc); second = λ e. absurd (cc); quiet = inl refl }
named k = record { first = λ e. absurd (cc); second = λ e. absurd (cc); quiet = inr refl }

abbrev pub Reaches : ℕ → Registers → Variables → ProgramCounter → Move → Type 0
Reaches n = collecting.Reaches (algorithm n) (copies n)

-- what each line does to the copies; a line that calls or returns does what the mode says
reaches : (n me : ℕ) (d : Mode) (m : Registers) (p : Variables) (k : ProgramCounter) → IsLineOf me d k →
    VariablesAt n me p k → n ≤ length p.a → n ≤ length p.b → Reaches n m p k (move n me d m p k)
reaches n me d m p L15 s h a b = either (Reaches n m p L15) (nat_lt p.j n) _ _ (λ e. tt) (λ e. inl refl)
reaches n me Scanning m p L26 s h a b = tt
reaches n me Scanning m p L28 s h a b = tt
reaches n me (Updating word value) m p L44 s h a b = refl
reaches n me d m p L16 s h a b = (refl, refl, h.0, a, refl)
reaches n me d m p L17 s h a b =
    either (Reaches n m p L17) (nat_lt p.j n) _ _ (λ e. inr (refl, refl, refl))
    (λ e. (refl, inl (refl, not_lt p.j n e, refl)))
reaches n me d m p L18 s h a b = (refl, refl, refl, h.0, b, refl)
reaches n me d m p L19 s h a b =
    either (Reaches n m p L19) (nat_lt p.j n) _ _ (λ e. (refl, inr (refl, refl, refl)))
    (λ e. (refl, refl, inl (refl, not_lt p.j n e)))
reaches n me d m p L20 s h a b =
    either (Reaches n m p L20) (all_true (map (agree me p) (places_to n))) _ _ (λ e. tt) (λ e. tt)
reaches n me d m p L22 s h a b =
    whether (Reaches n m p L22) (first_to d m p) (first_true 1 (map (at_limit p) (places_to n))) (λ e. tt) (λ k e. tt)
reaches n me d m p L43 s h a b = either (Reaches n m p L43) (nat_lt p.j n) _ _ (λ e. tt) (λ e. tt)
reaches n me d m p k s h a b = tt

-- the test passes only where all copies agree
passes : (n t : ℕ) (q : Process) (d : Mode) (m : Registers) (p : Variables) (b : Bool) →
    is_at 25 (status_of (algorithm n) (moved (algorithm n) t q L20 (if b then To d m p L25 else To d m p L21)).control)
    ≡ true → b ≡ true
passes n t q d m p true h = refl
passes n t q d m p false h = absurd (cc)

away : (op : Op) → phase (counter op) ≡ Away
away Scan = refl
away (Update word value) = refl

counts : (n : ℕ) (items : List Item) (fits : Steady (run_of n items)) →
    frames.Counts (frame n) items (kept n items fits)
counts n items fits = record {
  sizes = λ t short. (invariant n items fits t short).size;
  counts = λ t k word value short one is owned. ap (λ y. seq_at (words_at n items t) y + 1) (sym owned);
}

collects : (n : ℕ) (items : List Item) (fits : Steady (run_of n items)) →
    frames.Collects (frame n) items (kept n items fits) (counts n items fits) (copies n) double_collect L20
collects n items fits = record {
  words_are = λ t. refl;
  places = refl;
  reaches = λ t i short one.
      let q = process_after n items t i in
      let own = invariant_of n items fits t i (omega arith) one in
      let a : length q.variables.a ≡ max n n = own.sized.0 in
      let b : length q.variables.b ≡ max n n = own.sized.1 in
      when_busy _ _
      (λ d k well. reaches n i d (registers_at n items t) q.variables k well.0 well.1 (omega arith) (omega arith))
      q.control own.well;
  quiet = λ k. (named k).quiet;
  away = away;
  first = λ k. (named k).first;
  second = λ k. (named k).second;
  scalar = λ p. refl;
  tests = refl;
  collected = refl;
  ends = refl;
  fresh = λ t i d short one is. (counts_of n items fits t i d L20 short one is).2;
  agree = λ t i d short one is to k one_k.
      let q = process_after n items t i in
      let p = q.variables in
      let all = passes n (suc t) q d (registers_at n items t) p (all_true (map (agree i p) (places_to n))) to in
      equal_counts n i (words_at n items) t q.auxiliary.since q.auxiliary.round (words_at n items t) p
      (stage_of n items fits t i d L20 short one is).1 all k one_k;
}

pub passed_tests_are_clean_lem : PassedTestsAreClean
passed_tests_are_clean_lem n items =
    every.passed_tests_are_clean (frame n) items (calm_kept n items) double_collect
    (copies n) L20 (λ steady. counts n _ steady)
    (λ steady. collects n _ steady)
