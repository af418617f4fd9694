-- The double collects of U: which line reads which copy, and that a passed test is clean.
use Rattle.std.proofs.Common.{◌≡◌, ℕ, suc, ◌+◌, ◌≤◌, ◌⊎◌, max, Bool, true, false, List, length, map, nat_eq, nat_lt}
use Rattle.std.proofs.Common.{if◌then◌else◌, refl, sym, ◌∙◌, ap, arith, inl, inr}
use Rattle.snap_runs.proofs.Common.{places_to, all_true, first_true, Item, Op, Scan, Update}
use Rattle.snap_runs.specs.Update.{is_at}
use Rattle.snap_runs.proofs.Algorithm.{Mode, Scanning, Updating, To, when_busy, status_of}
use Rattle.snap_runs.proofs.Collecting as collecting
use Rattle.snap_runs.proofs.Collecting.{Copies, Phase, Away, ReadsFirst, HasFirst, ReadsSecond, HasSecond, Collected}
use Rattle.snap_runs.proofs.Computing.{not_lt, same_from, either, whether}
use Rattle.snap_runs.proofs.Held.{seq_at, word_at}
use Rattle.snap_runs.proofs.ItemCases.{moved}
use Rattle.snap_runs.proofs.Places.{all_pass}
use Rattle.snap_runs.proofs.Every as every
use Rattle.snap_runs.proofs.ListingFrame as frames
use Rattle.snap_runs_of_u.specs.Promises.{double_collect, PassedTestsAreClean}
use Rattle.snap_runs_of_u.proofs.Algorithm.{Words, Move, Process, Control, Variables, ProgramCounter, L11, L12, L13}
use Rattle.snap_runs_of_u.proofs.Algorithm.{L14, L15, L16, L17, L18, L19, L21, L22, L24, L30, number, agree, compared}
use Rattle.snap_runs_of_u.proofs.Algorithm.{at_limit, move, first_to, counter, restarts, IsLineOf, algorithm}
use Rattle.snap_runs_of_u.proofs.Control.{VariablesAt}
use Rattle.snap_runs_of_u.proofs.Invariant.{pending}
use Rattle.snap_runs_of_u.proofs.Runs.{words_at, process_after, invariant, invariant_of, counts_of}
use Rattle.snap_runs_of_u.proofs.Kept.{frame, kept, calm_kept}
use Rattle.snap_runs_of_u.proofs.Ready.{Ready, ready}

abbrev pub phase : ProgramCounter → Phase
phase L12 = ReadsFirst
phase L13 = HasFirst
phase L14 = ReadsSecond
phase L15 = HasSecond
phase L16 = Collected
phase _ = Away

abbrev pub copies : ℕ → Copies Variables ProgramCounter Words
copies n = record { words = λ m. m; places = n; index = λ p. p.j; first = λ p. p.a; second = λ p. p.b; phase = phase }

-- what is said of a line by its phase
record Named (k : ProgramCounter) : Type 0 where
  first : phase k ≡ ReadsFirst → nat_eq (number k) 12 ≡ true
  second : phase k ≡ ReadsSecond → nat_eq (number k) 14 ≡ true
  quiet : (phase k ≡ Away) ⊎ (restarts k ≡ false)

named : (k : ProgramCounter) → Named k
named L12 = record { first = λ e. refl; second = λ e. absurd (cc); quiet = inr refl }
named L14 = record { first = λ e. absurd (cc); second = λ e. refl; quiet = inr refl }
named L19 = record { first = λ e. absurd (cc); second = λ e. absurd (cc); quiet = inl refl }
named k = record { first = λ e. absurd (cc); second = λ e. absurd (cc); quiet = inr refl }

abbrev pub Reaches : ℕ → Words → Variables → ProgramCounter → Move → Type 0
Reaches n = collecting.Reaches (algorithm n) (copies n)

-- what each line does to the copies; a line that calls or returns does what the mode says
reaches : (n me : ℕ) (d : Mode) (m : Words) (p : Variables) (k : ProgramCounter) → IsLineOf me d k →
    VariablesAt n p k → n ≤ length p.a → n ≤ length p.b → Reaches n m p k (move n me d m p k)
reaches n me d m p L11 s h a b = inl refl
reaches n me Scanning m p L22 s h a b = tt
reaches n me Scanning m p L24 s h a b = tt
reaches n me (Updating word value) m p L30 s h a b = refl
reaches n me d m p L12 s h a b = (refl, refl, h.0, a, refl)
reaches n me d m p L13 s h a b =
    either (Reaches n m p L13) (nat_lt p.j n) _ _ (λ e. inr (refl, refl, refl))
    (λ e. (refl, inl (refl, not_lt p.j n e, refl)))
reaches n me d m p L14 s h a b = (refl, refl, refl, h.0, b, refl)
reaches n me d m p L15 s h a b =
    either (Reaches n m p L15) (nat_lt p.j n) _ _ (λ e. (refl, inr (refl, refl, refl)))
    (λ e. (refl, refl, inl (refl, not_lt p.j n e)))
reaches n me d m p L16 s h a b =
    either (Reaches n m p L16) (all_true (map (agree p) (places_to n))) _ _ (λ e. tt) (λ e. tt)
reaches n me d m p L18 s h a b =
    whether (Reaches n m p L18) (first_to d m p) (first_true 1 (map (at_limit p) (places_to n))) (λ e. tt) (λ k e. tt)
reaches n me d m p L19 s h a b = inl h.0
reaches n me d m p k s h a b = tt

-- the test passes only where all copies agree
passes : (n t : ℕ) (q : Process) (d : Mode) (m : Words) (p : Variables) (b : Bool) →
    is_at 21 (status_of (algorithm n) (moved (algorithm n) t q L16 (if b then To d m p L21 else To d m p L17)).control)
    ≡ true → b ≡ true
passes n t q d m p true h = refl
passes n t q d m p false h = absurd (cc)

away : (op : Op) → phase (counter op) ≡ Away
away Scan = refl
away (Update word value) = refl

counts : (n : ℕ) (items : List Item) (fits : Ready n items) →
    frames.Counts (frame n) items (kept n items fits)
counts n items fits = record {
  sizes = λ t short. (invariant n items fits t short).size;
  counts = λ t k word value short one is owned.
      (invariant_of n items fits t k (omega arith) one).seq
      ∙ ap (λ (y : Control). seq_at (words_at n items t) k + pending y) is
      ∙ ap (λ y. seq_at (words_at n items t) y + 1) (sym owned);
}

collects : (n : ℕ) (items : List Item) (fits : Ready n items) →
    frames.Collects (frame n) items (kept n items fits) (counts n items fits) (copies n) double_collect L16
collects n items fits = record {
  words_are = λ t. refl;
  places = refl;
  reaches = λ t i short one.
      let q = process_after n items t i in
      let own = invariant_of n items fits t i (omega arith) one in
      let a : length q.variables.a ≡ max n n = own.length_a in
      let b : length q.variables.b ≡ max n n = own.length_b in
      when_busy _ _
      (λ d k well. reaches n i d (words_at n items t) q.variables k well.0 well.1 (omega arith) (omega arith))
      q.control own.well;
  quiet = λ k. (named k).quiet;
  away = away;
  first = λ k. (named k).first;
  second = λ k. (named k).second;
  scalar = λ p. refl;
  tests = refl;
  collected = refl;
  ends = refl;
  fresh = λ t i d short one is. (counts_of n items fits t i d L16 short one is).2;
  agree = λ t i d short one is to k one_k.
      let q = process_after n items t i in
      let p = q.variables in
      let all = passes n (suc t) q d (words_at n items t) p (all_true (map (agree p) (places_to n))) to in
      same_from (compared (word_at p.a k)) (compared (word_at p.b k))
      (all_pass (agree p) 1 n all k (omega arith) (omega arith));
}

pub passed_tests_are_clean_lem : PassedTestsAreClean
passed_tests_are_clean_lem n items suffice =
    every.passed_tests_are_clean (frame n) items (calm_kept n items suffice) double_collect (copies n) L16
    (λ steady. counts n _ (ready n items suffice steady)) (λ steady. collects n _ (ready n items suffice steady))
