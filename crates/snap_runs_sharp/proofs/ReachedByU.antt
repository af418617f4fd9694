-- The schedule of U by which a scan makes n double collects: round after
-- round one process more has moved, and then the scan passes its test.
use Rattle.std.proofs.Common.{◌≡◌, ◌≢◌, ℕ, suc, ◌+◌, ◌*◌, ◌-◌, ◌<◌, ◌≤◌, max, List, [], length, None, replicate}
use Rattle.std.proofs.Common.{slice_set, refl, ◌∙◌, ap, subst, arith}
use Rattle.std.proofs.lemmas.Grind.{get_or-set_at}
use Rattle.std.proofs.lemmas.List.{length-set, length-replicate, get_or-set_other, get_or-replicate}
use Rattle.std.proofs.lemmas.Nat.{mul-le}
use Rattle.snap_words.specs.declared.kind.KindTag.TheVariants as kind
use Rattle.snap_runs.proofs.Common.{IsOneOf, Word, no_word, Item, Update}
use Rattle.snap_words.specs.Shape.{max_count}
use Rattle.snap_semantics.specs.Table.{call_skip}
use Rattle.snap_runs.proofs.Algorithm.{Scanning}
use Rattle.snap_runs.proofs.Computing.{lt_true, le_true, same_number}
use Rattle.snap_runs.proofs.Held.{word_at, seq_at}
use Rattle.snap_runs.proofs.Places.{for_each, for_each_at}
use Rattle.snap_runs_of_u.specs.Promises.{square, run_of}
use Rattle.snap_runs_of_u.proofs.Algorithm.{Words, Variables, L12, L22, first_word, first_variables}
use Rattle.snap_runs_of_u.proofs.Algorithm.{limit, moved_at, lines, algorithm}
use Rattle.snap_runs_of_u.proofs.Flows.{listed}
use Rattle.snap_runs_of_u.proofs.Ready as suffices
use Rattle.snap_runs_of_u.proofs.Runs.{execution}
use Rattle.snap_runs_sharp.specs.Reached.{Reaches, ScheduleOfUReaches}
use Rattle.snap_runs_sharp.specs.Schedules.{others, schedule}
use Rattle.snap_runs_sharp.specs.Schedules.{round_of_u, schedule_of_u, scan_alone_of_u}
use Rattle.snap_runs_sharp.proofs.Items.{turns_round, turns_schedule, round_length, schedule_length, steady}
use Rattle.snap_runs_sharp.proofs.Rounds.{Turned, rounds_reach}
use Rattle.snap_runs_sharp.proofs.Scenes.{round_leads}
use Rattle.snap_runs_sharp.proofs.WalksOfU.{Sized, first_collect, clean, whole_update, fails}

-- an update of a process's own word is admitted
admitted : (n i value : ℕ) → IsOneOf n i → call_skip kind.Seq (square n) i (Update i value) ≡ None
admitted n i value one = rw (lt_true 0 i one.0, le_true i n one.1, same_number i) refl

-- What is kept round after round: the processes from r + 2 on have not moved after r rounds.
record Kept (n r : ℕ) (m : Words) (p : Variables) : Type 0 where
  first : p.j ≡ 1
  sized : Sized n p
  words : length m ≡ n
  few : (k : ℕ) → IsOneOf n k → moved_at p k < limit
  none : (k : ℕ) → IsOneOf n k → suc r < k → (moved_at p k ≡ 0) × (seq_at m k ≡ 0)

abbrev Turns : (n r : ℕ) → List Item → Type 0
Turns n r items = (m : Words) (p : Variables) → Kept n r m p → Turned (algorithm n) L12 (λ c. c) (Kept n) r m p items

first_sized : (n : ℕ) → Sized n (first_variables n)
first_sized n = omega (arith, length-replicate (max n n) (first_word n))

one_round : (n r : ℕ) → suc r ≤ others n → Turns n r (round_of_u n r)
one_round n r le m p h =
    let some : 1 ≤ n = omega arith in
    let i = r + 2 in
    let at : IsOneOf n i = (omega arith, omega arith) in
    let collect = first_collect n 1 Scanning m p r some h.first h.sized in
    let p1 : Variables = record p { j = 1; a = collect.0 } in
    let update = whole_update n i i i m (first_variables n) 0 some (first_sized n) in
    let m2 = slice_set m (i - 1) update.0 in
    let none_i = h.none i at (omega arith) in
    let seq : seq_at m2 i ≡ 1 =
    ap (λ (w : Word). w.seq) (get_or-set_at m (i - 1) (i - 1) update.0 no_word refl (omega (arith, h.words)))
    ∙ update.3 in
    let kept : (k : ℕ) → IsOneOf n k → k ≢ i → word_at m2 k ≡ word_at m k =
    λ k k_one other. get_or-set_other m (i - 1) (k - 1) update.0 no_word (λ same. other (omega arith)) in
    let failed = fails n i m m2 p1 r some refl (omega (arith, h.sized, collect.2)) collect.3 at
    (λ same. absurd (omega arith)) kept h.few none_i.0 in
    record {
      memory = m2;
      variables = failed.0;
      seat = update.1;
      leads = round_leads (algorithm n) (omega arith, some) (suc (suc r)) i i (2 * n) (4 * n + 9) (2 * n + 4)
          at (omega arith) (omega arith) refl (admitted n i i at) collect.1 update.2 failed.1;
      keeps = record {
        first = failed.2;
        sized = failed.3;
        words = length-set m (i - 1) update.0 ∙ h.words;
        few = failed.4.few;
        none = λ k k_one more.
            let other : k ≢ i = λ same. absurd (omega arith) in
            let old = h.none k k_one (omega arith) in
            (failed.4.unmoved k k_one other ∙ old.0, ap (λ (w : Word). w.seq) (kept k k_one other) ∙ old.1);
      };
    }

-- after the call and the first two lines
abbrev opened : ℕ → Variables
opened n = record (first_variables n) { moved = for_each n (λ k. 0) (first_variables n).moved; j = 1 }

opening : (n : ℕ) → 1 ≤ n → Kept n 0 (replicate n (first_word n)) (opened n)
opening n some =
    let zeros : (k : ℕ) → IsOneOf n k → moved_at (opened n) k ≡ 0 =
    λ k at. for_each_at n (λ k. 0) (first_variables n).moved k at in
    record {
      first = refl;
      sized = omega (arith, first_sized n);
      words = length-replicate n (first_word n);
      few = λ k at. omega (arith, zeros k at);
      none = λ k at more.
          (zeros k at, ap (λ (w : Word). w.seq) (get_or-replicate n (k - 1) (first_word n) no_word (omega arith)));
    }

-- a number of rounds, and a double collect that passes
reaching : (n count : ℕ) (round : ℕ → List Item) → count < n → ((r : ℕ) → suc r ≤ count → Turns n r (round r)) →
    suffices.Ready n (schedule round count 2 (4 * n + 2)) →
    Reaches (suc count) (run_of n (schedule round count 2 (4 * n + 2)))
reaching n count round less each fits =
    rounds_reach (algorithm n) L12 (λ c. c) (Kept n) lines (listed n) L22 2 (4 * n + 2) count round (opened n) less
    refl (opening n (omega arith)) each
    (λ m p h. let end = clean n 1 Scanning m p count (omega arith) h.first h.sized in (m, end.0, end.1))
    (λ m p. refl) (execution n (schedule round count 2 (4 * n + 2)) fits) refl

-- the schedule fits
fits : (n : ℕ) → 1 ≤ n → n ≤ max_count → suffices.Ready n (schedule_of_u n)
fits n some most =
    let one : IsOneOf n 1 = (omega arith, some) in
    let each : (r : ℕ) → length (round_of_u n r) ≡ 8 * n + 14 = λ r.
    omega (arith, round_length (r + 2) (r + 2) (2 * n) (4 * n + 9) (2 * n + 4)) in
    let size = schedule_length (8 * n + 14) (round_of_u n) (others n) 2 (4 * n + 2) each in
    let product : (others n) * (8 * n + 14) ≤ 64 * 526 =
    mul-le (others n) (8 * n + 14) 64 526 (omega arith) (omega arith) in
    let few : length (schedule_of_u n) ≤ 1000000 = omega arith in
    let turns =
    turns_schedule n (round_of_u n) (others n) 2 (4 * n + 2) one
    (λ r le. turns_round n (r + 2) (r + 2) (2 * n) (4 * n + 9) (2 * n + 4) one (omega arith, omega arith)) in
    record { steady = steady (run_of n (schedule_of_u n)) turns; suffice = omega arith }

pub schedule_of_u_reaches_lem : ScheduleOfUReaches
schedule_of_u_reaches_lem n counts =
    subst (λ bound. Reaches bound (run_of n (schedule_of_u n))) (let all : suc (others n) ≡ n = omega arith in all)
    (reaching n (others n) (round_of_u n) (omega arith) (one_round n) (fits n (omega arith) (omega arith)))

-- the scan alone
fits_alone : (n : ℕ) → 1 ≤ n → n ≤ max_count → suffices.Ready n (scan_alone_of_u n)
fits_alone n some most =
    let size = schedule_length 0 (λ r. []) 0 2 (4 * n + 2) (λ r. refl) in
    let few : length (scan_alone_of_u n) ≤ 1000000 = omega arith in
    record {
      steady =
          steady (run_of n (scan_alone_of_u n))
          (turns_schedule n (λ r. []) 0 2 (4 * n + 2) (omega arith, some) (λ r le. absurd (omega arith)));
      suffice = omega arith;
    }

pub scan_alone_reaches : (n : ℕ) → 1 ≤ n → n ≤ max_count → Reaches 1 (run_of n (scan_alone_of_u n))
scan_alone_reaches n some most = reaching n 0 (λ r. []) some (λ r le. absurd (omega arith)) (fits_alone n some most)
