-- The schedule of B by which a scan makes n double collects: round after
-- round one process more has moved, and then the scan passes its test.
use Rattle.std.proofs.Common.{◌≡◌, ◌≢◌, ℕ, suc, ◌+◌, ◌*◌, ◌-◌, ◌<◌, ◌≤◌, max, length, None, slice_set}
use Rattle.std.proofs.Common.{refl, ◌∙◌, ap, subst, arith}
use Rattle.std.proofs.lemmas.Grind.{get_or-set_at}
use Rattle.std.proofs.lemmas.List.{length-set, length-replicate, get_or-set_other, get_or-replicate}
use Rattle.snap_words.specs.declared.kind.KindTag.TheVariants as kind
use Rattle.snap_runs.proofs.Common.{IsOneOf, Word, no_word, Update}
use Rattle.snap_semantics.specs.Table.{call_skip}
use Rattle.snap_runs.proofs.Algorithm.{Scanning}
use Rattle.snap_runs.proofs.Computing.{lt_true, le_true, same_number}
use Rattle.snap_runs.proofs.Held.{word_at}
use Rattle.snap_runs.proofs.Places.{for_each, for_each_at}
use Rattle.snap_runs.proofs.Steady.{Steady}
use Rattle.snap_runs_of_b.specs.Promises.{square, run_of}
use Rattle.snap_runs_of_b.proofs.Algorithm.{Registers, Variables, L12, L26, first_word, first_variables}
use Rattle.snap_runs_of_b.proofs.Algorithm.{first_registers, limit, moved_at, lines, algorithm}
use Rattle.snap_runs_of_b.proofs.Flows.{listed}
use Rattle.snap_runs_of_b.proofs.Runs.{execution}
use Rattle.snap_runs_sharp.specs.Reached.{Reaches, ScheduleOfBReaches}
use Rattle.snap_runs_sharp.specs.Schedules.{others, round_of_b, schedule_of_b}
use Rattle.snap_runs_sharp.proofs.Items.{turns_round, turns_schedule, steady}
use Rattle.snap_runs_sharp.proofs.Rounds.{Turned, rounds_reach}
use Rattle.snap_runs_sharp.proofs.Scenes.{round_leads}
use Rattle.snap_runs_sharp.proofs.WalksOfB.{Sized, first_collect, clean, whole_update, fails}

-- an update of a process's own word is admitted
admitted : (n i value : ℕ) → IsOneOf n i → call_skip kind.Bits (square n) i (Update i value) ≡ None
admitted n i value one = rw (lt_true 0 i one.0, le_true i n one.1, same_number i) refl

-- What is kept round after round: the processes from r + 2 on have not moved after r rounds.
record Kept (n r : ℕ) (m : Registers) (p : Variables) : Type 0 where
  first : p.j ≡ 1
  sized : Sized n p
  words : length m.words ≡ n
  few : (k : ℕ) → IsOneOf n k → moved_at p k < limit
  none : (k : ℕ) → IsOneOf n k → suc r < k → (moved_at p k ≡ 0) × ((word_at m.words k).toggle ≡ 0)

first_sized : (n : ℕ) → Sized n (first_variables n)
first_sized n = omega (arith, length-replicate (max n n) (first_word n), length-replicate {A = ℕ} (max n n) 0)

one_round : (n r : ℕ) → suc r ≤ others n → (m : Registers) (p : Variables) → Kept n r m p →
    Turned (algorithm n) L12 (λ c. c) (Kept n) r m p (round_of_b n r)
one_round n r le m p h =
    let some : 1 ≤ n = omega arith in
    let i = r + 2 in
    let at : IsOneOf n i = (omega arith, omega arith) in
    let collect = first_collect n 1 Scanning m p r some h.first h.sized in
    let m1 : Registers = record m { q = collect.q } in
    let p1 : Variables = record p { j = 1; a = collect.a; g = collect.g; marks = collect.marks } in
    let update = whole_update n i i i m1 (first_variables n) 0 some (first_sized n) in
    let ws = slice_set m.words (i - 1) update.0 in
    let m2 : Registers = record { words = ws; q = update.1 } in
    let none_i = h.none i at (omega arith) in
    let toggle : (word_at ws i).toggle ≡ 1 = ap (λ (w : Word). w.toggle)
    (get_or-set_at m.words (i - 1) (i - 1) update.0 no_word refl (omega (arith, h.words))) ∙ update.4 in
    let kept : (k : ℕ) → IsOneOf n k → k ≢ i → word_at ws k ≡ word_at m.words k =
    λ k k_one other. get_or-set_other m.words (i - 1) (k - 1) update.0 no_word (λ same. other (omega arith)) in
    let failed = fails n i m.words m2 p1 r some refl (omega (arith, h.sized, collect.size_a, collect.size_g))
    collect.copies collect.bits at (λ same. absurd (omega arith)) kept h.few none_i.0 in
    record {
      memory = m2;
      variables = failed.0;
      seat = update.2;
      leads = round_leads (algorithm n) (omega arith, some) (suc (suc r)) i i (6 * n) (11 * n + 10) (2 * n + 4)
          at (omega arith) (omega arith) refl (admitted n i i at) collect.walked update.3 failed.1;
      keeps = record {
        first = failed.2;
        sized = failed.3;
        words = length-set m.words (i - 1) update.0 ∙ h.words;
        few = failed.4.few;
        none = λ k k_one more.
            let other : k ≢ i = λ same. absurd (omega arith) in
            let old = h.none k k_one (omega arith) in
            (failed.4.unmoved k k_one other ∙ old.0, ap (λ (w : Word). w.toggle) (kept k k_one other) ∙ old.1);
      };
    }

-- after the call and the first two lines
abbrev opened : ℕ → Variables
opened n = record (first_variables n) { moved = for_each n (λ k. 0) (first_variables n).moved; j = 1 }

opening : (n : ℕ) → 1 ≤ n → Kept n 0 (first_registers n) (opened n)
opening n some =
    let zeros : (k : ℕ) → IsOneOf n k → moved_at (opened n) k ≡ 0 =
    λ k at. for_each_at n (λ k. 0) (first_variables n).moved k at in
    record {
      first = refl;
      sized = omega (arith, first_sized n);
      words = length-replicate n (first_word n);
      few = λ k at. omega (arith, zeros k at);
      none = λ k at more.
          (zeros k at, ap (λ (w : Word). w.toggle) (get_or-replicate n (k - 1) (first_word n) no_word (omega arith)));
    }

-- the schedule fits
fits : (n : ℕ) → 1 ≤ n → Steady (run_of n (schedule_of_b n))
fits n some =
    let one : IsOneOf n 1 = (omega arith, omega arith) in
    steady (run_of n (schedule_of_b n))
    (turns_schedule n (round_of_b n) (others n) 2 (8 * n + 2) one
    (λ r le. turns_round n (r + 2) (r + 2) (6 * n) (11 * n + 10) (2 * n + 4) one (omega arith, omega arith)))

pub schedule_of_b_reaches_lem : ScheduleOfBReaches
schedule_of_b_reaches_lem n counts =
    let all : suc (others n) ≡ n = omega arith in
    subst (λ bound. Reaches bound (run_of n (schedule_of_b n))) all
    (rounds_reach (algorithm n) L12 (λ c. c) (Kept n) lines (listed n) L26 2 (8 * n + 2) (others n) (round_of_b n)
    (opened n) (omega arith) refl (opening n (omega arith)) (one_round n)
    (λ m p h. let end = clean n 1 Scanning m p (others n) (omega arith) h.first h.sized in
    (record m { q = end.0 }, end.1, end.2))
    (λ m p. refl) (execution n (schedule_of_b n) (fits n (omega arith))) refl)
