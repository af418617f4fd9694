-- The schedule of M by which a scan makes 2 n - 1 double collects: each
-- of the other processes moves twice, and then the scan passes its test.
use Rattle.std.proofs.Common.{◌≡◌, ◌≢◌, ℕ, suc, ◌+◌, ◌*◌, ◌-◌, ◌<◌, ◌≤◌, max, false, ◌&&◌, length}
use Rattle.std.proofs.Common.{None, nat_eq, refl, sym, ◌∙◌, ap, subst, arith}
use Rattle.std.proofs.Math.Bool.{and-false}
use Rattle.std.proofs.lemmas.Grind.{get_or-set_at}
use Rattle.std.proofs.lemmas.List.{length-set, length-replicate, get_or-set_other, get_or-replicate}
use Rattle.std.proofs.lemmas.List.Elements.{All-append}
use Rattle.snap_words.specs.declared.kind.KindTag.TheVariants as kind
use Rattle.snap_runs.proofs.Common.{IsOneOf, Word, no_word, Update}
use Rattle.snap_words.specs.Shape.{max_count}
use Rattle.snap_semantics.specs.Table.{call_skip}
use Rattle.snap_runs.proofs.Algorithm.{Scanning, Idle}
use Rattle.snap_runs.proofs.Computing.{le_true, other_number}
use Rattle.snap_runs.proofs.Held.{word_at}
use Rattle.snap_runs.proofs.Places.{for_each, for_each_at}
use Rattle.snap_runs.proofs.Steady.{Steady}
use Rattle.snap_runs_of_m.specs.Promises.{counts, run_of}
use Rattle.snap_runs_of_m.proofs.Algorithm.{Words, Registers, Variables, ProgramCounter, L13, L35, first_word}
use Rattle.snap_runs_of_m.proofs.Algorithm.{first_variables, first_memory, place, limit, flip, same_words, lines}
use Rattle.snap_runs_of_m.proofs.Algorithm.{algorithm}
use Rattle.snap_runs_of_m.proofs.Basics.{flip_other}
use Rattle.snap_runs_of_m.proofs.Flows.{listed}
use Rattle.snap_runs_of_m.proofs.Runs.{execution}
use Rattle.snap_runs_sharp.specs.Reached.{Reaches, ScheduleOfMReaches}
use Rattle.snap_runs_sharp.specs.Schedules.{others, round_with}
use Rattle.snap_runs_sharp.specs.Schedules.{turn_of_m, round_of_m, schedule_of_m}
use Rattle.snap_runs_sharp.proofs.Alone.{Seat, seated, standing}
use Rattle.snap_runs_sharp.proofs.Items.{IsTurn, AreTurns, turns_round, turns_schedule}
use Rattle.snap_runs_sharp.proofs.Items.{steady}
use Rattle.snap_runs_sharp.proofs.Filling.{Moved}
use Rattle.snap_runs_sharp.proofs.Rounds.{Turned, rounds_reach}
use Rattle.snap_runs_sharp.proofs.Scenes.{Leads, leads_on, Beside, round_leads}
use Rattle.snap_runs_sharp.proofs.WalksOfM.{Sized, first_collect, clean, fails, whole_update}

-- an update of word 1 is admitted
admitted : (n w i value : ℕ) → 1 ≤ w → call_skip kind.Multi (counts n w) i (Update 1 value) ≡ None
admitted n w i value some = rw (le_true 1 w some) refl

-- an idle process with these variables
abbrev idle_with : Variables → ℕ → Seat Variables ProgramCounter
idle_with v e = seated Idle v e

-- what a scan at the start of a double collect keeps
record Scanner (n w : ℕ) (m : Registers) (p : Variables) : Type 0 where
  first_j : p.j ≡ 1
  first_k : p.k ≡ 1
  sized : Sized n w p
  words : length m.words ≡ w

-- A failed double collect, in which process i updates word 1.
record Failed (n w i c e : ℕ) (m : Registers) (p v : Variables) : Type 0 where
  memory : Registers
  variables : Variables
  others : Variables
  leads : Leads (algorithm n w) (Beside (algorithm n w) i i (standing Scanning m p L13 c) (idle_with v e))
      (round_with i 1 (4 * n + 2 * w) (10 * n + 6 * w + 14) (3 * n + 4 * w + 8))
      (Beside (algorithm n w) i i (standing Scanning memory variables L13 (suc c)) (idle_with others 1))
  keeps : Scanner n w memory variables
  sized : Sized n w others
  id : (word_at memory.words 1).id ≡ i
  toggle : (word_at memory.words 1).toggle ≡ flip (place v.tog 1)
  tog : place others.tog 1 ≡ flip (place v.tog 1)
  moves : Moved n i limit p.moved variables.moved

turns : (n w i c e : ℕ) (m : Registers) (p v : Variables) →
    IsOneOf n i → 1 < i → 1 ≤ w → Scanner n w m p → Sized n w v →
    ((x : Word) → x.id ≡ i → x.toggle ≡ flip (place v.tog 1) → same_words (word_at m.words 1) x ≡ false) →
    ((k : ℕ) → IsOneOf n k → place p.moved k < limit) → place p.moved i + 1 < limit → Failed n w i c e m p v
turns n w i c e m p v at other some h sized differ few_all few =
    let one : IsOneOf n 1 = (omega arith, omega arith) in
    let collect = first_collect n w 1 Scanning m p c (omega arith) some h.first_j h.first_k h.sized in
    let m1 : Registers = record m { q = collect.q } in
    let p1 : Variables = record p { j = 1; k = 1; x = collect.x; g = collect.g; a = collect.a } in
    let sized1 : Sized n w p1 = omega (arith, h.sized, collect.size_a, collect.size_g) in
    let update = whole_update n w i 1 i m1 v e (omega arith) some (omega arith) (omega arith, some) sized in
    let m2 = update.memory in
    let put_is : word_at m2.words 1 ≡ update.put =
    ap (λ (ws : Words). word_at ws 1) update.words_are
    ∙ get_or-set_at m.words (1 - 1) (1 - 1) update.put no_word refl (omega arith) in
    let same : (k : ℕ) → 1 < k → k ≤ w → word_at m2.words k ≡ word_at m.words k =
    λ k lt le. ap (λ (ws : Words). word_at ws k) update.words_are ∙ get_or-set_other m.words (1 - 1) (k - 1) update.put
    no_word (λ is. absurd (omega arith)) in
    let id : (word_at m2.words 1).id ≡ i = ap (λ (x : Word). x.id) put_is ∙ update.id in
    let toggle : (word_at m2.words 1).toggle ≡ flip (place v.tog 1) =
    ap (λ (x : Word). x.toggle) put_is ∙ update.toggle in
    let failed = fails n w i m m2 p1 c (omega arith) some refl refl sized1 collect.copies collect.bits at id
    (differ (word_at m2.words 1) id toggle) same
    (λ k k_one k_other. update.bits k 1 k_one.0 k_other) few_all few in
    record {
      memory = m2;
      variables = failed.0;
      others = update.variables;
      leads = round_leads (algorithm n w) one i i 1 (4 * n + 2 * w) (10 * n + 6 * w + 14) (3 * n + 4 * w + 8)
          at other (omega arith) refl (admitted n w i i some) collect.walked update.walked failed.1;
      keeps = record {
        first_j = failed.2;
        first_k = failed.3;
        sized = failed.4;
        words = ap length update.words_are ∙ length-set m.words (1 - 1) update.put ∙ h.words;
      };
      sized = update.sized;
      id = id;
      toggle = toggle;
      tog = update.tog;
      moves = failed.5;
    }

-- What is kept round after round: the processes from r + 2 on have not moved after r rounds.
record Kept (n w r : ℕ) (m : Registers) (p : Variables) : Type 0 where
  keeps : Scanner n w m p
  id : (word_at m.words 1).id ≤ suc r
  few : (k : ℕ) → IsOneOf n k → place p.moved k < limit
  none : (k : ℕ) → IsOneOf n k → suc r < k → place p.moved k ≡ 0

first_sized : (n w : ℕ) → Sized n w (first_variables n w)
first_sized n w = omega (arith, length-replicate (max n w) first_word, length-replicate {A = ℕ} (max n w) 0)

one_round : (n w r : ℕ) → 1 ≤ w → suc r ≤ others n → (m : Registers) (p : Variables) → Kept n w r m p →
    Turned (algorithm n w) L13 (λ r. 2 * r) (Kept n w) r m p (round_of_m n w r)
one_round n w r some le m p h =
    let a = algorithm n w in
    let i = r + 2 in
    let at : IsOneOf n i = (omega arith, omega arith) in
    let v = first_variables n w in
    let none_i : place p.moved i ≡ 0 = h.none i at (omega arith) in
    let first = turns n w i (2 * r) 0 m p v at (omega arith) some h.keeps (first_sized n w)
    (λ y id toggle. ap (λ b. b && nat_eq (word_at m.words 1).toggle y.toggle)
    (other_number (word_at m.words 1).id y.id (λ is. absurd (omega arith)))) h.few (omega arith) in
    let m1 = first.memory in
    let second =
    turns n w i (suc (2 * r)) 1 m1 first.variables first.others at (omega arith) some first.keeps first.sized
    (λ y id toggle.
    let flips : y.toggle ≡ flip (word_at m1.words 1).toggle = toggle ∙ ap flip (first.tog ∙ sym first.toggle) in
    let differ : (word_at m1.words 1).toggle ≢ y.toggle =
    λ is. flip_other (word_at m1.words 1).toggle (sym flips ∙ sym is) in
    rw (other_number (word_at m1.words 1).toggle y.toggle differ, and-false) refl)
    first.moves.few (omega (arith, first.moves.moved)) in
    let turn = turn_of_m n w r in
    let before = standing Scanning m p L13 (2 * r) in
    let between = standing Scanning m1 first.variables L13 (suc (2 * r)) in
    let after = standing Scanning second.memory second.variables L13 (suc (suc (2 * r))) in
    let leads = leads_on a (Beside a i i before (idle_with v 0)) (Beside a i i between (idle_with first.others 1))
    (Beside a i i after (idle_with second.others 1)) turn turn first.leads second.leads in
    record {
      memory = second.memory;
      variables = second.variables;
      seat = idle_with second.others 1;
      leads =
          let twice : 2 * suc r ≡ suc (suc (2 * r)) = omega arith in
          let next : suc (suc r) ≡ i = omega arith in rw (twice, next) leads;
      keeps = record {
        keeps = second.keeps;
        id = omega (arith, second.id);
        few = second.moves.few;
        none = λ k k_one more.
            let other : k ≢ i = λ is. absurd (omega arith) in
            second.moves.unmoved k k_one other ∙ first.moves.unmoved k k_one other ∙ h.none k k_one (omega arith);
      };
    }

-- after the call and the first three lines
abbrev opened : ℕ → ℕ → Variables
opened n w =
    record (first_variables n w) { moved = for_each n (λ k. 0) (first_variables n w).moved; j = 1; k = 1 }

opening : (n w : ℕ) → 1 ≤ n → 1 ≤ w → Kept n w 0 (first_memory n w) (opened n w)
opening n w some words =
    let zeros : (k : ℕ) → IsOneOf n k → place (opened n w).moved k ≡ 0 =
    λ k at. for_each_at n (λ k. 0) (first_variables n w).moved k at in
    record {
      keeps = record {
        first_j = refl;
        first_k = refl;
        sized = omega (arith, first_sized n w);
        words = length-replicate w first_word;
      };
      id = omega (arith, ap (λ (y : Word). y.id) (get_or-replicate w (1 - 1) first_word no_word (omega arith)));
      few = λ k at. omega (arith, zeros k at);
      none = λ k at more. zeros k at;
    }

-- the schedule fits
fits : (n w : ℕ) → 1 ≤ n → Steady (run_of n w (schedule_of_m n w))
fits n w some =
    let one : IsOneOf n 1 = (omega arith, omega arith) in
    let turn : (r : ℕ) → suc r ≤ others n → AreTurns n (turn_of_m n w r) =
    λ r le.
    turns_round n (r + 2) 1 (4 * n + 2 * w) (10 * n + 6 * w + 14) (3 * n + 4 * w + 8) one (omega arith, omega arith) in
    steady (run_of n w (schedule_of_m n w))
    (turns_schedule n (round_of_m n w) (others n) 3 (7 * n + 6 * w + 4) one
    (λ r le. All-append (IsTurn n) (turn_of_m n w r) (turn_of_m n w r) (turn r le) (turn r le)))

pub schedule_of_m_reaches_lem : ScheduleOfMReaches
schedule_of_m_reaches_lem n w shape =
    let of_n : IsOneOf max_count n = shape.0 in
    let of_w : IsOneOf max_count w = shape.1 in
    let some : 1 ≤ w = omega arith in
    let all : suc (2 * others n) ≡ 2 * n - 1 = omega arith in
    subst (λ bound. Reaches bound (run_of n w (schedule_of_m n w))) all
    (rounds_reach (algorithm n w) L13 (λ r. 2 * r) (Kept n w) lines (listed n w) L35 3 (7 * n + 6 * w + 4) (others n)
    (round_of_m n w) (opened n w) (omega arith) refl (opening n w (omega arith) some) (λ r le. one_round n w r some le)
    (λ m p h. let end =
    clean n w 1 Scanning m p (2 * others n) (omega arith) some h.keeps.first_j h.keeps.first_k h.keeps.sized in
    (record m { q = end.0 }, end.1, end.2))
    (λ m p. refl)
    (execution n w (schedule_of_m n w) some (fits n w (omega arith))) refl)
