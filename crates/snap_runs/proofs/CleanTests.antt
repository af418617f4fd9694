-- A passed test of any algorithm whose words count their writes is
-- clean: what was read in both collects was not written between.
use Rattle.std.proofs.Common.{◌≡◌, ℕ, zero, suc, ◌+◌, ◌-◌, ◌<◌, ◌≤◌, ◌⊎◌, true, false, List, length, Option, Some}
use Rattle.std.proofs.Common.{nat_eq, sym, ◌∙◌, ap, subst, arith, inl, inr}
use Rattle.std.proofs.lemmas.Bool.{cases_eq}
use Rattle.std.proofs.lemmas.Grind.{get_or-set_at}
use Rattle.std.proofs.lemmas.List.{get_or-set_other}
use Rattle.snap_runs.proofs.Common.{IsOneOf, Word, no_word, Process, process_at, Item, Op, Run, state}
use Rattle.snap_semantics.specs.State.{value_at}
use Rattle.snap_runs.specs.Scan.{PendingScan, ends_double_collect, double_collects}
use Rattle.snap_runs.specs.Update.{is_at, executes}
use Rattle.snap_runs.specs.Promises.{CollectLines, ExecutesFor, IsUpdating, WritesWord, CleanReads}
use Rattle.snap_runs.proofs.Algorithm.{Mode, Updating, At, WhenBusy, TypedProcess, Algorithm, typed_at}
use Rattle.snap_runs.proofs.Algorithm.{typed_state, status_of}
use Rattle.snap_runs.proofs.Collecting as collecting
use Rattle.snap_runs.proofs.Collecting.{Copies, Phase, Away, ReadsFirst, ReadsSecond, Collected}
use Rattle.snap_runs.proofs.Computing.{from_there}
use Rattle.snap_runs.proofs.Counting.{count_later}
use Rattle.snap_runs.proofs.Embedding as embed
use Rattle.snap_runs.proofs.Executing as executing
use Rattle.snap_runs.proofs.Flow.{Lines, IsUpdateOf}
use Rattle.snap_runs.proofs.Held.{seq_at}
use Rattle.snap_runs.proofs.ItemCases as cases
use Rattle.snap_runs.proofs.ScanSpan as span
use Rattle.snap_runs.proofs.Scans as scans
use Rattle.snap_runs.proofs.WordWrites as writes

module _ {V P M : Type 0} (a : Algorithm V P M) (lines : Lines V P M) (line : ℕ) (writer : writes.Writer a lines line)
    (listed : scans.Listed a lines)
    (run : scans.Execution a lines)
    (updates : (t i : ℕ) (d : Mode) → t < length run.items → IsOneOf a.shape.n i →
    (typed_at a (typed_state a run.items t) i).control ≡ At d writer.counter → IsUpdateOf (writer.Owned i) d)
    (numbered : executing.Numbered a) (its : numbered.counter_with line ≡ Some writer.counter) where
  abbrev items : List Item
  items = run.items

  abbrev r : Run
  r = embed.run_of a items

  abbrev at : ℕ → ℕ → TypedProcess V P M
  at t i = typed_at a (typed_state a items t) i

  abbrev words : ℕ → List Word
  words t = writes.words_at a lines line writer run t

  -- each write of a word counts one more
  pub record Counts : Type 0 where
    pub sizes : (t : ℕ) → t ≤ length items → length (words t) ≡ a.shape.w
    pub counts : (t k word value : ℕ) → t < length items → IsOneOf a.shape.n k →
        (at t k).control ≡ At (Updating word value) writer.counter → writer.Owned k word →
        (writer.put k word value (typed_state a items t).memory (at t k).variables).seq ≡ seq_at (words t) word + 1

  module _ (counting : Counts) where
    -- a write of a word by process j
    counted : (t j word : ℕ) → t < length items → IsOneOf a.shape.w word →
        (w : writes.Written a lines line writer run updates t j) → IsOneOf a.shape.n j → w.word ≡ word →
        seq_at (words (suc t)) word ≡ seq_at (words t) word + 1
    counted t j word short one w jone same =
        let size : length (words t) ≡ a.shape.w = counting.sizes t (omega arith) in
        let new : Word = writer.put j w.word w.value (typed_state a items t).memory (at t j).variables in
        ap (λ ws. seq_at ws word) w.words_are
        ∙ ap (λ (x : Word). x.seq)
        (get_or-set_at (words t) (w.word - 1) (word - 1) new no_word (ap (λ y. y - 1) (sym same)) (omega arith))
        ∙ counting.counts t j w.word w.value short jone w.control w.owned ∙ ap (λ y. seq_at (words t) y + 1) same

    -- no item makes a count less
    next_count : (t k : ℕ) → t < length items → IsOneOf a.shape.w k → seq_at (words t) k ≤ seq_at (words (suc t)) k
    next_count t k short one =
        elim (writes.words_change a lines line writer run t short) [
          | inl same ↦
              (let e : seq_at (words (suc t)) k ≡ seq_at (words t) k = ap (λ ws. seq_at ws k) same in omega arith)
          | inr step ↦ (
              let jone = executing.one_of a items run.fits run.does t step.0 short step.2 in
              let w = writes.written a lines line writer run updates t step.0 step.1 short step.2 step.3 in
              elim (cases_eq k w.word) [
                | inl same ↦
                    (let e : seq_at (words (suc t)) k ≡ seq_at (words t) k + 1 =
                    counted t step.0 k short one w jone (sym same) in omega arith)
                | inr other ↦ (
                    let owned : IsOneOf a.shape.w w.word = writer.is_word step.0 w.word jone w.owned in
                    let e : seq_at (words (suc t)) k ≡ seq_at (words t) k =
                    ap (λ ws. seq_at ws k) w.words_are
                    ∙ ap (λ (x : Word). x.seq) (get_or-set_other (words t) (w.word - 1) (k - 1)
                    (writer.put step.0 w.word w.value (typed_state a items t).memory (at t step.0).variables) no_word
                    (λ same. other (omega arith))) in
                    omega arith)
              ])
        ]

    pub count_grows : (k u t : ℕ) → IsOneOf a.shape.w k → u ≤ t → t ≤ length items →
        seq_at (words u) k ≤ seq_at (words t) k
    count_grows k u t one le short =
        from_there (λ v. seq_at (words u) k ≤ seq_at (words v) k) u t le (omega arith)
        (λ v low high past. let next = next_count v k (omega arith) one in omega arith)

    -- where some process writes word k, its count is one more
    written_more : (t k : ℕ) → t < length items → IsOneOf a.shape.w k → WritesWord r line k (suc t) →
        seq_at (words t) k < seq_at (words (suc t)) k
    written_more t k short one w =
        let j = w.0 in
        let there = executing.stands_at a items run.fits run.does numbered t j line writer.counter short w.1 its w.2 in
        let x = writes.written a lines line writer run updates t j there.1.0 short there.0 there.1.1 in
        let op = subst (λ (p : Process). IsUpdating k p.status)
        (embed.busy_at a items run.fits run.does t j (Updating x.word x.value) writer.counter (omega arith) w.1
        x.control) w.3 in
        let same : x.word ≡ k = cc in
        let e2 : seq_at (words (suc t)) k ≡ seq_at (words t) k + 1 = counted t j k short one x w.1 same in omega arith

    module _ (c : Copies V P M) (names : CollectLines) (test : P) where
      -- what the listing says of its double collects
      pub record Collects : Type 0 where
        pub words_are : (t : ℕ) → c.words (typed_state a items t).memory ≡ words t
        pub places : c.places ≡ a.shape.w
        pub reaches : (t i : ℕ) → t < length items → IsOneOf a.shape.n i →
            WhenBusy (λ d k. collecting.Reaches a c (typed_state a items t).memory (at t i).variables k
            (a.move i d (typed_state a items t).memory (at t i).variables k)) (at t i).control
        pub quiet : (k : P) → (c.phase k ≡ Away) ⊎ (a.restarts k ≡ false)
        pub away : (op : Op) → c.phase (a.counter op) ≡ Away
        pub first : (k : P) → c.phase k ≡ ReadsFirst → nat_eq (a.number k) names.first ≡ true
        pub second : (k : P) → c.phase k ≡ ReadsSecond → nat_eq (a.number k) names.second ≡ true
        pub scalar : (p : V) → value_at names.scalar (a.locals_of p).scalars 0 ≡ c.index p
        pub tests : numbered.counter_with names.test ≡ Some test
        pub collected : c.phase test ≡ Collected
        pub ends : a.tests test ≡ 1
        -- no double collect has ended since it was started
        pub fresh : (t i : ℕ) (d : Mode) → t ≤ length items → IsOneOf a.shape.n i →
            (at t i).control ≡ At d test → (at t i).auxiliary.tested ≡ 0
        -- where it passes, both copies have equal counts
        pub agree : (t i : ℕ) (d : Mode) → t ≤ length items → IsOneOf a.shape.n i → (at t i).control ≡ At d test →
            is_at names.passed (status_of a (cases.moved a (suc t) (at t i) test
            (a.move i d (typed_state a items t).memory (at t i).variables test)).control)
            ≡ true → (k : ℕ) → IsOneOf a.shape.w k →
            seq_at (c.first (at t i).variables) k ≡ seq_at (c.second (at t i).variables) k

      module _ (h : Collects) (i : ℕ) (one : IsOneOf a.shape.n i) where
        abbrev Reading : Phase → ℕ → ℕ → Type 0
        Reading phase k t = collecting.Reading a c items run.fits run.does h.reaches h.quiet h.away i one phase k t

        read_at : (phase : Phase) (number k t : ℕ) →
            ((l : P) → c.phase l ≡ phase → nat_eq (a.number l) number ≡ true) → t < length items → Reading phase k t →
            ExecutesFor r i number names.scalar k (suc t)
        read_at phase number k t lines_are short x = (
          executing.line_executes a items run.fits run.does t i number x.mode x.line short x.item x.control
              (lines_are x.line x.is),
          ap (λ (p : Process). value_at names.scalar p.locals.scalars 0)
              (embed.busy_at a items run.fits run.does t i x.mode x.line (omega arith) one x.control)
              ∙ h.scalar (at t i).variables ∙ x.place,
        )

        abbrev Both : ℕ → ℕ → V → ℕ → Type 0
        Both s t p j = collecting.Both a c items run.fits run.does h.reaches h.quiet h.away i one s t p j

        -- the reads of one word before a passed test
        reads : (link : Option ℕ) (c0 t k : ℕ) (d : Mode) → PendingScan r i link c0 (suc t) →
            c0 ≤ t → (at t i).control ≡ At d test → IsOneOf a.shape.w k →
            seq_at (c.first (at t i).variables) k ≡ seq_at (c.second (at t i).variables) k →
            (b : Both (at t i).auxiliary.round t (at t i).variables (c.places + 1)) →
            CleanReads r names line i c0 (suc t) b.middle k
        reads link c0 t k d scan le there one_k equal b =
            let g = scans.goes a lines listed run i one link c0 (suc t) t scan le (omega arith) in
            let round = (at t i).auxiliary.round in
            let place : IsOneOf c.places k = subst (λ y. IsOneOf y k) (sym h.places) one_k in
            let x = b.first k place in
            let y = b.second k place (omega arith) in
            let none : (at t i).auxiliary.tested ≡ 0 = h.fresh t i d (omega arith) one there in
            let more : double_collects r i round (suc t) ≤ double_collects r i round t + a.tests test =
            span.last_collects a listed.tested items run.fits run.does
            (scans.lawful a lines listed run) i one round t d test g.round_before (omega arith) there in
            let fewer : double_collects r i (suc x.time) (suc t) ≤ double_collects r i round (suc t) =
            count_later (ends_double_collect r i) round (suc x.time) (suc t) (omega arith) in
            let first_count : seq_at (c.first (at t i).variables) k ≡ seq_at (words x.time) k =
            ap (λ (w : Word). w.seq) x.copy ∙ ap (λ ws. seq_at ws k) (h.words_are x.time) in
            let second_count : seq_at (c.second (at t i).variables) k ≡ seq_at (words y.time) k =
            ap (λ (w : Word). w.seq) y.copy ∙ ap (λ ws. seq_at ws k) (h.words_are y.time) in
            record {
              first = suc x.time;
              second = suc y.time;
              reads_first = read_at ReadsFirst names.first k x.time h.first (omega arith) x.reading;
              reads_second = read_at ReadsSecond names.second k y.time h.second (omega arith) y.reading;
              after_start = omega arith;
              recent = omega arith;
              before_middle = omega arith;
              after_middle = omega arith;
              before_test = omega arith;
              unwritten = λ u lo hi w. unwritten k x.time y.time u one_k (omega arith) (omega arith) lo hi w;
            }
          where
            unwritten : (k u1 u2 u : ℕ) → IsOneOf a.shape.w k → seq_at (words u1) k ≡ seq_at (words u2) k →
                u2 ≤ length items → suc u1 < u → u < suc u2 → WritesWord r line k u → ⊥
            unwritten k u1 u2 zero one_k same short lo hi w = absurd (omega arith)
            unwritten k u1 u2 (suc u) one_k same short lo hi w =
                let more : seq_at (words u) k < seq_at (words (suc u)) k = written_more u k (omega arith) one_k w in
                let before : seq_at (words u1) k ≤ seq_at (words u) k =
                count_grows k u1 u one_k (omega arith) (omega arith) in
                let behind : seq_at (words (suc u)) k ≤ seq_at (words u2) k =
                count_grows k (suc u) u2 one_k (omega arith) short in
                omega arith

        pub passed_test : (link : Option ℕ) (c0 t : ℕ) → PendingScan r i link c0 (suc t) →
            c0 ≤ t → executes r i names.test (suc t) ≡ true →
            is_at names.passed (process_at (state r (suc t)) i).status ≡ true →
            (middle : ℕ) × ((k : ℕ) → IsOneOf a.shape.w k → CleanReads r names line i c0 (suc t) middle k)
        passed_test link c0 t scan le ex passes =
            let there =
            executing.stands_at a items run.fits run.does numbered t i names.test test (omega arith) one h.tests ex in
            let d = there.1.0 in
            let next = cases.after_step a items run.fits run.does i one t d test there.0 there.1.1 in
            let to : is_at names.passed (status_of a (cases.moved a (suc t) (at t i) test
            (a.move i d (typed_state a items t).memory (at t i).variables test)).control) ≡ true =
            ap (λ (q : TypedProcess V P M). is_at names.passed (status_of a q.control)) (sym next)
            ∙ sym (ap (λ (p : Process). is_at names.passed p.status)
            (embed.process_at_is a items run.fits run.does (suc t) i (omega arith) one)) ∙ passes in
            let progress =
            (collecting.tracked a c items run.fits run.does h.reaches h.quiet h.away i one t (omega arith)).1 in
            let there_progress =
            subst (WhenBusy (λ d k. collecting.Progress a c items run.fits run.does h.reaches h.quiet h.away i one
            (at t i).auxiliary.round t (at t i).variables (c.phase k))) there.1.1 progress in
            let both : Both (at t i).auxiliary.round t (at t i).variables (c.places + 1) =
            subst (collecting.Progress a c items run.fits run.does h.reaches h.quiet h.away i one
            (at t i).auxiliary.round t (at t i).variables) h.collected there_progress in (
              both.middle,
              λ k one_k. reads link c0 t k d scan le there.1.1 one_k
                  (h.agree t i d (omega arith) one there.1.1 to k one_k) both,
            )
