-- Borrowed views, for any algorithm: a view that stood beside the second or
-- a later write since a scan's start is that of an embedded scan within it.
use Rattle.std.specs.Prelude.{◌≡◌, ◌≢◌, ℕ, zero, suc, ◌+◌, ◌-◌, ◌<◌, ◌≤◌, true, List, length, Option, Some, None, refl}
use Rattle.std.proofs.Common.{sym, ◌∙◌, ap, subst, arith, inl, inr}
use Rattle.std.proofs.lemmas.Grind.{get_or-set_at}
use Rattle.std.proofs.Math.Nat.{eq-or-lt_of_le}
use Rattle.snap_runs.proofs.Common.{IsOneOf, Word, no_word, who, Item, Op, Run, item}
use Rattle.snap_runs.specs.Scan.{Starts, FinishedScan}
use Rattle.snap_runs.specs.Update.{executes}
use Rattle.snap_runs.specs.Promises.{LentView}
use Rattle.snap_runs.proofs.Algorithm.{Mode, Updating, At, TypedProcess, Algorithm, typed_at, typed_state}
use Rattle.snap_runs.proofs.EmbeddedScans as embedded
use Rattle.snap_runs.proofs.Embedding as embed
use Rattle.snap_runs.proofs.Executing as executing
use Rattle.snap_runs.proofs.Flow.{Lines, IsUpdateOf}
use Rattle.snap_runs.proofs.Flow as flow
use Rattle.snap_runs.proofs.Held.{word_at, seq_at}
use Rattle.snap_runs.proofs.Scans as scans
use Rattle.snap_runs.proofs.WordWrites as writes

-- the process that starts a scan
starter : (r : Run) (i c : ℕ) (link : Option ℕ) → Starts r i c link → who (item r c) ≡ i
starter r i c None h = ap who h.0
starter r i c (Some l) h = ap who h.0

module _ {V P M : Type 0} (a : Algorithm V P M) (lines : Lines V P M) (line : ℕ) (writer : writes.Writer a lines line)
    (listed : scans.Listed a lines)
    (run : scans.Execution a lines)
    (updates : (t i : ℕ) (d : Mode) → t < length run.items → IsOneOf a.shape.n i →
    (typed_at a (typed_state a run.items t) i).control ≡ At d writer.counter → IsUpdateOf (writer.Owned i) d)
    (numbered : executing.Numbered a) (its : numbered.counter_with line ≡ Some writer.counter)
    (own : (i word : ℕ) → writer.Owned i word → word ≡ i) where
  abbrev items : List Item
  items = run.items

  abbrev r : Run
  r = embed.run_of a items

  abbrev at : ℕ → ℕ → TypedProcess V P M
  at t i = typed_at a (typed_state a items t) i

  abbrev words : ℕ → List Word
  words t = writes.words_at a lines line writer run t

  -- the last write of a word that has been written since
  record LastWrite (j from u : ℕ) : Type 0 where
    time : ℕ
    after : from ≤ time
    before : time < u
    executed : executes r j line (suc time) ≡ true
    stays : word_at (words u) j ≡ word_at (words (suc time)) j

  last_write : (j from u : ℕ) → IsOneOf a.shape.n j → from ≤ u → u ≤ length items →
      seq_at (words from) j < seq_at (words u) j → LastWrite j from u
  last_write j from zero one le short more =
      absurd (let e : seq_at (words 0) j ≡ seq_at (words from) j =
      ap (λ y. seq_at (words y) j) (let z : 0 ≡ from = omega arith in z) in omega arith)
  last_write j from (suc u) one le short more =
      elim (eq-or-lt_of_le le) [
        | inl same ↦
            absurd (let e : seq_at (words from) j ≡ seq_at (words (suc u)) j = ap (λ y. seq_at (words y) j) same in
            omega arith)
        | inr less ↦ elim (writes.word_changes a lines line writer run updates own j u one (omega arith)) [
          | inl wrote ↦ record { time = u; after = omega arith; before = omega arith; executed = wrote; stays = refl }
          | inr same ↦ (let e : seq_at (words (suc u)) j ≡ seq_at (words u) j = ap (λ (w : Word). w.seq) same in
              let rest : LastWrite j from u = last_write j from u one (omega arith) (omega arith) (omega arith) in
              record {
                time = rest.time;
                after = rest.after;
                before = omega arith;
                executed = rest.executed;
                stays = same ∙ rest.stays;
              })
        ]
      ]

  -- what the listing keeps of its views
  pub record Lends : Type 0 where
    -- there is a word for each process
    pub sizes : (t : ℕ) → t ≤ length items → length (words t) ≡ a.shape.n
    -- a view that is made after a word was written since a scan's start is made by a scan that started no earlier
    pub pairs : (t i k : ℕ) → t ≤ length items → IsOneOf a.shape.n i → IsOneOf a.shape.n k →
        flow.Making lines (at t k).control → seq_at (words (at t i).auxiliary.since) k < seq_at (words t) k →
        (at t i).auxiliary.since ≤ (at t k).auxiliary.since
    -- a write is one more, with the view that was made
    pub counts : (t k word value : ℕ) → t < length items → IsOneOf a.shape.n k →
        (at t k).control ≡ At (Updating word value) writer.counter →
        (writer.put k word value (typed_state a items t).memory (at t k).variables).seq ≡ seq_at (words t) k + 1
    pub views : (t k word value : ℕ) → (writer.put k word value (typed_state a items t).memory (at t k).variables).view
        ≡ lines.answer (at t k).variables
    pub late : lines.IsLate writer.counter
    pub not_late : (op : Op) → lines.IsLate (a.counter op) → ⊥

  module _ (lends : Lends) where
    -- a scan that ends after state u, at which word j had two writes or more since its start
    pub lent_view : (i : ℕ) (link : Option ℕ) (c t : ℕ) (view : List ℕ) →
        FinishedScan r i link c (suc t) view → (j u : ℕ) → IsOneOf a.shape.n j → c ≤ u → u ≤ t →
        seq_at (words c) j + 2 ≤ seq_at (words u) j → (word_at (words u) j).view ≡ view → LentView r i c (suc t) view
    lent_view i link c t view ends j u jone from to two is =
        let w : LastWrite j c u = last_write j c u jone from (omega arith) (omega arith) in
        let v = w.time in
        let short : v < length items = omega arith in
        let there =
        executing.stands_at a items run.fits run.does numbered v j line writer.counter short jone its w.executed in
        let wrote = writes.written a lines line writer run updates v j there.1.0 short there.0 there.1.1 in
        let owned : wrote.word ≡ j = own j wrote.word wrote.owned in
        let size : length (words v) ≡ a.shape.n = lends.sizes v (omega arith) in
        let new : Word = writer.put j wrote.word wrote.value (typed_state a items v).memory (at v j).variables in
        let now : word_at (words u) j ≡ new =
        w.stays ∙ ap (λ ws. word_at ws j) wrote.words_are
        ∙ get_or-set_at (words v) (wrote.word - 1) (j - 1) new no_word (ap (λ y. y - 1) (sym owned)) (omega arith) in
        let count : new.seq ≡ seq_at (words v) j + 1 =
        lends.counts v j wrote.word wrote.value short jone wrote.control in
        let its_count : seq_at (words u) j ≡ new.seq = ap (λ (x : Word). x.seq) now in
        let g = scans.goes a lines listed run i ends.scan.process link c (suc t) v ends.scan w.after (omega arith) in
        let making : flow.Making lines (at v j).control = subst (flow.Making lines) (sym wrote.control) lends.late in
        let no_earlier : c ≤ (at v j).auxiliary.since =
        subst (λ s. s ≤ (at v j).auxiliary.since) g.since
        (lends.pairs v i j (omega arith) ends.scan.process jone making
        (subst (λ s. seq_at (words s) j < seq_at (words v) j) (sym g.since) (omega arith))) in
        let lent =
        embedded.lending a lines listed run lends.not_late j jone v wrote.word wrote.value writer.counter
        (omega arith) wrote.control lends.late in
        let its_view : lines.answer (at v j).variables ≡ view =
        sym (lends.views v j wrote.word wrote.value) ∙ sym (ap (λ (x : Word). x.view) now) ∙ is in
        let other : j ≢ i =
        λ same. flow.not_update (writer.Owned j) g.mode (flow.in_scan lines a link g.mode g.inside)
        (subst (IsUpdateOf (writer.Owned j)) (let e : At there.1.0 writer.counter ≡ At g.mode g.counter =
        sym there.1.1 ∙ ap (λ y. (at v y).control) same ∙ g.control in let f : there.1.0 ≡ g.mode = cc in f)
        (updates v j there.1.0 short jone there.1.1)) in
        let differ : (at v j).auxiliary.since ≢ c =
        λ same. other (sym (starter r j (at v j).auxiliary.since (Some a.back) lent.scan.scan.starts) ∙ ap
        (λ y. who (item r y)) same
        ∙ starter r i c link ends.scan.starts) in
        record {
          lender = j;
          other = other;
          link = a.back;
          from = (at v j).auxiliary.since;
          to = lent.to;
          after_start = (elim (eq-or-lt_of_le no_earlier) [ inl same ↦ absurd (differ (sym same)) | inr less ↦ less ]);
          before_end = omega arith;
          scan = subst (λ y. FinishedScan r j (Some a.back) (at v j).auxiliary.since lent.to y) its_view lent.scan;
        }
