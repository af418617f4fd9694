-- A scan that a process calls after an update of its own shows that update's value.
use Rattle.std.proofs.Common.{◌≡◌, ℕ, zero, suc, ◌-◌, ◌<◌, ◌≤◌, Bool, true, false, List, length, Some, None}
use Rattle.std.proofs.Common.{slice_index, refl, sym, ◌∙◌, ap, subst, arith, inl, inr}
use Rattle.std.proofs.lemmas.Bool.{cases_lt}
use Rattle.std.proofs.lemmas.Grind.{get_or-set_at}
use Rattle.std.proofs.lemmas.List.{get_or-map}
use Rattle.std.proofs.Math.Nat.{eq-or-lt_of_le}
use Rattle.snap_runs.proofs.Common.{IsOneOf, Word, no_word, values, Item, Call, Op, Scan, Update, Called, Run, state}
use Rattle.snap_runs.proofs.Common.{item, outcome}
use Rattle.snap_runs.specs.Scan.{PendingScan, HasPoint, count}
use Rattle.snap_runs.specs.Update.{executes, IsDone, PendingUpdate}
use Rattle.snap_runs.specs.Promises.{HavePoints, OwnUpdatesAreSeen}
use Rattle.snap_runs.proofs.Algorithm.{Mode, Updating, op_of, Control, At, TypedProcess, Algorithm, by_call, typed_at}
use Rattle.snap_runs.proofs.Algorithm.{by_item, outcome_of, item_at, typed_state}
use Rattle.snap_runs.proofs.Computing.{from_there}
use Rattle.snap_runs.proofs.Counting.{count_none, count_not}
use Rattle.snap_runs.proofs.Embedding as embed
use Rattle.snap_runs.proofs.Executing as executing
use Rattle.snap_runs.proofs.Flow.{Lines, IsUpdateOf, update_of}
use Rattle.snap_runs.proofs.Held.{data_of, word_at}
use Rattle.snap_runs.proofs.Scans as scans
use Rattle.snap_runs.proofs.UpdateSpan as called
use Rattle.snap_runs.proofs.WordWrites as writes
use Rattle.snap_runs.proofs.WritesOnce as writes_once
use Rattle.snap_runs.proofs.Steady.{fits_of}

-- the last item that passes a test
record LastOf (test : ℕ → Bool) (c e : ℕ) : Type 0 where
  item : ℕ
  after : c ≤ item
  before : item < e
  passes : test (suc item) ≡ true
  no_later : (u : ℕ) → item < u → u < e → test (suc u) ≡ false

last_of : (test : ℕ → Bool) (c e : ℕ) → 0 < count test c e → LastOf test c e
last_of test c zero h = absurd (omega arith)
last_of test c (suc e) h =
    elim (cases_lt e c) [
      | inl early ↦
          absurd (let none : count test c (suc e) ≡ 0 = count_none test c (suc e) (omega arith) in omega arith)
      | inr le ↦ (elim (test (suc e)) as (λ b. test (suc e) ≡ b → LastOf test c (suc e)) [
        | true ↦ λ is. record {
          item = e;
          after = omega arith;
          before = omega arith;
          passes = is;
          no_later = λ u lo hi. absurd (omega arith);
        }
        | false ↦ λ is.
            let fewer : count test c (suc e) ≡ count test c e = count_not test c e (omega arith) is in
            let rest : LastOf test c e = last_of test c e (omega arith) in
            record {
              item = rest.item;
              after = rest.after;
              before = omega arith;
              passes = rest.passes;
              no_later = λ u lo hi. elim (eq-or-lt_of_le (let le2 : u ≤ e = omega arith in le2)) [
                | inl same ↦ subst (λ y. test (suc y) ≡ false) (sym same) is
                | inr less ↦ rest.no_later u lo less
              ];
            }
      ]) refl
    ]

-- a word's datum is its place among the data
datum_at : (ws : List Word) (k : ℕ) → k - 1 < length ws → slice_index (data_of ws) (k - 1) ≡ (word_at ws k).datum
datum_at ws k lt = get_or-map (λ (w : Word). w.datum) ws (k - 1) no_word 0 lt

module _ {V P M : Type 0} (a : Algorithm V P M) (lines : Lines V P M) (line : ℕ) (writer : writes.Writer a lines line)
    (listed : scans.Listed a lines)
    (run : scans.Execution a lines)
    (updates : (t i : ℕ) (d : Mode) → t < length run.items → IsOneOf a.shape.n i →
    (typed_at a (typed_state a run.items t) i).control ≡ At d writer.counter → IsUpdateOf (writer.Owned i) d)
    (once : writes_once.Once a lines line) (numbered : executing.Numbered a)
    (its : numbered.counter_with line ≡ Some writer.counter)
    (own : (i word : ℕ) → writer.Owned i word → word ≡ i)
    (sizes : (t : ℕ) → t ≤ length run.items → length (writes.words_at a lines line writer run t) ≡ a.shape.n) where
  abbrev items : List Item
  items = run.items

  abbrev r : Run
  r = embed.run_of a items

  abbrev at : ℕ → ℕ → TypedProcess V P M
  at t i = typed_at a (typed_state a items t) i

  abbrev words : ℕ → List Word
  words t = writes.words_at a lines line writer run t

  -- the word of a process stays while it does not execute the line
  pub stays : (i from to : ℕ) → IsOneOf a.shape.n i → from ≤ to → to ≤ length items →
      ((t : ℕ) → from ≤ t → t < to → executes r i line (suc t) ≡ false) →
      word_at (words to) i ≡ word_at (words from) i
  stays i from to one le short none =
      from_there (λ t. word_at (words t) i ≡ word_at (words from) i) from to le refl (λ t low high past.
      elim (writes.word_changes a lines line writer run updates own i t one (omega arith)) [
        | inl wrote ↦ absurd (let e : true ≡ false = sym wrote ∙ none t low high in cc)
        | inr same ↦ same ∙ past
      ])

  module _ (i : ℕ) (one : IsOneOf a.shape.n i) where
    abbrev Under : Op → ℕ → ℕ → Type 0
    Under op c t =
        called.Under a line once.writes_is items run.fits run.does i one
        (writes_once.silent a lines line once run i one) op c t

    -- a process that is called is not in an update
    not_updating : (word value c e : ℕ) (op : Op) → PendingUpdate r i word value c (suc e) → c ≤ e →
        item r (suc e) ≡ Call i op → outcome r (suc e) ≡ Called → ⊥
    not_updating word value c e op up le call out =
        let g = called.going a line once.writes_is items run.fits run.does i one
        (writes_once.silent a lines line once run i one) word value c (suc e) e up le (omega arith) in
        let x = typed_state a items e in
        let busy : outcome_of (by_item a (suc e) x (item_at items e))
        ≡ outcome_of (by_call a (suc e) x.memory i op (at e i) (At g.mode g.counter)) =
        ap (λ (y : Item). outcome_of (by_item a (suc e) x y)) call
        ∙ ap (λ (p : Control P). outcome_of (by_call a (suc e) x.memory i op (at e i) p)) g.control in
        absurd (let f = sym out ∙ embed.outcome_is a items run.fits run.does e (omega arith) ∙ busy in cc)

    -- where it writes, it is in an update that it called before and that is not done
    record Writing (t : ℕ) : Type 0 where
      word : ℕ
      value : ℕ
      mode : Mode
      is : mode ≡ Updating word value
      control : (at t i).control ≡ At mode writer.counter
      under : Under (Update word value) (at t i).auxiliary.called t

    writing : (t : ℕ) → t < length items → executes r i line (suc t) ≡ true → Writing t
    writing t short ex =
        let there = executing.stands_at a items run.fits run.does numbered t i line writer.counter short one its ex in
        let d = there.1.0 in
        let up = update_of (writer.Owned i) d (updates t i d short one there.1.1) in
        let control : (at t i).control ≡ At (Updating up.0 up.1) writer.counter =
        there.1.1 ∙ ap (λ y. At y writer.counter) up.3 in
        record {
          word = up.0;
          value = up.1;
          mode = d;
          is = up.3;
          control = there.1.1;
          under =
              subst (called.UnderAt a line once.writes_is items run.fits run.does i one
              (writes_once.silent a lines line once run i one) t (at t i)) control
              (called.under a line once.writes_is items run.fits run.does i one
              (writes_once.silent a lines line once run i one) t (omega arith));
        }

    -- before the call it writes only in an update that is done by then
    before_call : (done c t : ℕ) (op : Op) → ((u : ℕ) → done < u → u < suc c → IsDone r i u → ⊥) → done ≤ t → t ≤ c →
        suc c ≤ length items → item r (suc c) ≡ Call i op → outcome r (suc c) ≡ Called → Writing t → ⊥
    before_call done c t op none lo hi short call out w =
        let under : Under (Update w.word w.value) (at t i).auxiliary.called t = w.under in
        not_updating w.word w.value (at t i).auxiliary.called c op
        (record {
          process = one;
          call = under.call;
          called = under.called;
          first = under.first;
          order = omega arith;
          last = short;
          goes_on = λ u after before ends. elim (cases_lt t u) [
            | inl late ↦ none u (omega arith) before ends
            | inr early ↦ under.open_still u after early ends
          ];
        })
        (omega arith) call out

    -- nor does it write in its scan
    in_scan : (c e t : ℕ) → PendingScan r i None c e → c ≤ t → t < e → Writing t → ⊥
    in_scan c e t scan lo hi w =
        let g = scans.goes a lines listed run i one None c e t scan lo hi in
        let same : At g.mode g.counter ≡ At (Updating w.word w.value) writer.counter =
        sym g.control ∙ w.control ∙ ap (λ y. At y writer.counter) w.is in
        let mode : g.mode ≡ Updating w.word w.value = cc in
        absurd (let e2 : Update w.word w.value ≡ Scan = sym (ap op_of mode) ∙ g.inside.1 in cc)

    -- after an update that is done, and up to the end of a scan that it called next, it writes nothing
    quiet : (done c e : ℕ) → ((u : ℕ) → done < u → u < c → IsDone r i u → ⊥) → PendingScan r i None c e → (t : ℕ) →
        done ≤ t → t < e → executes r i line (suc t) ≡ false
    quiet done zero e none scan t lo hi = absurd (omega arith)
    quiet done (suc c) e none scan t lo hi =
        (elim (executes r i line (suc t)) as (λ b. executes r i line (suc t) ≡ b → executes r i line (suc t) ≡ false) [
          | false ↦ λ is. is
          | true ↦ λ is.
              let w = writing t (omega arith) is in
              absurd (elim (cases_lt c t) [
                | inl late ↦ in_scan (suc c) e t scan (omega arith) hi w
                | inr early ↦
                    before_call done c t Scan none lo (omega arith) (omega arith) scan.starts.0 scan.starts.1 w
              ])
        ]) refl

    -- where an update is done, one item before wrote its value, and none since
    record Wrote (word value c e : ℕ) : Type 0 where
      item_before : ℕ
      after : c ≤ item_before
      before : item_before < e
      is_own : word ≡ i
      datum : (word_at (words (suc item_before)) i).datum ≡ value
      none_since : (u : ℕ) → item_before < u → u < e → executes r i line (suc u) ≡ false

    wrote : (word value c e : ℕ) → PendingUpdate r i word value c e → c < e → IsDone r i e → Wrote word value c e
    wrote word value c e up lt done =
        let two =
        writes.once_in_update a lines line writer run updates once numbered its
        (fits_of r run.fits) i word value c e up in
        let one_write : count (executes r i line) c e ≡ 1 = two.1 lt done in
        let l : LastOf (executes r i line) c e = last_of (executes r i line) c e (omega arith) in
        let v = l.item in
        let short : v < length items = omega arith in
        let there =
        executing.stands_at a items run.fits run.does numbered v i line writer.counter short one its l.passes in
        let w = writes.written a lines line writer run updates v i there.1.0 short there.0 there.1.1 in
        let g = called.going a line once.writes_is items run.fits run.does i one
        (writes_once.silent a lines line once run i one) word value c e v up l.after l.before in
        let same : At g.mode g.counter ≡ At (Updating w.word w.value) writer.counter = sym g.control ∙ w.control in
        let mode : g.mode ≡ Updating w.word w.value = cc in
        let op : Update w.word w.value ≡ Update word value = sym (ap op_of mode) ∙ g.op in
        let its_word : w.word ≡ word = cc in
        let its_value : w.value ≡ value = cc in
        let owned : w.word ≡ i = own i w.word w.owned in
        let size : length (words v) ≡ a.shape.n = sizes v (omega arith) in
        let new : Word = writer.put i w.word w.value (typed_state a items v).memory (at v i).variables in
        record {
          item_before = v;
          after = l.after;
          before = l.before;
          is_own = sym its_word ∙ owned;
          datum = ap (λ ws. (word_at ws i).datum) w.words_are
              ∙ ap (λ (x : Word). x.datum)
              (get_or-set_at (words v) (w.word - 1) (i - 1) new no_word (ap (λ y. y - 1) (sym owned)) (omega arith))
              ∙ writer.datum_is i w.word w.value (typed_state a items v).memory (at v i).variables ∙ its_value;
          none_since = l.no_later;
        }

    shown : (word value u : ℕ) → u ≤ length items → word ≡ i → (word_at (words u) i).datum ≡ value →
        slice_index (values (state r u)) (word - 1) ≡ value
    shown word value u short same datum =
        let size : length (words u) ≡ a.shape.n = sizes u short in
        ap (λ vs. slice_index vs (word - 1)) (writes.values_is a lines line writer run u short)
        ∙ datum_at (words u) word (omega arith) ∙ ap (λ y. (word_at (words u) y).datum) same ∙ datum

  pub own_updates_are_seen : HavePoints r → OwnUpdatesAreSeen r
  own_updates_are_seen points fits i word value c0 done c e view up lt ended after none scan =
      let one = up.process in
      let point : HasPoint r c e view = points fits i None c e view scan in
      let u = point.0 in
      let w : Wrote i one word value c0 done = wrote i one word value c0 done up lt ended in
      let same : word_at (words u) i ≡ word_at (words (suc w.item_before)) i =
      stays i (suc w.item_before) u one (omega arith) (omega arith) (λ t lo hi. elim (cases_lt t done) [
        | inl early ↦ w.none_since t (omega arith) early
        | inr late ↦ quiet i one done c e none scan.scan t (omega arith) (omega arith)
      ]) in
      ap (λ vs. slice_index vs (word - 1)) (sym point.3)
      ∙ shown i one word value u (omega arith) w.is_own (ap (λ (x : Word). x.datum) same ∙ w.datum)
