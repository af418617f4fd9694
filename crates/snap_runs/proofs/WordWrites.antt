-- The writes of an algorithm in which one line writes a word: it alone changes the values, in an update, with that
-- update's value.
use Rattle.std.specs.Prelude.{◌≡◌, ℕ, suc, ◌-◌, ◌<◌, ◌≤◌, ◌⊎◌, true, List, length, map, Some, nat_eq, slice_set, refl}
use Rattle.std.proofs.Common.{sym, ◌∙◌, ap, subst, arith, inl, inr}
use Rattle.std.proofs.lemmas.Bool.{cases_eq}
use Rattle.std.proofs.lemmas.List.{map-set, get_or-set_other}
use Rattle.snap_runs.proofs.Common.{IsOneOf, Word, no_word, values, who, Item, Step, Call, Crash, Update, Run, state}
use Rattle.snap_runs.specs.Update.{executes}
use Rattle.snap_runs.specs.Promises.{ChangesOnlyAt, WritesItsUpdate, WritesOnce}
use Rattle.snap_runs.proofs.Algorithm.{Mode, Updating, Control, Idle, At, Move, To, TypedProcess, TypedState, Algorithm}
use Rattle.snap_runs.proofs.Algorithm.{by_move, by_step, typed_at, changed, happens, item_at, typed_state, memory_after}
use Rattle.snap_runs.proofs.Embedding as embed
use Rattle.snap_runs.proofs.Executing as executing
use Rattle.snap_runs.proofs.Flow.{Lines, IsUpdateOf, update_of}
use Rattle.snap_runs.proofs.Flow as flow
use Rattle.snap_runs.proofs.Held.{data_of, word_at}
use Rattle.snap_runs.proofs.Scans as scans
use Rattle.snap_runs.proofs.UpdateSpan as called
use Rattle.snap_runs.proofs.WritesOnce as writes_once

module _ {V P M : Type 0} (a : Algorithm V P M) (lines : Lines V P M) (line : ℕ) where
  -- The line with this number writes a word.
  pub record Writer : Type 1 where
    -- the words of the memory, and the values that the machine has in them
    pub words : M → List Word
    pub values_are : (m : M) → map (λ (x : Word). x.datum) (a.real m).words ≡ data_of (words m)
    -- the other lines keep the words
    pub kept : (m m' : M) → lines.Kept m m' → words m' ≡ words m
    -- the line's program counter
    pub counter : P
    pub number_is : nat_eq (a.number counter) line ≡ true
    pub only : (k : P) → lines.IsWrite k → k ≡ counter
    -- the words that a process may write
    pub Owned : ℕ → ℕ → Type 0
    pub is_word : (me word : ℕ) → IsOneOf a.shape.n me → Owned me word → IsOneOf a.shape.w word
    -- what it writes in an update
    pub put : (me word value : ℕ) → M → V → Word
    pub datum_is : (me word value : ℕ) (m : M) (p : V) → (put me word value m p).datum ≡ value
    pub puts : (me word value : ℕ) (m : M) (p : V) → Owned me word →
        words (memory_after m (a.move me (Updating word value) m p counter))
        ≡ slice_set (words m) (word - 1) (put me word value m p)

  module _ (writer : Writer) where
    words_after : (m : M) (v : Move V P M) → flow.KeepsMemory lines m v →
        writer.words (memory_after m v) ≡ writer.words m
    words_after m (To d m' p k) keeps = writer.kept m m' keeps
    words_after m _ keeps = refl

    -- a move that keeps the memory leaves the words
    pub words_then : (t : ℕ) (x : TypedState V P M) (i : ℕ) (k : P) (v : Move V P M) →
        flow.KeepsMemory lines x.memory v →
        writer.words (changed x i (by_move a t x.memory (typed_at a x i) k v)).memory ≡ writer.words x.memory
    words_then t x i k v keeps = ap writer.words (embed.move_memory a t x i k v) ∙ words_after x.memory v keeps

    -- a step at this line
    abbrev pub Writes : TypedState V P M → Item → Type 0
    Writes x y = (i : ℕ) × (d : Mode) × (y ≡ Step i) × ((typed_at a x i).control ≡ At d writer.counter)

    step_writes : (t : ℕ) (x : TypedState V P M) (i : ℕ) (control : Control P) → (typed_at a x i).control ≡ control →
        scans.FlowsAt a lines i x.memory (typed_at a x i).variables control →
        (writer.words (changed x i (by_step a t x.memory i (typed_at a x i) control)).memory ≡ writer.words x.memory)
        ⊎ Writes x (Step i)
    step_writes t x i Idle is flows = inl refl
    step_writes t x i (At d k) is flows =
        let v = a.move i d x.memory (typed_at a x i).variables k in
        elim (flow.keeps_memory lines a d x.memory (typed_at a x i).variables k v flows) [
          | inl keeps ↦ inl (words_then t x i k v keeps)
          | inr e ↦ inr (i, d, refl, is ∙ ap (λ y. At d y) (writer.only k e))
        ]

    module _ (run : scans.Execution a lines) where
      abbrev items : List Item
      items = run.items

      abbrev r : Run
      r = embed.run_of a items

      abbrev at : ℕ → ℕ → TypedProcess V P M
      at t i = typed_at a (typed_state a items t) i

      abbrev pub words_at : ℕ → List Word
      words_at t = writer.words (typed_state a items t).memory

      pub values_is : (t : ℕ) → t ≤ length items → values (state r t) ≡ data_of (words_at t)
      values_is t h =
          ap values (embed.state_is a items run.fits run.does t h) ∙ writer.values_are (typed_state a items t).memory

      item_writes : (t : ℕ) (y : Item) → t < length items → IsOneOf a.shape.n (who y) →
          (writer.words (happens a (suc t) (typed_state a items t) y).memory ≡ words_at t)
          ⊎ Writes (typed_state a items t) y
      item_writes t (Step i) h one =
          step_writes (suc t) (typed_state a items t) i (at t i).control refl (run.flows t i h one)
      item_writes t (Call i op) h one =
          inl (ap writer.words (embed.call_memory a (suc t) (typed_state a items t) i op (at t i).control))
      item_writes t (Crash i) h one = inl refl

      -- an item that changes the words is a step at this line
      pub words_change : (t : ℕ) → t < length items →
          (words_at (suc t) ≡ words_at t) ⊎ Writes (typed_state a items t) (item_at items t)
      words_change t h = item_writes t (item_at items t) h (embed.one_at a items run.fits t h)

      write_executes : (t i : ℕ) (d : Mode) → t < length items → item_at items t ≡ Step i →
          (at t i).control ≡ At d writer.counter → executes r i line (suc t) ≡ true
      write_executes t i d h is there =
          executing.line_executes a items run.fits run.does t i line d writer.counter h is there writer.number_is

      pub changes_only_at : ChangesOnlyAt line r
      changes_only_at fits t h =
          elim (words_change t h) [
            | inl same ↦ inl (values_is (suc t) (omega arith) ∙ ap data_of same ∙ sym (values_is t (omega arith)))
            | inr w ↦
                inr (subst (λ (y : Item). executes r (who y) line (suc t) ≡ true) (sym w.2)
                (write_executes t w.0 w.1 h w.2 w.3))
          ]

      module _ (updates : (t i : ℕ) (d : Mode) → t < length items → IsOneOf a.shape.n i →
          (at t i).control ≡ At d writer.counter → IsUpdateOf (writer.Owned i) d) where
        -- what a step at this line writes
        pub record Written (t i : ℕ) : Type 0 where
          pub word : ℕ
          pub value : ℕ
          pub owned : writer.Owned i word
          pub control : (at t i).control ≡ At (Updating word value) writer.counter
          pub words_are : words_at (suc t) ≡ slice_set (words_at t) (word - 1)
              (writer.put i word value (typed_state a items t).memory (at t i).variables)

        pub written : (t i : ℕ) (d : Mode) → t < length items → item_at items t ≡ Step i →
            (at t i).control ≡ At d writer.counter → Written t i
        written t i d h is there =
            let up = update_of (writer.Owned i) d
            (updates t i d h (executing.one_of a items run.fits run.does t i h is) there) in
            let control : (at t i).control ≡ At (Updating up.0 up.1) writer.counter =
            there ∙ ap (λ y. At y writer.counter) up.3 in
            record {
              word = up.0;
              value = up.1;
              owned = up.2;
              control = control;
              words_are =
                  ap writer.words
                  (executing.memory_next a items run.fits run.does t i (Updating up.0 up.1) writer.counter is control)
                  ∙ writer.puts i up.0 up.1 (typed_state a items t).memory (at t i).variables up.2;
            }

        module _ (once : writes_once.Once a lines line) (numbered : executing.Numbered a)
            (its : numbered.counter_with line ≡ Some writer.counter) where
          pub writes_its_update : WritesItsUpdate line r
          writes_its_update fits i t one h ex =
              let there = executing.stands_at a items run.fits run.does numbered t i line writer.counter h one its ex in
              let w = written t i there.1.0 h there.0 there.1.1 in
              let word = w.word in
              let value = w.value in
              let c = (at t i).auxiliary.called in
              let silent = writes_once.silent a lines line once run i one in
              let under : called.Under a line once.writes_is items run.fits run.does i one silent
              (Update word value) c t =
              subst (called.UnderAt a line once.writes_is items run.fits run.does i one silent t (at t i)) w.control
              (called.under a line once.writes_is items run.fits run.does i one silent t (omega arith)) in
              let new : Word = writer.put i word value (typed_state a items t).memory (at t i).variables in (
                word,
                value,
                c,
                record {
                  process = one;
                  call = under.call;
                  called = under.called;
                  first = under.first;
                  order = omega arith;
                  last = omega arith;
                  goes_on = λ u lt less done. under.open_still u lt (omega arith) done;
                },
                omega arith,
                writer.is_word i word one w.owned,
                values_is (suc t) (omega arith) ∙ ap data_of w.words_are
                    ∙ map-set (λ (x : Word). x.datum) (words_at t) (word - 1) new
                    ∙ ap (λ v. slice_set (data_of (words_at t)) (word - 1) v)
                    (writer.datum_is i word value (typed_state a items t).memory (at t i).variables)
                    ∙ ap (λ v. slice_set v (word - 1) value) (sym (values_is t (omega arith))),
              )

          pub once_in_update : WritesOnce line r
          once_in_update fits i word value c e up =
              writes_once.writes_once a lines line once run i up.process word value c e up

        -- Where each process writes its own word alone: an item leaves a word, or the word's process executes the line.
        pub word_changes : ((i word : ℕ) → writer.Owned i word → word ≡ i) →
            (j t : ℕ) → IsOneOf a.shape.n j → t < length items →
            (executes r j line (suc t) ≡ true) ⊎ (word_at (words_at (suc t)) j ≡ word_at (words_at t) j)
        word_changes own j t one h =
            elim (words_change t h) [
              | inl same ↦ inr (ap (λ ws. word_at ws j) same)
              | inr w ↦ elim (cases_eq j w.0) [
                | inl his ↦
                    inl (subst (λ y. executes r y line (suc t) ≡ true) (sym his) (write_executes t w.0 w.1 h w.2 w.3))
                | inr other ↦ (let x = written t w.0 w.1 h w.2 w.3 in
                    let own_word : x.word ≡ w.0 = own w.0 x.word x.owned in
                    let his_one : IsOneOf a.shape.n w.0 = executing.one_of a items run.fits run.does t w.0 h w.2 in
                    inr (ap (λ ws. word_at ws j) x.words_are
                    ∙ get_or-set_other (words_at t) (x.word - 1) (j - 1) (writer.put w.0 x.word x.value
                    (typed_state a items t).memory (at t w.0).variables) no_word (λ same. other (omega arith))))
              ]
            ]
