-- The operations of the listing of one word in the order of their first steps are a linearization of each of its runs.
use Rattle.std.proofs.Common.{◌≡◌, ◌≢◌, ℕ, zero, suc, ◌-◌, ◌<◌, ◌≤◌, max, List, [], ◌∷◌, ◌++◌, map}
use Rattle.std.proofs.Common.{slice_index_or, length, Option, Some, None, nat_eq, replicate, refl, sym, ◌∙◌, ap, subst}
use Rattle.std.proofs.Common.{arith, inl, inr}
use Rattle.std.specs.List.{All, Contains}
use Rattle.std.proofs.Math.Nat.{eq-or-lt_of_le}
use Rattle.std.proofs.lemmas.Bool.{cases_eq}
use Rattle.std.proofs.lemmas.List.{length-replicate, get_or-replicate}
use Rattle.std.proofs.lemmas.List.Elements.{All-map, All-push, All-weaker, All-contains, recursion_from_All}
use Rattle.std.proofs.lemmas.List.Elements.{Contains-append_left, Contains-push}
use Rattle.snap_runs.proofs.Common.{IsOneOf, Word, Item, Call, Outcome, Process, State, process_at}
use Rattle.snap_runs.proofs.Common.{values, who, Run, IsValidRun, state, item}
use Rattle.snap_words.specs.Kind.{initial_word}
use Rattle.snap_words.specs.declared.kind.KindTag.TheVariants.{Multi}
use Rattle.snap_semantics.specs.declared.process.Outcome.TheVariants as outcome
use Rattle.snap_semantics.specs.declared.process.Status.TheVariants.{Idle}
use Rattle.snap_semantics.specs.State.{nobody, initial_process}
use Rattle.snap_semantics.specs.Table.{done}
use Rattle.snap_runs.specs.Audit.{last_call}
use Rattle.snap_runs.specs.Operation.{Action, Operation, HasEnded, EndedBefore}
use Rattle.snap_runs.specs.Run.{outcome as outcome_at, run_of_items}
use Rattle.snap_runs.proofs.Audits.{last_call_under}
use Rattle.snap_runs.proofs.Calls.{EndsWith, IsEnd, Calls, UnderCall, UnderAt, item_one, one_call, under}
use Rattle.snap_runs.proofs.Computing.{other_number, same_number}
use Rattle.snap_runs.proofs.Embedding.{next_state}
use Rattle.snap_runs.proofs.Order.{Pairs, Apart, all_pairs, pairs_push, keeps_order}
use Rattle.snap_strong.specs.StrongLinearization.{IsCompleted, IsCompletedLinearization}
use Rattle.snap_strong.specs.OneWord.{one_word, shared_by}
use Rattle.snap_strong.proofs.OneWordItems.{booked, process, Stage, idle, stage_map}
use Rattle.snap_strong.proofs.OneWordItems.{Leaves, Quiet, Begins, Closes, item_does}
use Rattle.snap_strong.proofs.Placed.{op_of, outcome_of, ends_so, ends_is_end, same_action, end_at, ended}
use Rattle.snap_strong.proofs.Placed.{not_ended_before, ended_now, ended_once, GoesOn, EndUpTo, Placed, placed_longer}
use Rattle.snap_strong.proofs.Placed.{placed_closed, ended_at, placed_shorter, not_before_itself, completed, placed}
use Rattle.snap_strong.proofs.Placed.{Contains-map, pairs_ended, RunsTo, starts_from, runs_ended, segments_more}

-- the operations that have taken place up to item t + 1, where these have up to item t
abbrev pub booked_at : Run → ℕ → List Operation → List Operation
booked_at r t os =
    booked (who (item r (suc t))) (last_call r (who (item r (suc t))) t) (suc t)
    (values (state r t)) (outcome_at r (suc t))
    (process_at (state r t) (who (item r (suc t)))).status os

-- the operations that have taken place up to item t
abbrev pub taken : Run → ℕ → List Operation
taken r zero = []
taken r (suc t) = booked_at r t (taken r t)

-- None of process i has taken place and not ended.
abbrev IsNone : ℕ → Operation → Type 0
IsNone i o = o.process ≡ i → o.end ≡ None → ⊥

abbrev Free : ℕ → List Operation → Type 0
Free i os = All (IsNone i) os

-- One has, and did this.
abbrev its : ℕ → ℕ → Action → Operation
its i c b = record { process = i; call = c; end = None; action = b }

abbrev IsOnly : ℕ → Action → Operation → Type 0
IsOnly i b o = o.process ≡ i → o.end ≡ None → o.action ≡ b

abbrev Took : ℕ → List Operation → Action → Type 0
Took i os b = (c : ℕ) × Contains os (its i c b) × All (IsOnly i b) os

free_ended : (i k e : ℕ) (os : List Operation) → Free i os → Free i (map (ended k e) os)
free_ended i k e os h =
    All-map (IsNone i) (ended k e) os (λ j d lt his still.
    let o = slice_index_or os j d in h j d lt his (not_ended_before (nat_eq o.process k) e o.end still))

free_now : (i e : ℕ) (os : List Operation) → Free i (map (ended i e) os)
free_now i e os =
    All-map (IsNone i) (ended i e) os (λ j d lt his still.
    let o = slice_index_or os j d in
    ended_now (nat_eq o.process i) e o.end (ap (λ y. nat_eq y i) his ∙ same_number i) still)

its_kept : (i k e c : ℕ) (b : Action) → i ≢ k → ended k e (its i c b) ≡ its i c b
its_kept i k e c b other =
    ap (λ y. let o : Operation = record { process = i; call = c; end = end_at y e None; action = b } in o)
    (other_number i k other)

took_ended : (i k e : ℕ) (os : List Operation) (b : Action) → i ≢ k → Took i os b → Took i (map (ended k e) os) b
took_ended i k e os b other h = (
  h.0,
  subst (Contains (map (ended k e) os)) (its_kept i k e h.0 b other) (Contains-map (ended k e) os (its i h.0 b) h.1),
  All-map (IsOnly i b) (ended k e) os (λ j d lt his still.
      let o = slice_index_or os j d in h.2 j d lt his (not_ended_before (nat_eq o.process k) e o.end still)),
)

took_more : (i : ℕ) (os : List Operation) (o : Operation) (b : Action) → o.process ≢ i → Took i os b →
    Took i (os ++ o ∷ []) b
took_more i os o b other h = (
  h.0,
  Contains-append_left os (o ∷ []) (its i h.0 b) h.1,
  All-push (IsOnly i b) os o h.2 (λ his still. absurd (other his)),
)

took_now : (i c : ℕ) (os : List Operation) (b : Action) → Free i os → Took i (os ++ its i c b ∷ []) b
took_now i c os b h = (
  c,
  Contains-push os (its i c b),
  All-push (IsOnly i b) os (its i c b) (λ j d lt his still. absurd (h j d lt his still)) (λ his still. refl),
)

module _ (n : ℕ) (items : List Item) (fits : IsValidRun (run_of_items one_word (shared_by n) items)) where
  abbrev r : Run
  r = run_of_items one_word (shared_by n) items

  -- What is known after t items of these operations.
  record Book (t : ℕ) (os : List Operation) : Type 0 where
    word : Word
    word_is : (state r t).memory.words ≡ word ∷ []
    count : length (state r t).processes ≡ n
    stages : (i : ℕ) → IsOneOf n i → Stage (Free i os) (Took i os) (process_at (state r t) i)
    placed : All (Placed r t) os
    apart : Pairs Apart os
    complete : (o : Operation) → Placed r t o → HasEnded o → Contains os o
    runs : RunsTo (0 ∷ []) os (word.datum ∷ [])

  -- before the first item
  abbrev first_word : Word
  first_word = initial_word Multi (shared_by n)

  abbrev others_words : List Word
  others_words = replicate (max n 1 - 1) first_word

  first_process : (i k : ℕ) → IsOneOf n i → max n 1 ≡ suc k →
      process_at (state r 0) i ≡ process Idle first_word (replicate k first_word) (0 ∷ [])
  first_process i k one more =
      get_or-replicate n (i - 1) (initial_process one_word (shared_by n)) nobody (omega arith) ∙ rw more refl

  first_book : Book 0 []
  first_book = record {
    word = first_word;
    word_is = refl;
    count = length-replicate n (initial_process one_word (shared_by n));
    stages =
        λ i one.
        subst (Stage (Free i []) (Took i [])) (sym (first_process i (max n 1 - 1) one (omega arith)))
        (idle first_word others_words (0 ∷ []) (λ k d lt. absurd (omega arith)));
    placed = λ k d lt. absurd (omega arith);
    apart = tt;
    complete = λ o p some. absurd (omega arith);
    runs = refl;
  }

  module _ (t : ℕ) (lt : t < length items) where
    abbrev i : ℕ
    i = who (item r (suc t))

    abbrev S : State
    S = state r t

    -- what item t + 1 does
    abbrev does : State × Outcome
    does = done one_word (shared_by n) S (item r (suc t))

    one : IsOneOf n i
    one = item_one r fits t lt

    left : (z : Word) (p : Process) → Leaves S does.0 i z p → Leaves S (state r (suc t)) i z p
    left z p h = subst (λ X. Leaves S X i z p) (sym (next_state r t lt)) h

    -- how the processes stand after it
    stages_after : (os : List Operation) (z : Word) (p : Process) → Leaves S (state r (suc t)) i z p →
        Stage (Free i os) (Took i os) p →
        ((j : ℕ) → IsOneOf n j → j ≢ i → Stage (Free j os) (Took j os) (process_at S j)) →
        (j : ℕ) → IsOneOf n j → Stage (Free j os) (Took j os) (process_at (state r (suc t)) j)
    stages_after os z p leaves own others j his = elim (cases_eq j i) [
      | inl same ↦ subst (λ k. Stage (Free k os) (Took k os) (process_at (state r (suc t)) k)) (sym same)
          (subst (Stage (Free i os) (Took i os)) (sym leaves.own) own)
      | inr other ↦ subst (Stage (Free j os) (Took j os)) (sym (leaves.others j his.0 other)) (others j his other)
    ]

    -- an item that ends nothing leaves the operations placed
    all_longer : (os : List Operation) → (IsEnd does.1 → ⊥) → All (Placed r t) os → All (Placed r (suc t)) os
    all_longer os none h =
        All-weaker (Placed r t) (Placed r (suc t))
        (λ o p. placed_longer r t o (λ still own ends. none (ends_is_end o.action does.1 ends)) p) os h

    ends_nothing : (o : Operation) → (IsEnd does.1 → ⊥) → Placed r (suc t) o → o.end ≡ Some (suc t) → ⊥
    ends_nothing o none h now =
        let end = ended_at r (suc t) (suc t) o now h in
        none (ends_is_end o.action does.1 (subst (EndsWith (op_of o.action)) (sym end.3) (ends_so o.action)))

    -- an item that nothing begins or ends with
    quiet : (os : List Operation) (b : Book t os) →
        Quiet (Free i os) (Took i os) S i b.word (process_at S i).status does → Book (suc t) os
    quiet os b q =
        let leaves = left b.word q.process q.leaves in
        record {
          word = b.word;
          word_is = leaves.word;
          count = leaves.count ∙ b.count;
          stages = stages_after os b.word q.process leaves q.stage (λ j his other. b.stages j his);
          placed = all_longer os q.no_end b.placed;
          apart = b.apart;
          complete = λ o h some. elim (placed_shorter r t o some h) [
            | inl sooner ↦ b.complete o sooner some
            | inr now ↦ absurd (ends_nothing o q.no_end h now)
          ];
          runs = b.runs;
        }

    -- the operation has taken place, and has not ended
    now_placed : (g : Action) → UnderCall r fits i (op_of g) t → outcome_at r (suc t) ≡ outcome.Stepped →
        Placed r (suc t) (its i (last_call r i t) g)
    now_placed g u out =
        let same : last_call r i t ≡ u.call = last_call_under r fits i (op_of g) t one (omega arith) u in
        let order : u.call ≤ suc t = omega arith in
        let end : GoesOn r i u.call (op_of g) (suc (suc t)) =
        λ v more less his ends. let le : v ≤ suc t = omega arith in
        elim (eq-or-lt_of_le le) [
          | inl here ↦ subst IsEnd (ap (outcome_at r) here ∙ out) (ends_is_end g (outcome_at r v) ends)
          | inr sooner ↦ u.open_still v more (omega arith) his (ends_is_end g (outcome_at r v) ends)
        ] in
        subst (λ c. Placed r (suc t) (its i c g)) (sym same) (assumption one)

    -- the operations listed before have other calls
    other_call : (g : Action) → UnderCall r fits i (op_of g) t → (x : Operation) → Placed r t x →
        (x.process ≡ i → x.end ≡ None → ⊥) →
        x.call ≡ last_call r i t → ⊥
    other_call g u x h free same =
        let at : x.call ≡ u.call = same ∙ last_call_under r fits i (op_of g) t one (omega arith) u in
        let call : Call x.process (op_of x.action) ≡ Call i (op_of g) = sym h.call_is ∙ ap (item r) at ∙ u.is.0 in
        let his : x.process ≡ i = cc in
        by_end x.process x.call x.action x.end his at (free his) h.end
      where
        by_end : (k c : ℕ) (d : Action) (end : Option ℕ) → k ≡ i → c ≡ u.call → (end ≡ None → ⊥) →
            EndUpTo r k c d t end → ⊥
        by_end k c d None his at none h = none refl
        by_end k c d (Some e) his at none h =
            u.open_still e (omega arith) h.1 (h.2 ∙ his)
            (ends_is_end d (outcome_at r e) (subst (EndsWith (op_of d)) (sym h.3) (ends_so d)))

    -- an item at which an operation takes place
    begins : (os : List Operation) (b : Book t os) (q : Begins (Free i os) S i b.word (process_at S i).status does) →
        Book (suc t) (os ++ its i (last_call r i t) q.action ∷ [])
    begins os b q =
        let o : Operation = its i (last_call r i t) q.action in
        let more : List Operation = os ++ o ∷ [] in
        let leaves = left q.word q.process q.leaves in
        let u : UnderCall r fits i (op_of q.action) t =
        subst (UnderAt r fits i t) q.busy (under r fits t i (omega arith) one) in
        let now = now_placed q.action u q.stepped in
        let no_end : IsEnd does.1 → ⊥ = λ ends. subst IsEnd q.stepped ends in
        record {
          word = q.word;
          word_is = leaves.word;
          count = leaves.count ∙ b.count;
          stages = stages_after more q.word q.process leaves
              (stage_map q.stage (λ none. absurd none)
              (λ g is. subst (Took i more) (sym is) (took_now i (last_call r i t) os q.action q.free)))
              (λ j his other. let differ : i ≢ j = λ same. other (sym same) in
              stage_map (b.stages j his) (λ free. All-push (IsNone j) os o free (λ same still. differ same))
              (λ g. took_more j os o g differ));
          placed = All-push (Placed r (suc t)) os o (all_longer os no_end b.placed) now;
          apart = pairs_push Apart (λ x. Placed r t x × IsNone i x) os o
              (λ x h. (
                other_call q.action u x h.0 h.1,
                λ before. let none : ◌≡◌ {A = Option ℕ} None (Some before.0) = before.1 in let no : ⊥ = cc in no,
              ))
              (recursion_from_All (λ x. Placed r t x × IsNone i x) os (λ k d lt. (b.placed k d lt, q.free k d lt)))
              b.apart;
          complete = λ x h some. elim (placed_shorter r t x some h) [
            | inl sooner ↦ Contains-append_left os (o ∷ []) x (b.complete x sooner some)
            | inr last ↦ absurd (ends_nothing x no_end h last)
          ];
          runs =
              subst (RunsTo (0 ∷ []) more) (sym q.after_is)
              (segments_more (0 ∷ []) os (b.word.datum ∷ []) o b.runs q.allows);
        }

    -- an item that ends one
    closes : (os : List Operation) (b : Book t os) → Closes (Took i os) S i b.word (process_at S i).status does →
        Book (suc t) (map (ended i (suc t)) os)
    closes os b q =
        let next : List Operation = map (ended i (suc t)) os in
        let leaves = left b.word q.process q.leaves in
        let mine : Operation = its i q.took.0 q.action in
        let its_place : Placed r t mine = All-contains (Placed r t) os mine b.placed q.took.1 in
        record {
          word = b.word;
          word_is = leaves.word;
          count = leaves.count ∙ b.count;
          stages = stages_after next b.word q.process leaves
              (stage_map q.stage (λ u. free_now i (suc t) os) (λ g none. absurd none))
              (λ j his other.
              stage_map (b.stages j his) (free_ended j i (suc t) os) (λ g. took_ended j i (suc t) os g other));
          placed = All-map (Placed r (suc t)) (ended i (suc t)) os
              (λ k d lt. placed_closed r t i (slice_index_or os k d) refl
              (λ his still. q.ends ∙ ap outcome_of (sym (q.took.2 k d lt his still))) (b.placed k d lt));
          apart = pairs_ended i (suc t) os
              (recursion_from_All (λ x. x.call < suc t) os
              (λ k d lt. let early : (slice_index_or os k d).call ≤ t = (b.placed k d lt).order in omega arith))
              b.apart;
          complete = λ x h some. elim (placed_shorter r t x some h) [
            | inl sooner ↦
                subst (Contains next)
                (ap (λ y. let o : Operation = record x { end = y } in o)
                (ended_once (nat_eq x.process i) (suc t) some.0 x.end some.1))
                (Contains-map (ended i (suc t)) os x (b.complete x sooner some))
            | inr last ↦ subst (Contains next) (same_one x h last q.action q.ends q.took.0 its_place)
                (Contains-map (ended i (suc t)) os mine q.took.1)
          ];
          runs = runs_ended i (suc t) (0 ∷ []) os (b.word.datum ∷ []) b.runs;
        }
      where
        same_one : (x : Operation) → Placed r (suc t) x → x.end ≡ Some (suc t) → (g : Action) →
            outcome_at r (suc t) ≡ outcome_of g → (c : ℕ) → Placed r t (its i c g) →
            ended i (suc t) (its i c g) ≡ x
        same_one x h last g out c its_place =
            let end = ended_at r (suc t) (suc t) x last h in
            let his : i ≡ x.process = end.2 in
            let calls : Calls r fits i (op_of x.action) x.call =
            (subst (λ k. item r x.call ≡ Call k (op_of x.action)) (sym his) h.call_is, h.called) in
            let same : c ≡ x.call =
            one_call r fits i (op_of g) (op_of x.action) c x.call (suc t) one its_place.first h.first
            (omega arith) end.0 (omega arith)
            (its_place.call_is, its_place.called) calls
            (λ v more less ends. its_place.end v more less ends.0 ends.1)
            (λ v more less ends. end.4 v more less (ends.0 ∙ his) ends.1) in
            let call : Call i (op_of g) ≡ Call i (op_of x.action) =
            sym its_place.call_is ∙ ap (item r) same ∙ calls.0 in
            let action : g ≡ x.action =
            same_action g x.action (let both : op_of g ≡ op_of x.action = cc in both) (sym out ∙ end.3) in
            let ends : end_at (nat_eq i i) (suc t) None ≡ x.end =
            ap (λ y. end_at y (suc t) None) (same_number i) ∙ sym last in
            λ k. record { process = his k; call = same k; end = ends k; action = action k }

    -- item t + 1, whatever it does
    next : (os : List Operation) → Book t os → Book (suc t) (booked_at r t os)
    next os b =
        let S_values : values S ≡ b.word.datum ∷ [] = ap (map (λ (x : Word). x.datum)) b.word_is in
        let there : IsOneOf (length S.processes) i = subst (λ m. IsOneOf m i) (sym b.count) one in
        elim (item_does n (Free i os) (Took i os) S b.word b.word_is (item r (suc t)) there (b.stages i one)) [
          | inl q ↦ subst (Book (suc t)) (sym (q.booked_is (last_call r i t) (suc t) (values S) os)) (quiet os b q)
          | inr more ↦ elim more [
            | inl q ↦ subst (Book (suc t)) (sym (q.booked_is (last_call r i t) (suc t) (values S) os S_values))
                (begins os b q)
            | inr q ↦ subst (Book (suc t)) (sym (q.booked_is (last_call r i t) (suc t) (values S) os)) (closes os b q)
          ]
        ]

  book : (t : ℕ) → t ≤ length items → Book t (taken r t)
  book zero le = first_book
  book (suc t) le = next t (omega arith) (taken r t) (book t (omega arith))

  pub linearizes : IsCompletedLinearization r (taken r (length items))
  linearizes =
      let os = taken r (length items) in
      let b = book (length items) (omega arith) in
      record {
        took_place = All-weaker (Placed r (length items)) (IsCompleted r) (completed r) os b.placed;
        once = λ j k d lt short. (all_pairs Apart os b.apart j k d lt short).0;
        complete = λ o took some. b.complete o (placed r o took some) some;
        order = keeps_order os
            (recursion_from_All (λ o. EndedBefore o o → ⊥) os
            (All-weaker (Placed r (length items)) (λ o. EndedBefore o o → ⊥)
            (not_before_itself r (length items)) os b.placed))
            b.apart;
        runs = starts_from (0 ∷ []) os (b.word.datum ∷ []) b.runs;
      }
