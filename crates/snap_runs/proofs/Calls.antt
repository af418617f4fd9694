-- The calls of a run, for any listing: under which one a process is, and that no two of a process are open at once.
use Rattle.std.proofs.Common.{◌≡◌, ◌≢◌, ℕ, zero, suc, ◌-◌, ◌<◌, ◌≤◌, true, List, length, None}
use Rattle.std.proofs.Common.{refl, sym, ◌∙◌, ap, subst, arith, inl, inr}
use Rattle.std.proofs.lemmas.Bool.{cases_eq}
use Rattle.std.proofs.lemmas.List.Elements.{All-from_recursion}
use Rattle.std.proofs.lemmas.List.{length-replicate, get_or-replicate}
use Rattle.std.proofs.Math.Nat.{eq-or-lt_of_le}
use Rattle.snap_runs.proofs.Common.{IsOneOf, Activity, Item, Step, Call, Op, Outcome, Called, Answered, Finished}
use Rattle.snap_runs.proofs.Common.{Process, State, who, Run, IsValidRun, state, item, outcome}
use Rattle.snap_semantics.specs.declared.process.Op.TheVariants as op
use Rattle.snap_semantics.specs.declared.process.Status.{Status}
use Rattle.snap_semantics.specs.declared.process.Status.TheVariants.{Idle, Busy}
use Rattle.snap_semantics.specs.State.{nobody, initial_process}
use Rattle.snap_semantics.specs.Table.{step, call}
use Rattle.snap_runs.specs.Operation.{EndsAreOfOperations}
use Rattle.snap_runs.specs.Scan.{FinishedScan, is_not_skipped}
use Rattle.snap_runs.specs.Update.{PendingUpdate}
use Rattle.snap_runs.proofs.Computing.{neither_less}
use Rattle.snap_runs.proofs.Embedding.{next_state}
use Rattle.snap_runs.proofs.Transitions.{MaySkip, Transition, skipped, calls, goes, answers, finishes, traps, crashes}
use Rattle.snap_runs.proofs.Transitions.{status_of, own_turn, same_count, other_status}

-- A process is at an operation that was called and has not ended, or has trapped or crashed.
abbrev pub Occupied : Op → Status → Type 0
Occupied o Idle = ⊥
Occupied o (Busy a) = a.op ≡ o
Occupied o _ = Unit {0}

-- how such an operation ends
abbrev pub EndsWith : Op → Outcome → Type 0
EndsWith op.Scan (Answered view) = Unit {0}
EndsWith (op.Update word value) Finished = Unit {0}
EndsWith _ _ = ⊥

-- how any operation ends
abbrev pub IsEnd : Outcome → Type 0
IsEnd (Answered view) = Unit {0}
IsEnd Finished = Unit {0}
IsEnd _ = ⊥

stays_occupied : {s s' : Status} {x : Item} {out : Outcome} (o : Op) → Transition s x out s' →
    (EndsWith o out → ⊥) → Occupied o s → Occupied o s'
stays_occupied o (calls i p line) not_end h = absurd h
stays_occupied o (answers i a view is) not_end h =
    absurd (not_end (subst (λ p. EndsWith p (Answered view)) (sym is ∙ h) tt))
stays_occupied o (finishes i a word value is) not_end h =
    absurd (not_end (subst (λ p. EndsWith p Finished) (sym is ∙ h) tt))
stays_occupied o (traps i a cause) not_end h = tt
stays_occupied o (crashes i s was) not_end h = tt
stays_occupied o _ not_end h = h

-- a call finds its process idle, and occupies it
is_called : {s s' : Status} {x : Item} {out : Outcome} (i : ℕ) (o : Op) → Transition s x out s' → out ≡ Called →
    x ≡ Call i o → (s ≡ Idle) × Occupied o s'
is_called i o (calls k p line) out is = (refl, cc)
is_called i o other out is = absurd (cc)

-- an answer ends a scan, and a finish an update
is_answered : {s s' : Status} {x : Item} {out : Outcome} (view : List ℕ) → Transition s x out s' → out ≡ Answered view →
    (a : Activity) × (s ≡ Busy a) × (a.op ≡ op.Scan)
is_answered v (answers k a view e) out = (a, refl, e)
is_answered v other out = absurd (cc)

is_finished : {s s' : Status} {x : Item} {out : Outcome} → Transition s x out s' → out ≡ Finished →
    (a : Activity) × (word : ℕ) × (value : ℕ) × (s ≡ Busy a) × (a.op ≡ op.Update word value)
is_finished (finishes k a word value e) out = (a, word, value, refl, e)
is_finished other out = absurd (cc)

-- a busy process that steps is not skipped
pub is_not_skipped_there : {s s' : Status} {x : Item} {out : Outcome} (i : ℕ) (a : Activity) → Transition s x out s' →
    s ≡ Busy a → x ≡ Step i → is_not_skipped out ≡ true
is_not_skipped_there i a (skipped s x why may) is step =
    absurd (subst (λ y. MaySkip (Busy a) y) step (subst (λ y. MaySkip y x) is may))
is_not_skipped_there i a other is step = refl

module _ (r : Run) (fits : IsValidRun r) where
  abbrev pub status : ℕ → ℕ → Status
  status t i = status_of (state r t) i

  pub item_one : (t : ℕ) → t < length r.items → IsOneOf r.shape.n (who (item r (suc t)))
  item_one t h = All-from_recursion (λ y. IsOneOf r.shape.n (who y)) r.items fits.all t (Step 0) h

  processes_count : (t : ℕ) → t ≤ length r.items → length (state r t).processes ≡ r.shape.n
  processes_count zero h = length-replicate r.shape.n (initial_process r.source r.shape)
  processes_count (suc t) h =
      ap (λ (S : State). length S.processes) (next_state r t (omega arith))
      ∙ same_count r.source r.shape (state r t) (item r (suc t))
      ∙ processes_count t (omega arith)

  pub turn : (t i : ℕ) → t < length r.items → IsOneOf r.shape.n i → who (item r (suc t)) ≡ i →
      Transition (status t i) (item r (suc t)) (outcome r (suc t)) (status (suc t) i)
  turn t i h one his =
      let k = who (item r (suc t)) in
      subst (λ j. Transition (status t j) (item r (suc t)) (outcome r (suc t)) (status (suc t) j)) his
      (subst (λ (S : State). Transition (status t k) (item r (suc t)) (outcome r (suc t)) (status_of S k))
      (sym (next_state r t h))
      (own_turn r.source r.shape (state r t) (item r (suc t)) (processes_count t (omega arith)) (item_one t h)))

  pub other_turn : (t i : ℕ) → t < length r.items → IsOneOf r.shape.n i →
      who (item r (suc t)) ≢ i → status (suc t) i ≡ status t i
  other_turn t i h one other =
      ap (λ (S : State). status_of S i) (next_state r t h)
      ∙ other_status r.source r.shape (state r t) (item r (suc t)) i (item_one t h).0 one.0 other

  -- item c is such a call
  abbrev pub Calls : ℕ → Op → ℕ → Type 0
  Calls i o c = (item r c ≡ Call i o) × (outcome r c ≡ Called)

  -- item u ends such an operation
  abbrev pub EndsAt : ℕ → Op → ℕ → Type 0
  EndsAt i o u = (who (item r u) ≡ i) × EndsWith o (outcome r u)

  -- from its call on a process is occupied until the operation ends
  pub occupied : (i : ℕ) (o : Op) (c t : ℕ) → IsOneOf r.shape.n i → 0 < c → c ≤ t → t ≤ length r.items → Calls i o c →
      ((u : ℕ) → c < u → u ≤ t → EndsAt i o u → ⊥) → Occupied o (status t i)
  occupied i o c zero one pos le short call still = absurd (omega arith)
  occupied i o c (suc t) one pos le short call still =
      elim (eq-or-lt_of_le le) [
        | inl same ↦ (let is : item r (suc t) ≡ Call i o = subst (λ y. item r y ≡ Call i o) same call.0 in
            let out : outcome r (suc t) ≡ Called = subst (λ y. outcome r y ≡ Called) same call.1 in
            (is_called i o (turn t i (omega arith) one (ap who is)) out is).1)
        | inr more ↦ (let past : Occupied o (status t i) =
            occupied i o c t one pos (omega arith) (omega arith) call (λ u lt less. still u lt (omega arith)) in
            elim (cases_eq (who (item r (suc t))) i) [
              | inl his ↦
                  stays_occupied o (turn t i (omega arith) one his)
                  (λ ends. still (suc t) (omega arith) (omega arith) (his, ends)) past
              | inr other ↦ subst (Occupied o) (sym (other_turn t i (omega arith) one other)) past
            ])
      ]

  -- no call of a process finds an open one
  not_called : (i : ℕ) (o p : Op) (c d : ℕ) → IsOneOf r.shape.n i → 0 < c → c < d → d ≤ length r.items → Calls i o c →
      Calls i p d → ((u : ℕ) → c < u → u < d → EndsAt i o u → ⊥) → ⊥
  not_called i o p c zero one pos lt short call again still = omega arith
  not_called i o p c (suc t) one pos lt short call again still =
      let past : Occupied o (status t i) =
      occupied i o c t one pos (omega arith) (omega arith) call (λ u less le. still u less (omega arith)) in
      subst (Occupied o) (is_called i p (turn t i (omega arith) one (ap who again.0)) again.1 again.0).0 past

  -- two calls of a process that are open before an item are one
  pub one_call : (i : ℕ) (o p : Op) (c d t : ℕ) → IsOneOf r.shape.n i → 0 < c →
      0 < d → c < t → d < t → t ≤ length r.items → Calls i o c → Calls i p d →
      ((u : ℕ) → c < u → u < t → EndsAt i o u → ⊥) → ((u : ℕ) → d < u → u < t → EndsAt i p u → ⊥) → c ≡ d
  one_call i o p c d t one pc pd lc ld short call again still_c still_d =
      neither_less c d
      (λ less. not_called i o p c d one pc less (omega arith) call again (λ u lt le. still_c u lt (omega arith)))
      (λ more. not_called i p o d c one pd more (omega arith) again call (λ u lt le. still_d u lt (omega arith)))

  -- item c called this operation of process i, and it has not ended up to item t
  pub record UnderCall (i : ℕ) (o : Op) (t : ℕ) : Type 0 where
    pub call : ℕ
    pub is : Calls i o call
    pub first : 0 < call
    pub order : call ≤ t
    pub open_still : (u : ℕ) → call < u → u ≤ t → who (item r u) ≡ i → IsEnd (outcome r u) → ⊥

  abbrev pub UnderAt : ℕ → ℕ → Status → Type 0
  UnderAt i t (Busy a) = UnderCall i a.op t
  UnderAt i t _ = Unit {0}

  longer : (i t : ℕ) (o : Op) → (who (item r (suc t)) ≡ i → IsEnd (outcome r (suc t)) → ⊥) →
      UnderCall i o t → UnderCall i o (suc t)
  longer i t o not_end h = record {
    call = h.call;
    is = h.is;
    first = h.first;
    order = (let le : h.call ≤ t = h.order in omega arith);
    open_still = λ u lt le his ends. elim (eq-or-lt_of_le le) [
      | inl same ↦ not_end (subst (λ y. who (item r y) ≡ i) same his) (subst (λ y. IsEnd (outcome r y)) same ends)
      | inr less ↦ h.open_still u lt (omega arith) his ends
    ];
  }

  longer_at : (i t : ℕ) (s : Status) → (who (item r (suc t)) ≡ i → IsEnd (outcome r (suc t)) → ⊥) →
      UnderAt i t s → UnderAt i (suc t) s
  longer_at i t (Busy a) not_end h = longer i t a.op not_end h
  longer_at i t _ not_end h = tt

  next_under : {s s' : Status} {x : Item} {out : Outcome} (i t : ℕ) → Transition s x out s' → item r (suc t) ≡ x →
      outcome r (suc t) ≡ out → who (item r (suc t)) ≡ i → UnderAt i t s → UnderAt i (suc t) s'
  next_under i t (skipped s x why may) is comes his h = longer_at i t s (λ own ends. subst IsEnd comes ends) h
  next_under i t (calls k o line) is comes his h =
      let same : k ≡ i = sym (ap who is) ∙ his in
      record {
        call = suc t;
        is = (is ∙ ap (λ y. Call y o) same, comes);
        first = omega arith;
        order = omega arith;
        open_still = λ u lt le own ends. absurd (omega arith);
      }
  next_under i t (goes k a line link) is comes his h = longer i t a.op (λ own ends. subst IsEnd comes ends) h
  next_under i t _ is comes his h = tt

  -- a busy process is under a call
  pub under : (t i : ℕ) → t ≤ length r.items → IsOneOf r.shape.n i → UnderAt i t (status t i)
  under zero i h one =
      subst (UnderAt i 0) (sym (ap (λ (p : Process). p.status)
      (get_or-replicate r.shape.n (i - 1) (initial_process r.source r.shape) nobody (omega arith)))) tt
  under (suc t) i h one =
      elim (cases_eq (who (item r (suc t))) i) [
        | inl his ↦ next_under i t (turn t i (omega arith) one his) refl refl his (under t i (omega arith) one)
        | inr other ↦ subst (UnderAt i (suc t)) (sym (other_turn t i (omega arith) one other))
            (longer_at i t (status t i) (λ own ends. other own) (under t i (omega arith) one))
      ]

  -- Each answer is the end of a scan that was called.
  pub answer_ends : (t : ℕ) (view : List ℕ) → t < length r.items → outcome r (suc t) ≡ Answered view →
      (c : ℕ) × FinishedScan r (who (item r (suc t))) None c (suc t) view
  answer_ends t view h out =
      let i = who (item r (suc t)) in
      let one = item_one t h in
      let was = is_answered view (turn t i h one refl) out in
      let u : UnderCall i op.Scan t =
      subst (λ o. UnderCall i o t) was.2 (subst (UnderAt i t) was.1 (under t i (omega arith) one)) in (
        u.call,
        record {
          scan = record {
            process = one;
            starts = u.is;
            first = u.first;
            order = omega arith;
            last = omega arith;
            goes_on = λ y v lt less ends. u.open_still y lt (omega arith) ends.0 (subst IsEnd (sym ends.1) tt);
          };
          order = omega arith;
          ends = (refl, out);
        },
      )

  -- Each end of an update is that of one that was called.
  pub finish_ends : (t : ℕ) → t < length r.items → outcome r (suc t) ≡ Finished →
      (c : ℕ) × (word : ℕ) × (value : ℕ) × PendingUpdate r (who (item r (suc t))) word value c (suc t) × (c < suc t)
  finish_ends t h out =
      let i = who (item r (suc t)) in
      let one = item_one t h in
      let was = is_finished (turn t i h one refl) out in
      let u : UnderCall i (op.Update was.1 was.2) t =
      subst (λ o. UnderCall i o t) was.4 (subst (UnderAt i t) was.3 (under t i (omega arith) one)) in (
        u.call,
        was.1,
        was.2,
        record {
          process = one;
          call = u.is.0;
          called = u.is.1;
          first = u.first;
          order = omega arith;
          last = omega arith;
          goes_on = λ y lt less done. u.open_still y lt (omega arith) done.0 (subst IsEnd (sym done.1) tt);
        },
        omega arith,
      )

pub ends_are_of_operations : EndsAreOfOperations
ends_are_of_operations r fits t h = (
  λ view out. answer_ends r fits t view h out,
  λ out. let x = finish_ends r fits t h out in (x.0, x.1, x.2, (x.3, x.4, (refl, out))),
)
