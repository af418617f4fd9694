-- The next event of a process, and what may come after an event.
use Rattle.std.proofs.Common.{◌≡◌, ℕ, ◌<◌, ◌⊎◌, List, [], ◌∷◌, refl, ap, sym, subst, arith, inl, inr, ◌∙◌}
use Rattle.std.proofs.Common.{Option, Some, None, Bool, if◌then◌else◌}
use Rattle.std.specs.List.{AllPairs, Contains}
use Rattle.std.proofs.lemmas.Bool.{cases_eq, eq-eqb, ne_eqb}
use Rattle.snap_words.specs.Shape.{Counts, IsOneOf}
use Rattle.snap_semantics.specs.declared.event.Event.{Event}
use Rattle.snap_semantics.specs.declared.event.Happening.{Happening}
use Rattle.snap_semantics.specs.declared.event.Happening.TheVariants as what
use Rattle.snap_semantics.specs.declared.process.Op.{Op}
use Rattle.snap_semantics.specs.declared.process.Op.TheVariants as op
use Rattle.snap_judge.specs.History.{Busy, Caller, Free, Gone, MayCome, MayFollow, caller_after, with_caller}
use Rattle.snap_judge.specs.Steps.{next_of}
use Rattle.snap_judge.proofs.ExplainedLists.{contains_cases, contains_head, contains_none, contains_tail, pairs_head}
use Rattle.snap_judge.proofs.ExplainedLists.{pairs_tail}

-- The first event's number is below the second one's.
abbrev pub Rises : Event → Event → Type 0
Rises a b = a.item < b.item

-- what a process is at after an event: of its own, or of another process
pub with_same : (callers : ℕ → Caller) (i j : ℕ) (c : Caller) → j ≡ i → with_caller callers i c j ≡ c
with_same callers i j c same = ap (λ (t : Bool). if t then c else callers j) (eq-eqb j i same)

pub with_other : (callers : ℕ → Caller) (i j : ℕ) (c : Caller) → (j ≡ i → ⊥) → with_caller callers i c j ≡ callers j
with_other callers i j c other = ap (λ (t : Bool). if t then c else callers j) (ne_eqb j i other)

next_here : (i : ℕ) (e : Event) (es : List Event) → e.process ≡ i → next_of i (e ∷ es) ≡ Some e
next_here i e es same = ap (λ (t : Bool). if t then Some e else next_of i es) (eq-eqb e.process i same)

next_later : (i : ℕ) (e : Event) (es : List Event) → (e.process ≡ i → ⊥) → next_of i (e ∷ es) ≡ next_of i es
next_later i e es other = ap (λ (t : Bool). if t then Some e else next_of i es) (ne_eqb e.process i other)

-- The next event of a process is the one with no other of that process before it.
pub next_is : (i : ℕ) (es : List Event) (x : Event) → AllPairs Rises es → Contains es x → x.process ≡ i →
    ((z : Event) → Contains es z → z.process ≡ i → z.item < x.item → ⊥) → next_of i es ≡ Some x
next_is i [] x rising has its none = absurd (contains_none x has)
next_is i (e ∷ es) x rising has its none = elim (contains_cases e x es has) [
  | inl same ↦ next_here i e es (ap (λ (z : Event). z.process) same ∙ its) ∙ ap Some same
  | inr later ↦ elim (cases_eq e.process i) [
    | inl here ↦ absurd (none e (contains_head e es) here (pairs_head Rises e x es rising later))
    | inr other ↦ next_later i e es other
        ∙ next_is i es x (pairs_tail Rises e es rising) later its (λ z h. none z (contains_tail e z es h))
  ]
]

-- Event x of process i is there, and no other of that process stands before it.
pub record IsNext (i : ℕ) (es : List Event) (x : Event) : Type 0 where
  pub there : Contains es x
  pub its : x.process ≡ i
  pub first : (z : Event) → Contains es z → z.process ≡ i → z.item < x.item → ⊥

pub next_some : (i : ℕ) (es : List Event) (x : Event) → AllPairs Rises es → next_of i es ≡ Some x → IsNext i es x
next_some i [] x rising is = absurd (let no : ◌≡◌ {A = Option Event} None (Some x) = is in cc)
next_some i (e ∷ es) x rising is = elim (cases_eq e.process i) [
  | inl here ↦ (let both : Some e ≡ Some x = sym (next_here i e es here) ∙ is in let same : e ≡ x = cc in
      record {
        there = subst (Contains (e ∷ es)) same (contains_head e es);
        its = subst (λ (z : Event). z.process ≡ i) same here;
        first = λ z h its less. elim (contains_cases e z es h) [
          | inl first ↦ (let one : x.item ≡ z.item = ap (λ (y : Event). y.item) (sym same ∙ first) in omega arith)
          | inr later ↦ (let one : e.item ≡ x.item = ap (λ (y : Event). y.item) same in
              let up : e.item < z.item = pairs_head Rises e z es rising later in omega arith)
        ];
      })
  | inr other ↦ (let next = next_some i es x (pairs_tail Rises e es rising) (sym (next_later i e es other) ∙ is) in
      record {
        there = contains_tail e x es next.there;
        its = next.its;
        first = λ z h its. elim (contains_cases e z es h) [
          | inl first ↦ absurd (other (ap (λ (y : Event). y.process) first ∙ its))
          | inr later ↦ next.first z later its
        ];
      })
]

pub next_none : (i : ℕ) (es : List Event) → next_of i es ≡ None → (z : Event) → Contains es z → z.process ≡ i → ⊥
next_none i [] is z has its = contains_none z has
next_none i (e ∷ es) is z has its = elim (cases_eq e.process i) [
  | inl here ↦ (let no : Some e ≡ None = sym (next_here i e es here) ∙ is in cc)
  | inr other ↦ elim (contains_cases e z es has) [
    | inl first ↦ other (ap (λ (y : Event). y.process) first ∙ its)
    | inr later ↦ next_none i es (sym (next_later i e es other) ∙ is) z later its
  ]
]

-- a crashed process comes to nothing
gone_stays : (shape : Counts) (w : Happening) → MayCome shape Gone w → ⊥
gone_stays shape w h = grind arith

none_gone : (shape : Counts) (callers : ℕ → Caller) (es : List Event) (i : ℕ) → callers i ≡ Gone →
    MayFollow shape callers es → (z : Event) → Contains es z → z.process ≡ i → ⊥
none_gone shape callers [] i is f z has its = contains_none z has
none_gone shape callers (e ∷ es) i is f z has its = elim (cases_eq i e.process) [
  | inl here ↦ gone_stays shape e.what
      (subst (λ (c : Caller). MayCome shape c e.what) (ap callers (sym here) ∙ is) f.1)
  | inr other ↦ elim (contains_cases e z es has) [
    | inl first ↦ other (sym (ap (λ (y : Event). y.process) first ∙ its))
    | inr later ↦ none_gone shape (with_caller callers e.process (caller_after e.what)) es i
        (with_other callers e.process i (caller_after e.what) other ∙ is) f.2 z later its
  ]
]

-- an update is done, or its process crashes
update_ends : (shape : Counts) (word value : ℕ) (w : Happening) → MayCome shape (Busy (op.Update word value)) w →
    (w ≡ what.Done) ⊎ (w ≡ what.Crash)
update_ends shape word value w h = grind arith

pub update_next : (shape : Counts) (callers : ℕ → Caller) (es : List Event) (i word value : ℕ) (x : Event) →
    callers i ≡ Busy (op.Update word value) → MayFollow shape callers es → next_of i es ≡ Some x →
    (x.what ≡ what.Done)
    ⊎ ((x.what ≡ what.Crash) × ((z : Event) → Contains es z → z.process ≡ i → z.what ≡ what.Crash))
update_next shape callers [] i word value x is f next =
    absurd (let no : ◌≡◌ {A = Option Event} None (Some x) = next in cc)
update_next shape callers (e ∷ es) i word value x is f next = elim (cases_eq i e.process) [
  | inl here ↦ (let both : Some e ≡ Some x = sym (next_here i e es (sym here)) ∙ next in let same : e ≡ x = cc in
      elim (update_ends shape word value e.what
      (subst (λ (c : Caller). MayCome shape c e.what) (ap callers (sym here) ∙ is) f.1)) [
        | inl done ↦ inl (subst (λ (y : Event). y.what ≡ what.Done) same done)
        | inr crash ↦ inr (
          subst (λ (y : Event). y.what ≡ what.Crash) same crash,
          λ z has its. elim (contains_cases e z es has) [
            | inl first ↦ subst (λ (y : Event). y.what ≡ what.Crash) first crash
            | inr later ↦ absurd (none_gone shape (with_caller callers e.process (caller_after e.what)) es i
                (with_same callers e.process i (caller_after e.what) here ∙ ap caller_after crash) f.2 z later its)
          ],
        )
      ])
  | inr other ↦ (let apart : e.process ≡ i → ⊥ = λ e'. other (sym e') in
      elim (update_next shape (with_caller callers e.process (caller_after e.what)) es i word value x
      (with_other callers e.process i (caller_after e.what) other ∙ is) f.2
      (sym (next_later i e es apart) ∙ next)) [
        | inl done ↦ inl done
        | inr crash ↦ inr (
          crash.0,
          λ z has its. elim (contains_cases e z es has) [
            | inl first ↦ absurd (apart (ap (λ (y : Event). y.process) first ∙ its))
            | inr later ↦ crash.1 z later its
          ],
        )
      ])
]

-- what a process was at that answers or is done, and what it does that is at an operation afterwards
pub answers_scan : (shape : Counts) (c : Caller) (view : List ℕ) → MayCome shape c (what.Answer view) → c ≡ Busy op.Scan
answers_scan shape c view h = grind arith

pub done_update : (shape : Counts) (c : Caller) → MayCome shape c what.Done →
    (word : ℕ) × (value : ℕ) × (c ≡ Busy (op.Update word value))
done_update shape Free h = absurd h
done_update shape (Busy op.Scan) h = absurd h
done_update shape (Busy (op.Update word value)) h = (word, value, refl)
done_update shape Gone h = absurd h

pub busy_after_call : (w : Happening) (o : Op) → caller_after w ≡ Busy o → w ≡ what.Call o
busy_after_call w o is = grind arith

-- each event is one of a process that there is
pub process_of : (shape : Counts) (callers : ℕ → Caller) (es : List Event) → MayFollow shape callers es →
    (e : Event) → Contains es e → IsOneOf shape.n e.process
process_of shape callers [] f e has = absurd (contains_none e has)
process_of shape callers (x ∷ es) f e has = elim (contains_cases x e es has) [
  | inl same ↦ subst (λ (y : Event). IsOneOf shape.n y.process) same f.0
  | inr later ↦ process_of shape (with_caller callers x.process (caller_after x.what)) es f.2 e later
]
