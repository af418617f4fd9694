-- The events of a run of any listing are a history: their numbers rise, and each process calls, then what it called
-- ends as it has to, then it calls again, until it crashes.
use Rattle.std.proofs.Common.{rules, ◌≡◌, ℕ, zero, suc, ◌+◌, ◌-◌, ◌<◌, ◌≤◌, Bool, true, false, ◌&&◌, List, [], ◌∷◌}
use Rattle.std.proofs.Common.{◌++◌, Option, Some, None, if◌then◌else◌, length, nat_lt, inl, inr, refl, sym, ap, subst, ◌∙◌}
use Rattle.std.proofs.Common.{arith}
use Rattle.std.specs.List.{AllByRecursion, AllPairs}
use Rattle.std.specs.Prelude.{nat_le}
use Rattle.std.proofs.lemmas.Bool.{cases_eq}
use Rattle.std.proofs.lemmas.List.{get_or-replicate}
use Rattle.std.proofs.lemmas.List.Elements.{All-from_recursion}
use Rattle.snap_words.specs.Shape.{Counts, IsOneOf}
use Rattle.snap_semantics.specs.IsListing.{IsListing}
use Rattle.snap_semantics.specs.RightUses.{HasRightUses}
use Rattle.snap_semantics.specs.Run.{event_of, events}
use Rattle.snap_semantics.specs.Source.{Source, instr_at}
use Rattle.snap_semantics.specs.State.{Locals, Process, State, initial_process, nobody, process_at, value_at}
use Rattle.snap_semantics.specs.Table.{call, called, crash, done, owner_skip, who}
use Rattle.snap_semantics.specs.declared.event.Event.{Event}
use Rattle.snap_semantics.specs.declared.event.Happening.TheVariants as what
use Rattle.snap_semantics.specs.declared.instr.Instr.{Instr}
use Rattle.snap_semantics.specs.declared.instr.Instr.TheVariants.{Return}
use Rattle.snap_semantics.specs.declared.process.Activity.{Activity}
use Rattle.snap_semantics.specs.declared.process.Item.{Item}
use Rattle.snap_semantics.specs.declared.process.Item.TheVariants as item
use Rattle.snap_semantics.specs.declared.process.Op.{Op}
use Rattle.snap_semantics.specs.declared.process.Op.TheVariants as op
use Rattle.snap_semantics.specs.declared.process.Outcome.{Outcome}
use Rattle.snap_semantics.specs.declared.process.Outcome.TheVariants as outcome
use Rattle.snap_semantics.specs.declared.process.Reason.{Reason}
use Rattle.snap_semantics.specs.declared.process.Reason.TheVariants as reason
use Rattle.snap_semantics.specs.declared.process.Status.{Status}
use Rattle.snap_semantics.specs.declared.process.Status.TheVariants as status
use Rattle.snap_runs.specs.Run.{IsValidRun, Run, item as item_at, state}
use Rattle.snap_runs.specs.StepRoles.{Answer, Nothing, line_step_role, returned, step_role_at, step_role_in}
use Rattle.snap_runs.proofs.Calls.{item_one, other_turn, turn}
use Rattle.snap_runs.proofs.Embedding.{next_state}
use Rattle.snap_runs.proofs.OneItem.{answer_is}
use Rattle.snap_runs.proofs.Transitions.{Transition, answers, calls, crashes, finishes, goes, skipped, status_of, traps}
use Rattle.snap_record.proofs.Later.{events_after}
use Rattle.snap_record.proofs.Events.{all_events, events_from, next_events, no_events}
use Rattle.snap_asm_program.proofs.Declared.{is_view}
use Rattle.snap_machine.specs.Sizes.{AreSized}
use Rattle.snap_judge.specs.History.{Busy, Caller, Free, Gone, MayCome, MayFollow, with_caller}
use Rattle.snap_judge.proofs.ExplainedNext.{with_other, with_same}
use Rattle.snap_run_judge.specs.RunHistory.{RunsHaveHistories}
use Rattle.snap_run_judge.proofs.Sizes.{IsSized, done_sized, initial_sized, own_sized, right_instr}

-- what a process is at as its callers see it
abbrev caller_of : Status → Caller
caller_of status.Idle = Free
caller_of (status.Busy a) = Busy a.op
caller_of (status.Trapped cause a) = Busy a.op
caller_of (status.Crashed was) = Gone

-- The numbers of events rise.
abbrev IsStrict : List Event → Type 0
IsStrict [] = Unit {0}
IsStrict (e ∷ es) = AllByRecursion (λ (f : Event). e.item < f.item) es × IsStrict es

event_strict : (t : ℕ) (x : Item) (o : Outcome) (es : List Event) → AllByRecursion (λ (e : Event). t < e.item) es →
    IsStrict es → IsStrict (event_of t x o ++ es)
event_strict t (item.Step i) outcome.Called es later strict = strict
event_strict t (item.Call i o) outcome.Called es later strict = (later, strict)
event_strict t (item.Crash i) outcome.Called es later strict = strict
event_strict t x outcome.Stepped es later strict = strict
event_strict t x (outcome.Answered v) es later strict = (later, strict)
event_strict t x outcome.Finished es later strict = (later, strict)
event_strict t x (outcome.Trapped c) es later strict = strict
event_strict t x outcome.Crashed es later strict = (later, strict)
event_strict t x (outcome.Skipped c) es later strict = strict

are_later : (t : ℕ) (es : List Event) → AllByRecursion (λ (e : Event). t + 1 ≤ e.item) es →
    AllByRecursion (λ (e : Event). t < e.item) es
are_later t [] h = tt
are_later t (e ∷ es) h = (let le : t + 1 ≤ e.item = h.0 in omega (arith, le), are_later t es h.1)

events_strict : (s : Source) (n : Counts) (S : State) (t : ℕ) (xs : List Item) → IsStrict (events s n S t xs)
events_strict s n S t [] = tt
events_strict s n S t (x ∷ xs) =
    let S' = (done s n S x).0 in
    event_strict t x (done s n S x).1 (events s n S' (t + 1) xs)
    (are_later t (events s n S' (t + 1) xs) (events_after s n S' (t + 1) (t + 1) xs (omega arith)))
    (events_strict s n S' (t + 1) xs)

pairs_rise : (es : List Event) → IsStrict es → AllPairs (λ (a b : Event). a.item < b.item) es
pairs_rise [] h i j d lt within = absurd (omega (arith, within))
pairs_rise (e ∷ es) h i zero d lt within = absurd (omega (arith, lt))
pairs_rise (e ∷ es) h zero (suc j) d lt within =
    All-from_recursion (λ (f : Event). e.item < f.item) es h.0 j d (omega (arith, within))
pairs_rise (e ∷ es) h (suc i) (suc j) d lt within = pairs_rise es h.1 i j d (omega (arith, lt)) (omega (arith, within))

-- an answer is as long as the view of the line that answers
returned_long : (w : ℕ) (seen v : List ℕ) (o : Op) (link : Option ℕ) → returned seen o link ≡ Answer v →
    length seen ≡ w → length v ≡ w
returned_long w seen v op.Scan None e h = let same : seen ≡ v = cc in subst (λ (u : List ℕ). length u ≡ w) same h
returned_long w seen v op.Scan (Some link) e h = absurd cc
returned_long w seen v (op.Update word value) link e h = absurd cc

line_long : (s : Source) (shape : Counts) (a : Activity) (l : Locals) (i : Instr) (v : List ℕ) → AreSized s shape l →
    HasRightUses s i → line_step_role a l i ≡ Answer v → length v ≡ shape.w
line_long s shape a l (Return x) v h right e =
    returned_long shape.w (value_at x l.views []) v a.op a.link e (h.views x (is_view s x right.0))
line_long s shape a l _ v h right e = absurd cc

module _ (s : Source) (shape : Counts) (listing : IsListing s) where
  at_long : (a : Activity) (l : Locals) (found : Option Instr) (v : List ℕ) → instr_at s.lines a.line ≡ found →
      AreSized s shape l → step_role_at a l found ≡ Answer v → length v ≡ shape.w
  at_long a l None v is h e = absurd cc
  at_long a l (Some i) v is h e = line_long s shape a l i v h (right_instr s s.lines listing.lines a.line i is) e

  in_long : (l : Locals) (stands : Status) (v : List ℕ) → AreSized s shape l →
      step_role_in s l stands ≡ Answer v → length v ≡ shape.w
  in_long l status.Idle v h e = absurd cc
  in_long l (status.Busy a) v h e = at_long a l (instr_at s.lines a.line) v refl h e
  in_long l (status.Trapped cause a) v h e = absurd cc
  in_long l (status.Crashed was) v h e = absurd cc

  answer_long : (S : State) (x : Item) (v : List ℕ) → IsSized s shape S → IsOneOf shape.n (who x) →
      (done s shape S x).1 ≡ outcome.Answered v → length v ≡ shape.w
  answer_long S (item.Step i) v h one e =
      in_long (process_at S i).locals (process_at S i).status v (own_sized s shape listing S i h one)
      (answer_is s shape S (item.Step i) v e)
  answer_long S (item.Call i o) v h one e =
      absurd (let wrong : Nothing ≡ Answer v = answer_is s shape S (item.Call i o) v e in cc)
  answer_long S (item.Crash i) v h one e =
      absurd (let wrong : Nothing ≡ Answer v = answer_is s shape S (item.Crash i) v e in cc)

-- a word that there is
one_of : (count k : ℕ) → (nat_lt 0 k && nat_le k count) ≡ true → IsOneOf count k
one_of count k e = (search rules, search rules)

-- a call that is not skipped is of a word that there is
word_there : (s : Source) (S : State) (i : ℕ) (p : Process) (o : Op) (b : Bool) (why : Option Reason) →
    (called s S i p o (if b then why else Some reason.NoSuchWord)).1 ≡ outcome.Called → b ≡ true
word_there s S i p o true why e = refl
word_there s S i p o false why e = absurd cc

called_word : (s : Source) (shape : Counts) (S : State) (i word value : ℕ) (p : Process) (stands : Status) →
    (call s shape S i (op.Update word value) p stands).1 ≡ outcome.Called → IsOneOf shape.w word
called_word s shape S i word value p (status.Trapped cause a) e = absurd cc
called_word s shape S i word value p (status.Crashed was) e = absurd cc
called_word s shape S i word value p (status.Busy a) e = absurd cc
called_word s shape S i word value p status.Idle e =
    one_of shape.w word
    (word_there s S i p (op.Update word value) (nat_lt 0 word && nat_le word shape.w) (owner_skip s.kind i word) e)

crash_busy : (shape : Counts) (o : Op) → MayCome shape (Busy o) what.Crash
crash_busy shape op.Scan = tt
crash_busy shape (op.Update word value) = tt

crash_may : (shape : Counts) (S : State) (i : ℕ) (p : Process) (stands : Status) →
    (crash S i p stands).1 ≡ outcome.Crashed → MayCome shape (caller_of stands) what.Crash
crash_may shape S i p (status.Trapped cause a) e = absurd cc
crash_may shape S i p (status.Crashed was) e = absurd cc
crash_may shape S i p (status.Busy a) e = crash_busy shape a.op
crash_may shape S i p status.Idle e = tt

call_may : (shape : Counts) (o : Op) → ((word value : ℕ) → o ≡ op.Update word value → IsOneOf shape.w word) →
    MayCome shape Free (what.Call o)
call_may shape op.Scan h = tt
call_may shape (op.Update word value) h = h word value refl

module _ (s : Source) (shape : Counts) (S : State) where
  -- a call of an update, and a crash, where they are not skipped
  call_there : (x : Item) (i word value : ℕ) → x ≡ item.Call i (op.Update word value) →
      (done s shape S x).1 ≡ outcome.Called → IsOneOf shape.w word
  call_there x i word value is e =
      called_word s shape S i word value (process_at S i) (process_at S i).status
      (subst (λ (y : Item). (done s shape S y).1 ≡ outcome.Called) is e)

  crash_there : (x : Item) (i : ℕ) → x ≡ item.Crash i → (done s shape S x).1 ≡ outcome.Crashed →
      MayCome shape (caller_of (status_of S i)) what.Crash
  crash_there x i is e =
      crash_may shape S i (process_at S i) (process_at S i).status
      (subst (λ (y : Item). (done s shape S y).1 ≡ outcome.Crashed) is e)

-- What an item tells may come, and then what follows it.
one_event : {stands stands' : Status} {x : Item} {o : Outcome} → Transition stands x o stands' → (t : ℕ)
    (shape : Counts) (callers : ℕ → Caller) (rest : List Event) → IsOneOf shape.n (who x) →
    callers (who x) ≡ caller_of stands →
    ((i word value : ℕ) → x ≡ item.Call i (op.Update word value) → o ≡ outcome.Called → IsOneOf shape.w word) →
    ((v : List ℕ) → o ≡ outcome.Answered v → length v ≡ shape.w) →
    ((i : ℕ) → x ≡ item.Crash i → o ≡ outcome.Crashed → MayCome shape (caller_of stands) what.Crash) →
    (caller_of stands' ≡ caller_of stands → MayFollow shape callers rest) →
    MayFollow shape (with_caller callers (who x) (caller_of stands')) rest →
    MayFollow shape callers (event_of t x o ++ rest)
one_event (skipped stands x why may) t shape callers rest one is word long crash quiet told = quiet refl
one_event (calls i o line) t shape callers rest one is word long crash quiet told = (
  one,
  subst (λ (c : Caller). MayCome shape c (what.Call o)) (sym is)
      (call_may shape o (λ k value e. word i k value (ap (item.Call i) e) refl)),
  told,
)
one_event (goes i a line link) t shape callers rest one is word long crash quiet told = quiet refl
one_event (answers i a v e) t shape callers rest one is word long crash quiet told = (
  one,
  subst (λ (c : Caller). MayCome shape c (what.Answer v)) (sym (is ∙ ap Busy e)) (long v refl),
  told,
)
one_event (finishes i a k value e) t shape callers rest one is word long crash quiet told = (
  one,
  subst (λ (c : Caller). MayCome shape c what.Done) (sym (is ∙ ap Busy e)) tt,
  told,
)
one_event (traps i a cause) t shape callers rest one is word long crash quiet told = quiet refl
one_event (crashes i stands was) t shape callers rest one is word long crash quiet told =
    (one, subst (λ (c : Caller). MayCome shape c what.Crash) (sym is) (crash i refl refl), told)

module _ (r : Run) (listing : IsListing r.source) (fits : IsValidRun r) where
  sized : (t : ℕ) → t ≤ length r.items → IsSized r.source r.shape (state r t)
  sized zero le = initial_sized r.source r.shape listing
  sized (suc t) le =
      let lt : t < length r.items = omega (arith, le) in
      subst (IsSized r.source r.shape) (sym (next_state r t lt))
      (done_sized r.source r.shape listing (state r t) (item_at r (suc t)) (sized t (omega (arith, le)))
      (item_one r fits t lt))

  -- the callers are at what the processes are at
  abbrev Agrees : ℕ → (ℕ → Caller) → Type 0
  Agrees t callers = (i : ℕ) → IsOneOf r.shape.n i → callers i ≡ caller_of (status_of (state r t) i)

  quiet_agrees : (t : ℕ) (callers : ℕ → Caller) → t < length r.items → Agrees t callers →
      (let i = who (item_at r (suc t)) in
      caller_of (status_of (state r (suc t)) i) ≡ caller_of (status_of (state r t) i)) →
      Agrees (suc t) callers
  quiet_agrees t callers lt are same i one =
      elim (cases_eq (who (item_at r (suc t))) i) [
        | inl his ↦
            are i one
            ∙ sym (subst (λ k. caller_of (status_of (state r (suc t)) k) ≡ caller_of (status_of (state r t) k)) his same)
        | inr other ↦ are i one ∙ ap caller_of (sym (other_turn r fits t i lt one other))
      ]

  told_agrees : (t : ℕ) (callers : ℕ → Caller) → t < length r.items → Agrees t callers →
      (let k = who (item_at r (suc t)) in
      Agrees (suc t) (with_caller callers k (caller_of (status_of (state r (suc t)) k))))
  told_agrees t callers lt are i one =
      let k = who (item_at r (suc t)) in
      let c = caller_of (status_of (state r (suc t)) k) in
      elim (cases_eq k i) [
        | inl his ↦
            with_same callers k i c (sym his) ∙ ap (λ j. caller_of (status_of (state r (suc t)) j)) his
        | inr other ↦
            with_other callers k i c (λ e. other (sym e)) ∙ are i one
            ∙ ap caller_of (sym (other_turn r fits t i lt one other))
      ]

  follow_from : (more t : ℕ) (callers : ℕ → Caller) → t + more ≡ length r.items → Agrees t callers →
      MayFollow r.shape callers (events_from r t)
  follow_from zero t callers e are =
      subst (MayFollow r.shape callers) (sym (no_events r t (omega (arith, e)))) tt
  follow_from (suc more) t callers e are =
      let lt : t < length r.items = omega (arith, e) in
      let x = item_at r (suc t) in
      let one = item_one r fits t lt in
      subst (MayFollow r.shape callers) (sym (next_events r t lt))
      (one_event (turn r fits t (who x) lt one refl) (suc t) r.shape callers (events_from r (suc t)) one (are (who x) one)
      (call_there r.source r.shape (state r t) x)
      (λ v. answer_long r.source r.shape listing (state r t) x v (sized t (omega (arith, e))) one)
      (λ i is out. subst (λ k. MayCome r.shape (caller_of (status_of (state r t) k)) what.Crash) (sym (ap who is))
      (crash_there r.source r.shape (state r t) x i is out))
      (λ same. follow_from more (suc t) callers (omega (arith, e)) (quiet_agrees t callers lt are same))
      (follow_from more (suc t) (with_caller callers (who x) (caller_of (status_of (state r (suc t)) (who x))))
      (omega (arith, e)) (told_agrees t callers lt are)))

  -- before the first item nobody has called anything
  all_free : Agrees 0 (λ i. Free)
  all_free i one =
      sym (ap (λ (p : Process). caller_of p.status)
      (get_or-replicate r.shape.n (i - 1) (initial_process r.source r.shape) nobody (let first = one.0 in
      let last = one.1 in omega (arith, first, last))))

pub runs_have_histories : RunsHaveHistories
runs_have_histories r listing fits = record {
  rising =
      subst (AllPairs (λ (a b : Event). a.item < b.item)) (sym (all_events r))
      (pairs_rise (events_from r 0) (events_strict r.source r.shape (state r 0) 1 r.items));
  follow =
      subst (MayFollow r.shape (λ i. Free)) (sym (all_events r))
      (follow_from r listing fits (length r.items) 0 (λ i. Free) (omega arith) (all_free r listing fits));
}
