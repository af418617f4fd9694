-- The steps that the program makes of a history, and what they are where the events are a history.
use Rattle.std.proofs.Common.{◌≡◌, ℕ, zero, suc, ◌+◌, ◌<◌, ◌≤◌, ◌⊎◌, inl, inr, List, [], ◌∷◌, length, get_or, drop, take, ap}
use Rattle.std.proofs.Common.{sym, subst, arith, ◌∙◌, Option, Some, None, Bool, if◌then◌else◌}
use Rattle.std.specs.List.{AllByRecursion, AllPairs}
use Rattle.std.proofs.lemmas.Bool.{cases_lt, eq-eqb, ne_eqb}
use Rattle.std.proofs.lemmas.List.{drop_more, length-take, get_or-take}
use Rattle.snap_words.specs.Shape.{Counts, IsOneOf}
use Rattle.snap_semantics.specs.declared.event.Event.{Event}
use Rattle.snap_semantics.specs.declared.event.Happening.{Happening}
use Rattle.snap_semantics.specs.declared.event.Happening.TheVariants as what
use Rattle.snap_semantics.specs.declared.process.Op.TheVariants as op
use Rattle.snap_runs.specs.Operation.{Action, Operation, Sees, Sets}
use Rattle.snap_judge.specs.declared.operation.Operation.{Operation as KeptOperation}
use Rattle.snap_judge.specs.declared.operation.Action.{Action as KeptAction}
use Rattle.snap_judge.specs.declared.operation.Action.TheVariants as kept_action
use Rattle.snap_judge.specs.declared.config.Step.{Step as KeptStep}
use Rattle.snap_judge.specs.declared.config.Step.TheVariants as kept_step
use Rattle.snap_judge.specs.History.{Caller, Free, History, IsHistory, MayCome, MayFollow, caller_after}
use Rattle.snap_judge.specs.History.{with_caller}
use Rattle.snap_judge.specs.Kept.{AreNumbered, AreSteps, HasWord, IsStepOf, action_of, operation_of, step_of_kept, steps_kept}
use Rattle.snap_judge.specs.Linearizable.{up_to}
use Rattle.snap_judge.specs.Steps.{Calls, Ends, Step, Waits, answered_step, next_of, scan_step, step_of, steps_of}
use Rattle.snap_judge.proofs.Passing.{step_at}

-- The next event of a process, where it is the one at place k.
pub found_here : (i k : ℕ) (es : List Event) (e : Event) → k < length es → e ≡ get_or es k e → e.process ≡ i →
    next_of i (drop k es) ≡ next_of i es → next_of i es ≡ Some e
found_here i k es e lt is its before =
    let x = get_or es k e in
    let same : x.process ≡ i = ap (λ (y : Event). y.process) (sym is) ∙ its in
    sym before ∙ ap (next_of i) (drop_more es k e lt)
    ∙ ap (λ (t : Bool). if t then Some x else next_of i (drop (k + 1) es)) (eq-eqb x.process i same)
    ∙ ap Some (sym is)

-- an event of the process is found behind one of another process
pub found_later : (i k : ℕ) (es : List Event) (e : Event) → k < length es → e ≡ get_or es k e → (e.process ≡ i → ⊥) →
    next_of i (drop k es) ≡ next_of i es → next_of i (drop (k + 1) es) ≡ next_of i es
found_later i k es e lt is other before =
    let x = get_or es k e in
    let differ : x.process ≡ i → ⊥ = λ same. other (ap (λ (y : Event). y.process) is ∙ same) in
    sym (ap (next_of i) (drop_more es k e lt)
    ∙ ap (λ (t : Bool). if t then Some x else next_of i (drop (k + 1) es)) (ne_eqb x.process i differ)) ∙ before

-- A step of one of n processes, with one of w words, as the definitions have steps.
IsWordOf : ℕ → Action → Type 0
IsWordOf w (Sets word value) = IsOneOf w word
IsWordOf w (Sees view) = Unit {0}

IsGood : (n w : ℕ) → Step → Type 0
IsGood n w (Calls o) = IsOneOf n o.process × IsWordOf w o.action
IsGood n w (Ends i) = IsOneOf n i
IsGood n w Waits = Unit {0}

has_word : (w : ℕ) (a : KeptAction) → IsWordOf w (action_of a) → HasWord w a
unfolding IsWordOf
has_word w (kept_action.Sets word value) h = h
has_word w (kept_action.Sees view) h = tt

is_step : (n w : ℕ) (s : KeptStep) → IsGood n w (step_of_kept s) → IsStepOf n w s
unfolding IsGood
is_step n w (kept_step.Calls o) h = (h.0, has_word w o.action h.1)
is_step n w (kept_step.Ends i) h = h
is_step n w kept_step.Waits h = tt

are_steps : (n w : ℕ) (xs : List KeptStep) → AllByRecursion (IsGood n w) (steps_kept xs) → AreSteps n w xs
are_steps n w [] h t = tt
are_steps n w (x ∷ xs) h zero = is_step n w x h.0
are_steps n w (x ∷ xs) h (suc t) = are_steps n w xs h.1 t

good_answer : (n w i c t : ℕ) (a : Happening) → IsOneOf n i → IsGood n w (answered_step i c t a)
unfolding IsGood IsWordOf
good_answer n w i c t (what.Call o) is = tt
good_answer n w i c t (what.Answer view) is = (is, tt)
good_answer n w i c t what.Done is = tt
good_answer n w i c t what.Crash is = tt

good_scan : (n w i c : ℕ) (e : Option Event) → IsOneOf n i → IsGood n w (scan_step i c e)
unfolding IsGood
good_scan n w i c None is = tt
good_scan n w i c (Some e) is = good_answer n w i c e.item e.what is

word_there : (shape : Counts) (caller : Caller) (word value : ℕ) → MayCome shape caller (what.Call (op.Update word value)) →
    IsOneOf shape.w word
word_there shape caller word value h = grind arith

good_step : (shape : Counts) (caller : Caller) (i c : ℕ) (a : Happening) (es : List Event) → IsOneOf shape.n i →
    MayCome shape caller a → IsGood shape.n shape.w (step_of i c a es)
unfolding IsGood IsWordOf
good_step shape caller i c (what.Call op.Scan) es is may = good_scan shape.n shape.w i c (next_of i es) is
good_step shape caller i c (what.Call (op.Update word value)) es is may = (is, word_there shape caller word value may)
good_step shape caller i c (what.Answer view) es is may = is
good_step shape caller i c what.Done es is may = is
good_step shape caller i c what.Crash es is may = tt

good_steps : (shape : Counts) (callers : ℕ → Caller) (es : List Event) → MayFollow shape callers es →
    AllByRecursion (IsGood shape.n shape.w) (steps_of es)
good_steps shape callers [] f = tt
good_steps shape callers (e ∷ es) f = (
  good_step shape (callers e.process) e.process e.item e.what es f.0 f.1,
  good_steps shape (with_caller callers e.process (caller_after e.what)) es f.2,
)

-- The steps of a history are steps of its processes, with its words.
pub steps_of_history : (h : History) (xs : List KeptStep) → IsHistory h → steps_kept xs ≡ steps_of h.events →
    AreSteps h.shape.n h.shape.w xs
steps_of_history h xs is kept =
    are_steps h.shape.n h.shape.w xs
    (subst (λ (ys : List Step). AllByRecursion (IsGood h.shape.n h.shape.w) ys) (sym kept)
    (good_steps h.shape (λ i. Free) h.events is.follow))

-- A step calls an operation by the number of its event.
number_of_answer : (i c t : ℕ) (a : Happening) (o : Operation) → answered_step i c t a ≡ Calls o → o.call ≡ c
number_of_answer i c t a o e = grind arith

number_of_scan : (i c : ℕ) (x : Option Event) (o : Operation) → scan_step i c x ≡ Calls o → o.call ≡ c
number_of_scan i c x o e = grind (arith, number_of_answer)

number_of_step : (i c : ℕ) (a : Happening) (es : List Event) (o : Operation) → step_of i c a es ≡ Calls o → o.call ≡ c
number_of_step i c a es o e = grind (arith, number_of_scan)

numbers : (es : List Event) (t : ℕ) (o : Operation) (d : Event) → get_or (steps_of es) t Waits ≡ Calls o →
    (t < length es) × ((get_or es t d).item ≡ o.call)
numbers [] zero o d is = absurd (let no : Waits ≡ Calls o = is in cc)
numbers [] (suc t) o d is = absurd (let no : Waits ≡ Calls o = is in cc)
numbers (e ∷ es) zero o d is = (omega arith, sym (number_of_step e.process e.item e.what es o is))
numbers (e ∷ es) (suc t) o d is = let rest = numbers es t o d is in (let lt = rest.0 in omega (arith, lt), rest.1)

-- No two steps of a history call operations of the same number.
pub numbered : (h : History) (xs : List KeptStep) → IsHistory h → steps_kept xs ≡ steps_of h.events → AreNumbered xs
numbered h xs is kept j k o o' call call' same = by_order (cases_lt j k) (cases_lt k j)
  where
    d : Event
    d = record { item = 0; process = 0; what = what.Crash }

    at_step : (t : ℕ) (o : KeptOperation) → get_or xs t kept_step.Waits ≡ kept_step.Calls o →
        (t < length h.events) × ((get_or h.events t d).item ≡ o.call)
    at_step t o call =
        numbers h.events t (operation_of o) d
        (ap (λ (ys : List Step). get_or ys t Waits) (sym kept) ∙ step_at xs t ∙ ap step_of_kept call)

    one : (j < length h.events) × ((get_or h.events j d).item ≡ o.call)
    one = at_step j o call

    other : (k < length h.events) × ((get_or h.events k d).item ≡ o'.call)
    other = at_step k o' call'

    by_order : (j < k) ⊎ (k ≤ j) → (k < j) ⊎ (j ≤ k) → j ≡ k
    by_order (inl less) it =
        let rises = is.rising j k d less other.0 in let first = one.1 in let second = other.1 in
        absurd (omega (arith, rises, first, second, same))
    by_order (inr more) (inl less) =
        let rises = is.rising k j d less one.0 in let first = one.1 in let second = other.1 in
        absurd (omega (arith, rises, first, second, same))
    by_order (inr more) (inr more') = omega (arith, more, more')

follow_up_to : (shape : Counts) (callers : ℕ → Caller) (k : ℕ) (es : List Event) → MayFollow shape callers es →
    MayFollow shape callers (take k es)
follow_up_to shape callers zero es f = tt
follow_up_to shape callers (suc k) [] f = tt
follow_up_to shape callers (suc k) (e ∷ es) f =
    (f.0, f.1, follow_up_to shape (with_caller callers e.process (caller_after e.what)) k es f.2)

pairs_up_to : (R : Event → Event → Type 0) (k : ℕ) (es : List Event) → AllPairs R es → AllPairs R (take k es)
pairs_up_to R k es pairs i j d lt short =
    let least = length-take k es in
    rw (get_or-take k es i d (omega arith), get_or-take k es j d (omega arith)) (pairs i j d lt (omega arith))

-- A history is one up to each of its events.
pub history_up_to : (h : History) (k : ℕ) → IsHistory h → IsHistory (up_to k h)
history_up_to h k is = record {
  rising = pairs_up_to (λ (a b : Event). a.item < b.item) k h.events is.rising;
  follow = follow_up_to h.shape (λ i. Free) k h.events is.follow;
}
