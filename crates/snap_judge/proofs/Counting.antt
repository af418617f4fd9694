-- How many operations have taken place is known from where one is.
use Rattle.std.proofs.Common.{◌≡◌, ℕ, zero, suc, ◌+◌, ◌-◌, ◌<◌, List, [], ◌∷◌, length, get_or, refl, sym, ◌∙◌, ap}
use Rattle.std.proofs.Common.{subst, arith}
use Rattle.std.proofs.Math.ListN.{set}
use Rattle.std.proofs.lemmas.List.{length-set, length-map, length-replicate}
use Rattle.std.specs.Prelude.{replicate}
use Rattle.snap_runs.specs.Operation.{Operation}
use Rattle.snap_judge.specs.declared.config.Step.{Step as KeptStep}
use Rattle.snap_judge.specs.declared.config.Step.TheVariants as kept_step
use Rattle.snap_judge.specs.Steps.{Step, Calls, Ends, Waits, Slot, Free, Open, Taken, MayPass, passed, Move, Take, Pass, taken}
use Rattle.snap_judge.specs.Configurations.{Configuration, Leads}
use Rattle.snap_judge.specs.Kept.{AreSteps, called_at, first, IsStepOf, operation_of, seen_as}
use Rattle.snap_judge.specs.Kept.{step_of_kept, steps_kept}
use Rattle.snap_judge.specs.declared.config.Config.{Config}
use Rattle.snap_judge.specs.Nodes.{HasCounts, IsMet}
use Rattle.snap_judge.proofs.SearchSlots.{at, open_within, taken_within}
use Rattle.snap_judge.proofs.Passing.{step_at}

pub open_here : Slot → ℕ
open_here Free = 0
open_here (Open o) = 1
open_here (Taken o) = 0

-- how many operations are open, and how many are called by the steps that are left
pub opens : List Slot → ℕ
opens [] = 0
opens (s ∷ S) = open_here s + opens S

pub calls_here : Step → ℕ
calls_here (Calls o) = 1
calls_here (Ends i) = 0
calls_here Waits = 0

pub calls : List Step → ℕ
calls [] = 0
calls (x ∷ xs) = calls_here x + calls xs

opens_set : (S : List Slot) (p : ℕ) (s : Slot) → p < length S →
    opens (set S p s) + open_here (at S p) ≡ opens S + open_here s
unfolding opens
opens_set [] p s lt = absurd (omega (arith, lt))
opens_set (s' ∷ S) zero s lt = omega arith
opens_set (s' ∷ S) (suc p) s lt = let less = opens_set S p s (omega (arith, lt)) in omega (arith, less)

-- Each process that calls is one of n.
abbrev pub AreWithin : ℕ → List Step → Type 0
AreWithin n xs = (t : ℕ) (o : Operation) → get_or xs t Waits ≡ Calls o → o.process - 1 < n

pass_counts : (n : ℕ) (x : Step) (xs : List Step) (S : List Slot) → length S ≡ n → AreWithin n (x ∷ xs) → MayPass S x →
    calls xs + opens (passed S x) ≡ calls (x ∷ xs) + opens S
unfolding calls calls_here open_here
pass_counts n (Calls o) xs S len are may =
    let lt : o.process - 1 < length S = let inside = are 0 o refl in omega (arith, inside, len) in
    let more = opens_set S (o.process - 1) (Open o) lt in
    let none : open_here (at S (o.process - 1)) ≡ 0 = ap open_here may in omega (arith, more, none)
pass_counts n (Ends i) xs S len are may =
    let more = opens_set S (i - 1) Free (taken_within S (i - 1) may.0 may.1) in
    let none : open_here (at S (i - 1)) ≡ 0 = ap open_here may.1 in omega (arith, more, none)
pass_counts n Waits xs S len are may = omega arith

length_passed : (x : Step) (S : List Slot) → length (passed S x) ≡ length S
length_passed (Calls o) S = length-set S (o.process - 1) (Open o)
length_passed (Ends i) S = length-set S (i - 1) Free
length_passed Waits S = refl

pub counts : (n : ℕ) (ms : List Move) (c c' : Configuration) → length c.slots ≡ n → AreWithin n c.left → Leads ms c c' →
    length (taken ms) + calls c'.left + opens c'.slots ≡ calls c.left + opens c.slots
unfolding open_here
counts n [] c c' len are l =
    let same = ap (λ (x : Configuration). calls x.left + opens x.slots) l in omega (arith, same)
counts n (Take o ∷ ms) c c' len are l =
    let more = opens_set c.slots (o.process - 1) (Taken o) (open_within c.slots (o.process - 1) o l.0) in
    let one : open_here (at c.slots (o.process - 1)) ≡ 1 = ap open_here l.0 in
    let rest = counts n ms _ c' (length-set c.slots (o.process - 1) (Taken o) ∙ len) are l.2 in
    omega (arith, more, one, rest)
counts n (Pass ∷ ms) c c' len are l =
    let within : AreWithin n (l.0 ∷ l.1) = subst (AreWithin n) l.2 are in
    let rest = counts n ms _ c' (length_passed l.0 c.slots ∙ len) (λ t o is. within (suc t) o is) l.4 in
    let step = pass_counts n l.0 l.1 c.slots len within l.3 in
    let same : calls c.left ≡ calls (l.0 ∷ l.1) = ap calls l.2 in omega (arith, rest, step, same)

-- The steps are of n processes.
within_by : (n w : ℕ) (x : KeptStep) (o : Operation) → IsStepOf n w x → step_of_kept x ≡ Calls o → o.process - 1 < n
within_by n w (kept_step.Calls o') o is e =
    let both : Calls (operation_of o') ≡ Calls o = e in let one : operation_of o' ≡ o = cc in
    let same : o'.process ≡ o.process = ap (λ (y : Operation). y.process) one in
    let low = is.0.0 in let high = is.0.1 in omega (arith, same, low, high)
within_by n w (kept_step.Ends i) o is e = absurd (let no : Ends i ≡ Calls o = e in cc)
within_by n w kept_step.Waits o is e = absurd (let no : Waits ≡ Calls o = e in cc)

are_within : (n w : ℕ) (steps : List KeptStep) → AreSteps n w steps → AreWithin n (steps_kept steps)
are_within n w steps are t o e = within_by n w (get_or steps t kept_step.Waits) o (are t) (sym (step_at steps t) ∙ e)

-- What has such numbers of slots and values is reached from the first configuration that has them.
pub led_from : (n w : ℕ) (steps : List KeptStep) (c : Config) (ms : List Move) → HasCounts n w c →
    Leads ms (first (length c.slots.items) (length c.values.items) steps) (seen_as steps c) →
    Leads ms (first n w steps) (seen_as steps c)
led_from n w steps c ms has led = rw (has.0, has.1) at led

-- The same configuration is reached by orders of the same length.
pub same_length : {n w : ℕ} {steps : List KeptStep} {c c' : Config} → AreSteps n w steps → (m : IsMet n w steps c)
    (m' : IsMet n w steps c') → seen_as steps c ≡ seen_as steps c' → length m.order ≡ length m'.order
same_length {n} {w} {steps} {c} {c'} are m m' same =
    let one = led c m in
    let other = led c' m' in
    let calls_same : calls (seen_as steps c).left ≡ calls (seen_as steps c').left =
    ap (λ (x : Configuration). calls x.left) same in
    let opens_same : opens (seen_as steps c).slots ≡ opens (seen_as steps c').slots =
    ap (λ (x : Configuration). opens x.slots) same in
    omega (arith, one, other, calls_same, opens_same)
  where
    led : (x : Config) (met : IsMet n w steps x) →
        length met.order + calls (seen_as steps x).left + opens (seen_as steps x).slots
        ≡ calls (steps_kept steps) + opens (replicate n Free)
    led x met =
        let r = met.reached in
        let all = counts n r.0 (first n w steps) (seen_as steps x) (length-replicate n Free) (are_within n w steps are)
        (led_from n w steps x r.0 met.counts r.1) in
        let long : length (taken r.0) ≡ length met.order = ap length r.2 ∙ length-map met.order (called_at steps) in
        omega (arith, all, long)
