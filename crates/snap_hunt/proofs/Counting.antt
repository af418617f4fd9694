-- `HasCounted`: the steps of a run and its busy processes, after one item more.
use Rattle.std.proofs.Common.{◌≡◌, ℕ, suc, ◌+◌, ◌-◌, ◌<◌, ◌≤◌, ◌&&◌, Bool, true, false, List, ◌∷◌, inl, inr, length}
use Rattle.std.proofs.Common.{drop, get_or, Option, None, Some, [], refl, sym, ap, subst, ◌∙◌, arith}
use Rattle.std.specs.Iterator.{YieldsFirst}
use Rattle.std.specs.Prelude.{slice_set}
use Rattle.std.proofs.Math.Seq.{drop-cons}
use Rattle.std.proofs.lemmas.Bool.{cases_eq}
use Rattle.std.proofs.lemmas.Grind.{get_or-set_at}
use Rattle.std.proofs.lemmas.List.{get_or-set_other, set-get_or}
use Rattle.snap_words.specs.Shape.{IsOneOf}
use Rattle.snap_semantics.specs.Rules.{or_else}
use Rattle.snap_semantics.specs.State.{process_at}
use Rattle.snap_semantics.specs.Table.{who}
use Rattle.snap_semantics.specs.declared.process.Item.{Item}
use Rattle.snap_semantics.specs.declared.process.Item.TheVariants.{Step, Call, Crash}
use Rattle.snap_semantics.specs.declared.process.Outcome.{Outcome}
use Rattle.snap_semantics.specs.declared.process.Outcome.TheVariants.{Skipped, Stepped}
use Rattle.snap_semantics.specs.declared.process.Reason.{Reason}
use Rattle.snap_semantics.specs.declared.process.Status.{Status}
use Rattle.snap_semantics.specs.declared.process.Status.TheVariants.{Idle, Busy, Trapped, Crashed}
use Rattle.snap_runs.specs.Audit.{is_called}
use Rattle.snap_runs.specs.Run.{IsValidRun, Run, item, outcome, state}
use Rattle.snap_runs.proofs.Calls.{other_turn, turn}
use Rattle.snap_runs.proofs.Computing.{both}
use Rattle.snap_runs.proofs.Transitions.{MaySkip, Transition, skipped, calls, goes, answers, finishes, traps, crashes}
use Rattle.snap_walk.specs.Walk.{IsUntold, Passes, Tells, TellsNone, Way, is_untold, look, way}
use Rattle.snap_walk.specs.declared.passed.Passed.{Passed}
use Rattle.snap_walk.specs.Walking.{is_busy, is_step}
use Rattle.snap_hunt.specs.Counting.{AreUntold, HasCounted}
use Rattle.snap_hunt.specs.Failing.{many_steps, overrun, overrun_at}
use Rattle.snap_hunt.specs.Firsts.{first_found}
use Rattle.snap_hunt.specs.Watching.{CountsSteps, is_taken, noted, noted_if, overrun_by}
use Rattle.snap_hunt.specs.declared.failures.Failure.{Failure}
use Rattle.snap_hunt.specs.declared.failures.OwnSteps.{OwnSteps}
use Rattle.snap_hunt.specs.declared.step_counter.StepCounter.{StepCounter}
use Rattle.snap_hunt.proofs.Watching.{none_later, watches_next}

-- a step that is skipped is none of a busy process
skip_taken : (s : Status) (x : Item) (why : Reason) → MaySkip s x → is_taken x (Skipped why) ≡ (is_step x && is_busy s)
skip_taken (Busy a) (Step i) why may = absurd may
skip_taken _ (Step i) why may = refl
skip_taken _ _ why may = refl

-- An item over which a walk passes is no call, it is taken if it is a step of a busy process, and its process is busy
-- as before.
untold_turn : {s s' : Status} {x : Item} {o : Outcome} (quiet : List Bool) → Transition s x o s' →
    is_untold (look quiet x s) o false ≡ true →
    (is_called o ≡ false) × (is_taken x o ≡ (is_step x && is_busy s)) × (is_busy s' ≡ is_busy s)
untold_turn quiet (skipped s x why may) untold = (refl, skip_taken s x why may, refl)
untold_turn quiet (goes i a line link) untold = (refl, refl, refl)
untold_turn quiet _ untold = absurd cc

stepped_taken : (x : Item) → is_taken x Stepped ≡ is_step x
stepped_taken (Step i) = refl
stepped_taken _ = refl

-- the item that comes next, and those behind it
pub next_left : (r : Run) (t : ℕ) (x : Item) (xs ys : List Item) → t < length r.items → xs ≡ drop t r.items →
    xs ≡ x ∷ ys → (x ≡ item r (suc t)) × (ys ≡ drop (suc t) r.items)
next_left r t x xs ys lt left is =
    let here : (x ∷ ys) ≡ (item r (suc t) ∷ drop (suc t) r.items) = sym is ∙ left ∙ drop-cons r.items t (Step 0) lt in
    (cc, cc)

module _ (r : Run) (most t : ℕ) (quiet : List Bool) (c : StepCounter) (h : HasCounted r most t c)
    (u : IsUntold quiet false (way r t)) where
  facts :
      (is_called (outcome r (suc t)) ≡ false)
      × (is_taken (item r (suc t)) (outcome r (suc t))
      ≡ (is_step (item r (suc t)) && is_busy (process_at (state r t) (who (item r (suc t)))).status))
      × (is_busy (process_at (state r (suc t)) (who (item r (suc t)))).status
      ≡ is_busy (process_at (state r t) (who (item r (suc t)))).status)
  facts = untold_turn quiet (turn r h.valid t (who (item r (suc t))) u.left u.process refl) u.untold

  -- the same processes are busy
  pub busy_untold : (j : ℕ) → IsOneOf r.shape.n j → (d : Bool) →
      get_or c.busy.items (j - 1) d ≡ is_busy (process_at (state r (suc t)) j).status
  busy_untold j one d =
      h.busy j one d
      ∙ elim (cases_eq (who (item r (suc t))) j) [
        | inl same ↦ subst (λ k. is_busy (process_at (state r t) k).status
            ≡ is_busy (process_at (state r (suc t)) k).status) same (sym facts.2)
        | inr other ↦ sym (ap is_busy (other_turn r h.valid t j u.left one other))
      ]

  -- the step of a busy process is counted
  pub step_counted : (k : ℕ) (x : Item) (owns' : List OwnSteps) (later : Option Failure) → k ≡ suc t →
      x ≡ item r (suc t) →
      (is_step x && is_busy (process_at (state r t) (who x)).status) ≡ true →
      ((d : OwnSteps) → owns' ≡ slice_set c.owns.items (who x - 1)
      (noted (get_or c.owns.items (who x - 1) d) k x Stepped)) →
      ((d : OwnSteps) → later ≡ overrun_by most k x Stepped (noted (get_or c.owns.items (who x - 1) d) k x Stepped)) →
      CountsSteps r most (suc t) owns' (or_else c.overrun later)
  step_counted k x owns' later number is runs set over =
      let y = item r (suc t) in
      let runs' = rw is at runs in
      let taken : is_taken y Stepped ≡ is_taken y (outcome r (suc t)) =
      stepped_taken y ∙ (both (is_step y) _ runs').0 ∙ sym runs' ∙ sym facts.1 in
      watches_next r most t c.owns.items owns' c.overrun later u.process
      (λ d. rw (facts.0, ← taken) (rw (number, is) at (set d)))
      (λ d. rw (facts.0, ← taken) (rw (number, is) at (over d))) h.steps

  -- nothing is counted of another item
  pub none_counted : (x : Item) → x ≡ item r (suc t) →
      (is_step x && is_busy (process_at (state r t) (who x)).status) ≡ false →
      CountsSteps r most (suc t) c.owns.items c.overrun
  none_counted x is runs =
      let untaken : is_taken (item r (suc t)) (outcome r (suc t)) ≡ false = facts.1 ∙ (rw is at runs) in
      rw (none_later c.overrun) (watches_next r most t c.owns.items c.owns.items c.overrun None u.process
      (λ d. rw (facts.0, untaken) (sym (set-get_or c.owns.items (who (item r (suc t)) - 1) d)))
      (λ d. rw untaken refl) h.steps)

-- the items behind the one that comes next
pub left_behind : (r : Run) (t : ℕ) (o : Option Item) (xs ys : List Item) → t < length r.items →
    xs ≡ drop t r.items → YieldsFirst (λ (zs : List Item). zs) xs o ys → ys ≡ drop (suc t) r.items
left_behind r t None xs ys lt left gives = absurd (cc (drop-cons r.items t (Step 0) lt))
left_behind r t (Some x) xs ys lt left gives = (next_left r t x xs ys lt left gives).1

-- the items before the one that is told are counted
pub up_to_told : (w w' : Way) (p : Passed) (quiet : List Bool) (most : ℕ) (c next : StepCounter) →
    HasCounted w.run most w.at c → (tells : Tells quiet false w p w') →
    ((r : Run) (quiet : List Bool) → HasCounted r most c.done c → AreUntold quiet r c.done (p.number - 1) →
    c.done ≤ p.number - 1 → HasCounted r most (p.number - 1) next) →
    HasCounted tells.between.run most tells.between.at next
up_to_told w w' p quiet most c next h tells counted =
    let before : p.number - 1 ≡ tells.between.at = omega arith in
    rw (tells.over.run, ← before) (counted w.run quiet (subst (λ k. HasCounted w.run most k c) (sym h.done) h)
    (λ t low high. tells.over.untold t (omega arith) (omega arith)) (omega arith))

-- after the item that is told it is known again of each process whether it is busy
pub busy_told : (v w' : Way) (p : Passed) (most : ℕ) (c : StepCounter) (b : Bool) → HasCounted v.run most v.at c →
    Passes v p w' → b ≡ is_busy (process_at (state w'.run w'.at) (who p.item)).status → (j : ℕ) →
    IsOneOf v.run.shape.n j → (d : Bool) →
    get_or (slice_set c.busy.items (who p.item - 1) b) (j - 1) d
    ≡ is_busy (process_at (state v.run (suc v.at)) j).status
busy_told v w' p most c b h is stands j one d =
    let i = who p.item in
    elim (cases_eq i j) [
      | inl same ↦
          get_or-set_at c.busy.items (i - 1) (j - 1) b d (omega arith) (omega arith) ∙ (rw (is.way, same) at stands)
      | inr other ↦
          get_or-set_other c.busy.items (i - 1) (j - 1) b d (λ same. other (omega arith))
          ∙ h.busy j one d
          ∙ sym (ap is_busy (other_turn v.run h.valid v.at j is.left one (λ same. other (ap who is.item ∙ same))))
    ]

-- Behind the last item that is told a walk passes over all others, which are counted then.
module _ (w w' : Way) (quiet : List Bool) (most until : ℕ) (c : StepCounter) (h : HasCounted w.run most w.at c)
    (none : TellsNone quiet false w w') (end : until ≡ w'.at) where
  -- what a counter asks for that is to pass over the others
  pub to_be_passed :
      (r : Run) × (quiet : List Bool) × HasCounted r c.most c.done c × AreUntold quiet r c.done until × (c.done ≤ until)
  to_be_passed = (
    w.run,
    quiet,
    subst (λ m. HasCounted w.run m c.done c) (sym h.most_is) (subst (λ t. HasCounted w.run most t c) (sym h.done) h),
    λ t low high. none.over.untold t (omega arith) (omega arith),
    omega arith,
  )

  -- what it has counted that passed over them
  pub all_counted : (next : StepCounter) →
      ((r : Run) (quiet : List Bool) → HasCounted r c.most c.done c → AreUntold quiet r c.done until →
      c.done ≤ until → HasCounted r c.most until next) →
      next.overrun ≡ many_steps most w'.run
  unfolding to_be_passed
  all_counted next counted =
      let found = (counted w.run quiet to_be_passed.2 to_be_passed.3 to_be_passed.4).steps.found_is in
      rw (← none.end, ← end, none.over.run, ← h.most_is) found
