-- Laws of items that are passed over on a way (`PassesOver`): what each of them keeps is kept by all.
use Rattle.std.proofs.Common.{◌≡◌, ℕ, zero, suc, ◌+◌, ◌-◌, ◌<◌, Bool, true, false, not, List, [], ◌⊎◌, inl, inr, length, Option, Some, None}
use Rattle.std.proofs.Common.{Result, Ok, Err, IfOk, IfSome, MatchOption}
use Rattle.std.proofs.Common.{refl, sym, ap, subst, ◌∙◌, arith}
use Rattle.std.proofs.lemmas.Bool.{cases_lt}
use Rattle.snap_words.specs.Shape.{IsOneOf}
use Rattle.snap_semantics.specs.declared.process.Item.{Item}
use Rattle.snap_semantics.specs.declared.process.Item.TheVariants.{Step}
use Rattle.snap_semantics.specs.declared.process.Outcome.{Outcome}
use Rattle.snap_semantics.specs.declared.process.Outcome.TheVariants as outcomes
use Rattle.snap_semantics.specs.declared.process.Reason.{Reason}
use Rattle.snap_semantics.specs.declared.process.Status.{Status}
use Rattle.snap_semantics.specs.declared.process.Status.TheVariants.{Idle}
use Rattle.snap_semantics.specs.State.{State, process_at}
use Rattle.snap_semantics.specs.Table.{who}
use Rattle.snap_runs.specs.Run.{Run, item, outcome, state}
use Rattle.snap_walk.specs.Walk.{IsUntold, Passes, PassesOver, Tells, TellsNone, Way, further, is_skip, is_untold, line_told, look, look_ahead}
use Rattle.snap_walk.specs.Walk.{look_at_step, way}
use Rattle.snap_walk.specs.Glance.{Glance}
use Rattle.snap_walk.specs.Glance as glance
use Rattle.snap_walk.specs.declared.passed.Passed.{Passed}

module _ (quiet : List Bool) (skips : Bool) where
  -- some items, and some more
  pub over_more : (w v u : Way) → PassesOver quiet skips w v → PassesOver quiet skips v u → PassesOver quiet skips w u
  over_more w v u h more = record {
    run = more.run ∙ h.run;
    order = (let a = h.order in let b = more.order in omega (arith, a, b));
    untold = λ t low high. elim (cases_lt t v.at) [
      | inl sooner ↦ h.untold t low sooner
      | inr later ↦ subst (λ (r : Run). IsUntold quiet skips (way r t)) h.run (more.untold t later high)
    ];
  }

  -- one item
  pub over_one : (w : Way) → IsUntold quiet skips w → PassesOver quiet skips w (further w)
  over_one w one = record {
    run = refl;
    order = omega arith;
    untold = λ t low high.
        let here : w.at ≡ t = omega (arith, low, high) in
        subst (λ u. IsUntold quiet skips (way w.run u)) here one;
  }

  -- where some items are passed over, then one
  pub over_first : (w v : Way) → PassesOver quiet skips w v → w.at < v.at →
      IsUntold quiet skips w × PassesOver quiet skips (further w) v
  over_first w v h some = (
    h.untold w.at (omega arith) some,
    record {
      run = h.run;
      order = omega (arith, some);
      untold = λ t low high. h.untold t (omega (arith, low)) high;
    },
  )

  -- an item that is passed over, as one that is passed
  abbrev pub untold_item : Way → Passed
  untold_item w = record {
    number = suc w.at;
    item = item w.run (suc w.at);
    activity = None;
    outcome = outcome w.run (suc w.at);
  }

  pub untold_passes : (w : Way) → IsUntold quiet skips w → Passes w (untold_item w) (further w)
  untold_passes w h = record {
    left = h.left;
    number = refl;
    item = refl;
    process = h.process;
    outcome = refl;
    way = refl;
  }

  -- what each item keeps that is passed over
  abbrev pub Keeps : (Way → Type 0) → Type 0
  Keeps P =
      (w : Way) (p : Passed) → Passes w p (further w) → is_untold (look_ahead quiet w) p.outcome skips ≡ true → P w →
      P (further w)

  kept_on : (P : Way → Type 0) → Keeps P → (n : ℕ) (w v : Way) → w.at + n ≡ v.at → PassesOver quiet skips w v → P w → P v
  kept_on P keeps zero w v there h has =
      let same : w.at ≡ v.at = omega (arith, there) in
      let is : way w.run w.at ≡ way v.run v.at = ap (λ t. way w.run t) same ∙ ap (λ (r : Run). way r v.at) (sym h.run) in
      subst P is has
  kept_on P keeps (suc n) w v there h has =
      let first = over_first w v h (omega (arith, there)) in
      kept_on P keeps n (further w) v (omega (arith, there)) first.1
      (keeps w (untold_item w) (untold_passes w first.0) first.0.untold has)

  -- all keep
  pub kept_over : (P : Way → Type 0) → Keeps P → (w v : Way) → PassesOver quiet skips w v → P w → P v
  kept_over P keeps w v h has =
      let order = h.order in
      kept_on P keeps (v.at - w.at) w v (omega (arith, order)) h has

-- Where no line is quiet and skipped items are told, each item is told.

not_quiet : (s : Status) → look_at_step [] s ≡ glance.Quiet → ⊥
not_quiet Idle is = absurd cc
not_quiet _ is = absurd cc

pub none_quiet : (x : Item) (s : Status) → look [] x s ≡ glance.Quiet → ⊥
none_quiet (Step i) s is = not_quiet s is
none_quiet _ s is = absurd cc

all_told : (g : Glance) (o : Outcome) → (g ≡ glance.Quiet → ⊥) → is_untold g o true ≡ true → ⊥
all_told glance.Quiet o loud is = loud refl
all_told glance.Idle outcomes.Stepped loud is = absurd cc
all_told (glance.Line a) outcomes.Stepped loud is = absurd cc
all_told glance.Other outcomes.Stepped loud is = absurd cc
all_told _ _ loud is = absurd cc

-- no item is passed over
pub none_over : (w v : Way) → PassesOver [] true w v → v ≡ w
none_over w v h = elim (cases_lt w.at v.at) [
  | inl some ↦ absurd (
      let one = h.untold w.at (omega arith) some in
      let x = item w.run (suc w.at) in
      all_told (look_ahead [] w) (outcome w.run (suc w.at))
      (none_quiet x (process_at (state w.run w.at) (who x)).status) one.untold)
  | inr none ↦
      let order = h.order in
      let same : v.at ≡ w.at = omega (arith, none, order) in
      ap (λ t. way v.run t) same ∙ ap (λ (r : Run). way r w.at) h.run
]

-- what is seen of an item that is passed next
pub looks_ahead : (quiet : List Bool) (w : Way) {w' : Way} (p : Passed) → Passes w p w' →
    look quiet p.item (process_at (state w.run w.at) (who p.item)).status ≡ look_ahead quiet w
looks_ahead quiet w p d = ap (λ (x : Item). look quiet x (process_at (state w.run w.at) (who x)).status) d.item

unless : (b : Bool) → not b ≡ true → b ≡ false
unless true e = absurd cc
unless false e = refl

-- an item is passed over because it is a step that goes on from a quiet line, or because it is skipped
pub untold_cases : (g : Glance) (o : Outcome) (skips : Bool) → is_untold g o skips ≡ true →
    ((g ≡ glance.Quiet) × (o ≡ outcomes.Stepped)) ⊎ ((r : Reason) × (o ≡ outcomes.Skipped r) × (skips ≡ false))
untold_cases glance.Quiet outcomes.Stepped skips is = inl (refl, refl)
untold_cases g (outcomes.Skipped reason) skips is = inr (reason, refl, unless skips is)
untold_cases _ _ skips is = absurd cc

-- an item that was done is passed over, where what was seen of it and what came of it say so
pub untold_made : (quiet : List Bool) (skips : Bool) (w : Way) (x : Item) (S : State) (g : Glance) (o : Outcome) →
    w.at < length w.run.items → x ≡ item w.run (suc w.at) → IsOneOf w.run.shape.n (who x) → S ≡ state w.run w.at →
    g ≡ look quiet x (process_at S (who x)).status → o ≡ outcome w.run (suc w.at) → is_untold g o skips ≡ true →
    IsUntold quiet skips w
untold_made quiet skips w x S g o left is one here seen came untold = record {
  left = left;
  process = subst (λ (y : Item). IsOneOf w.run.shape.n (who y)) is one;
  untold =
      ap (λ (y : Glance). is_untold y (outcome w.run (suc w.at)) skips)
      (sym (seen ∙ ap (λ (T : State). look quiet x (process_at T (who x)).status) here
      ∙ ap (λ (y : Item). look quiet y (process_at (state w.run w.at) (who y)).status) is))
      ∙ ap (λ (y : Outcome). is_untold g y skips) (sym came) ∙ untold;
}

-- an item that is skipped is passed over, where skipped items are
pub skip_untold : (g : Glance) (o : Outcome) (skips : Bool) → skips ≡ false → is_skip o ≡ true →
    is_untold g o skips ≡ true
skip_untold g (outcomes.Skipped reason) skips over is = ap not over
skip_untold g _ skips over is = absurd cc

-- Where each item is told, the next one is passed, or there is none.
pub passed_next : {E : Type 0} (w w' : Way) (r : Result (Option Passed) E) →
    IfOk r (λ o. MatchOption o (TellsNone [] true w w') (λ p. Tells [] true w p w')) →
    IfOk r (λ o. MatchOption o ((w.at ≡ length w.run.items) × (w' ≡ w)) (λ p. Passes w p w'))
passed_next w w' (Err e) h = tt
passed_next w w' (Ok None) h =
    let same = none_over w w' h.over in
    (subst (λ (v : Way). v.at ≡ length v.run.items) same h.end, same)
passed_next w w' (Ok (Some p)) h =
    subst (λ (v : Way). Passes v p w') (none_over w h.between h.over) h.passes

pub told_activity : {E : Type 0} (w w' : Way) (r : Result (Option Passed) E) →
    IfOk r (λ o. MatchOption o (TellsNone [] true w w') (λ p. Tells [] true w p w')) →
    IfOk r (λ o. IfSome o (λ p. p.activity ≡ line_told (look_ahead [] w)))
told_activity w w' (Err e) h = tt
told_activity w w' (Ok None) h = tt
told_activity w w' (Ok (Some p)) h =
    subst (λ (v : Way). p.activity ≡ line_told (look_ahead [] v)) (none_over w h.between h.over) h.activity
