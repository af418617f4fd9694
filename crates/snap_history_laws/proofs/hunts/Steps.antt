-- No operation of a shipped listing's run overruns the step bound of a hunt, if the bound is at least the steps that
-- are promised.
use Rattle.std.proofs.Common.{◌≡◌, ℕ, zero, suc, ◌≤◌, Bool, true, false, ◌&&◌, Option, Some, None}
use Rattle.std.proofs.Common.{refl, sym, ap, subst, ◌∙◌, arith}
use Rattle.snap_words.specs.Shape.{Counts}
use Rattle.snap_words.specs.declared.kind.KindTag.{KindTag}
use Rattle.snap_semantics.specs.declared.process.Outcome.{Outcome}
use Rattle.snap_semantics.specs.Source.{Source}
use Rattle.snap_runs.specs.Run.{IsValidRun, Run, item, outcome}
use Rattle.snap_runs.specs.Scan.{count, is_not_skipped, own_steps, steps, takes_step}
use Rattle.snap_runs.specs.WaitFree.{is_alive, turns}
use Rattle.snap_shipped.specs.Shipped.{shipped, shipped_bounds}
use Rattle.snap_shipped.specs.Kept.{KeepsPromises, update_turns}
use Rattle.snap_hunt.specs.Failing.{long_of, many_steps, most_steps}
use Rattle.snap_hunt.specs.Operations.{StepsAreOfOperations, TakesMore}
use Rattle.snap_hunt.specs.declared.failures.Failure.{Failure}
use Rattle.snap_hunt.specs.declared.failures.StepBound.{StepBound}
use Rattle.snap_history_laws.specs.hunts.Shipped.{StepsSuffice}

-- a step that is not skipped is a turn of a process that has not crashed
is_turn : (s : Bool) (o : Outcome) → (s && is_not_skipped o) ≡ true → (s && is_alive o) ≡ true
is_turn s o h = grind arith

-- what passes one test passes the other
count_more : (test other : ℕ → Bool) (c e : ℕ) → ((t : ℕ) → test t ≡ true → other t ≡ true) →
    count test c e ≤ count other c e
count_more test other c zero h = omega arith
count_more test other c (suc e) h = let less = count_more test other c e h in let here = h (suc e) in grind arith

steps_are_turns : (r : Run) (i c t : ℕ) → own_steps r i c t ≤ turns r i c t
steps_are_turns r i c t =
    count_more (takes_step r i) (λ u. steps i (item r u) && is_alive (outcome r u)) c t
    (λ u h. is_turn (steps i (item r u)) (outcome r u) h)

-- a scan is over sooner than an update
scan_few : (s : Counts) (g : KindTag) → (shipped_bounds g s).steps ≤ update_turns g s
scan_few s g = grind arith

-- no operation takes more
none_takes_more : (g : KindTag) (r : Run) → IsValidRun r → KeepsPromises g r → (most i c t : ℕ) (update : Bool) →
    update_turns g r.shape ≤ most → TakesMore r most i c t update → ⊥
none_takes_more g r valid kept most i c t false enough h =
    let few = (kept.wait_free valid).scans i c t h.under_way in
    omega (arith, scan_few r.shape g, steps_are_turns r i c t, h.more)
none_takes_more g r valid kept most i c t true enough h =
    let up = h.under_way in
    let few = (kept.wait_free valid).updates i up.0 up.1 c t up.2 in
    omega (arith, steps_are_turns r i c t, h.more)

same_kind : (g : KindTag) → (shipped g).kind ≡ g
same_kind g = grind arith

enough_steps : (g : KindTag) (s : Counts) (b : StepBound) → StepsSuffice g s (Some b) →
    update_turns g s ≤ most_steps g s b
enough_steps g s b h = grind arith

none_found : StepsAreOfOperations → (g : KindTag) (r : Run) → IsValidRun r → KeepsPromises g r → (most : ℕ) →
    update_turns g r.shape ≤ most → (o : Option Failure) → many_steps most r ≡ o → many_steps most r ≡ None
none_found laws g r valid kept most enough None is = is
none_found laws g r valid kept most enough (Some f) is =
    let found = (laws r most valid).0 f is in
    absurd
    (none_takes_more g r valid kept most found.process found.own.call found.item found.own.update enough found.takes)

-- no operation of a shipped listing is found that takes more than enough steps
pub no_overrun : StepsAreOfOperations → (g : KindTag) (b : Option StepBound) (r : Run) → r.source ≡ shipped g →
    IsValidRun r → KeepsPromises g r → StepsSuffice g r.shape b → long_of r b ≡ None
no_overrun laws g None r source valid kept h = refl
no_overrun laws g (Some b) r source valid kept h =
    let kind : g ≡ r.source.kind = sym (ap (λ (s : Source). s.kind) source ∙ same_kind g) in
    subst (λ k. many_steps (most_steps k r.shape b) r ≡ None) kind
    (none_found laws g r valid kept (most_steps g r.shape b) (enough_steps g r.shape b h)
    (many_steps (most_steps g r.shape b) r) refl)
