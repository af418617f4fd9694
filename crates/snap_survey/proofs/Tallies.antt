-- A `Tally` of a run, which counts for a survey what the items came to, is kept up item by item.
use Rattle.std.proofs.Common.{◌≡◌, ℕ, zero, suc, ◌<◌, Bool, false, List, Option, None, inl, inr, is_none}
use Rattle.std.proofs.Common.{if◌then◌else◌, refl, sym, ◌∙◌, arith}
use Rattle.snap_semantics.specs.declared.process.Item.{Item}
use Rattle.snap_semantics.specs.declared.process.Outcome.{Outcome}
use Rattle.snap_semantics.specs.declared.process.Outcome.TheVariants as outcomes
use Rattle.snap_semantics.specs.declared.process.Outcome.TheVariants.{Stepped, Skipped}
use Rattle.snap_semantics.specs.declared.process.Reason.{Reason}
use Rattle.snap_semantics.specs.declared.process.Status.{Status}
use Rattle.snap_semantics.specs.Rules.{or_else}
use Rattle.snap_semantics.specs.State.{process_at}
use Rattle.snap_semantics.specs.Table.{who}
use Rattle.snap_runs.specs.Run.{Run, state, item, outcome}
use Rattle.snap_runs.specs.Scan.{count}
use Rattle.snap_runs.proofs.Computing.{lt_true}
use Rattle.snap_runs.proofs.Counting.{count_next}
use Rattle.snap_walk.specs.Walk.{Passes, PassesOver, Way, further, look_ahead, is_skip, is_skipped}
use Rattle.snap_walk.specs.Walk.{is_skip as skip_of_walk, is_skipped as skipped_on_walk}
use Rattle.snap_walk.proofs.Over.{Keeps, kept_over, untold_cases}
use Rattle.snap_walk.specs.declared.passed.Passed.{Passed}
use Rattle.snap_survey.specs.Survey.{calls_scan, calls_update, ends_update, traps, crashes, is_trap}
use Rattle.snap_survey.specs.Survey.{skip_by}
use Rattle.snap_survey.specs.Tally.{IsWithin, TalliesOn, noted, tally_of}
use Rattle.snap_survey.specs.declared.findings.Skip.{Skip}
use Rattle.snap_survey.specs.declared.tally.Tally.{Tally}

-- no more items pass a test than there are
one_more : (b : Bool) (x y t : ℕ) → x < suc t → y ≡ (if b then suc x else x) → y < suc (suc t)
one_more b x y t few is = grind arith

count_few : (f : ℕ → Bool) (t : ℕ) → count f 0 t < suc t
count_few f zero = omega arith
count_few f (suc t) =
    one_more (f (suc t)) (count f 0 t) (count f 0 (suc t)) t (count_few f t) (count_next f 0 t (omega arith))

pub few : (r : Run) (t : ℕ) → IsWithin (tally_of r t) (suc t)
few r t = record {
  scans_called = count_few (calls_scan r) t;
  updates_called = count_few (calls_update r) t;
  updates_done = count_few (ends_update r) t;
  traps = count_few (traps r) t;
  crashes = count_few (crashes r) t;
}

-- one item more
next_tally : (r : Run) (t : ℕ) →
    tally_of r (suc t) ≡ noted (tally_of r t) (suc t) (item r (suc t)) (outcome r (suc t))
    (process_at (state r (suc t)) (who (item r (suc t)))).status
next_tally r t = rw (lt_true 0 (suc t) (omega arith))

-- with nothing to note nothing is noted
kept : {A : Type 0} (found : Option A) → or_else found None ≡ found
kept found = grind arith

-- an item that ends a line comes to nothing that is counted
nothing_noted : (a : Tally) (t : ℕ) (x : Item) (o : Outcome) (s : Status) → o ≡ Stepped → a ≡ noted a t x o s
nothing_noted a t x o s is = rw (is, kept a.first_trap, kept a.first_skip)

-- The status matters only where the item is a trap.
pub untrapped : (a : Tally) (t : ℕ) (x : Item) (o : Outcome) (s stands : Status) → is_trap o ≡ false →
    noted a t x o s ≡ noted a t x o stands
untrapped a t x (outcomes.Trapped cause) s stands is = absurd cc
untrapped a t x o s stands is = refl

-- behind the first skip no other is noted
first_kept : (found other : Option Skip) → is_none found ≡ false → or_else found other ≡ found
first_kept found other is = grind arith

skip_noted : (a : Tally) (t : ℕ) (x : Item) (o : Outcome) (r : Reason) (s : Status) → o ≡ Skipped r →
    is_none a.first_skip ≡ false → a ≡ noted a t x o s
skip_noted a t x o r s is later =
    rw (is, kept a.first_trap, first_kept a.first_skip (skip_by t (who x) (Skipped r)) later)

module _ (w w' : Way) (p : Passed) (a : Tally) (d : Passes w p w') (so_far : a ≡ tally_of w.run w.at) where
  -- fewer were counted than there are items
  pub few_noted : IsWithin a p.number
  few_noted = rw (d.number, so_far) (few w.run w.at)

  -- with the item that was passed
  pub noted_passed : noted a p.number p.item p.outcome (process_at (state w'.run w'.at) (who p.item)).status
      ≡ tally_of w'.run w'.at
  noted_passed = rw (d.way, so_far, d.number, d.outcome, d.item) (sym (next_tally w.run w.at))

-- an item that is passed over leaves what was counted as it is
untold_tallied : (quiet : List Bool) (a : Tally) →
    Keeps quiet (is_none a.first_skip) (λ w. a ≡ tally_of w.run w.at)
untold_tallied quiet a w p d untold so_far =
    let stands = (process_at (state (further w).run (further w).at) (who p.item)).status in
    let noted_is = noted_passed w (further w) p a d so_far in
    elim (untold_cases (look_ahead quiet w) p.outcome (is_none a.first_skip) untold) [
      | inl stepped ↦ nothing_noted a p.number p.item p.outcome stands stepped.1 ∙ noted_is
      | inr skipped ↦ skip_noted a p.number p.item p.outcome skipped.0 stands skipped.1 skipped.2 ∙ noted_is
    ]

pub tallied_over : (quiet : List Bool) (a : Tally) (w v : Way) → PassesOver quiet (is_none a.first_skip) w v →
    a ≡ tally_of w.run w.at → a ≡ tally_of v.run v.at
tallied_over quiet a w v over so_far =
    kept_over quiet (is_none a.first_skip) (λ u. a ≡ tally_of u.run u.at) (untold_tallied quiet a) w v over so_far

-- before the item that is told
pub tallied_before : (w w' : Way) (a : Tally) (p : Passed) (o : TalliesOn w a p w') →
    a ≡ tally_of o.tells.between.run o.tells.between.at
tallied_before w w' a p o = tallied_over o.quiet a w o.tells.between o.tells.over o.tally

-- those that are skipped are those of a survey
skip_same : (o : Outcome) → skip_of_walk o ≡ is_skip o
skip_same o = grind arith

pub skips_same : (r : Run) (t : ℕ) → count (skipped_on_walk r) 0 t ≡ count (is_skipped r) 0 t
skips_same r zero = refl
skips_same r (suc t) = rw (skip_same (outcome r (suc t)), skips_same r t)
