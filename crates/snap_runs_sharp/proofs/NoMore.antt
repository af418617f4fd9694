-- No finished scan makes more double collects than the bounds,
-- and a scan of U that steps alone makes one and not two.
use Rattle.std.proofs.Common.{◌≡◌, ℕ, zero, suc, ◌+◌, ◌*◌, ◌-◌, ◌<◌, ◌≤◌, List, ◌∷◌, ◌++◌, length, None, slice_index_or}
use Rattle.std.proofs.Common.{refl, sym, ◌∙◌, ap, subst, arith}
use Rattle.std.specs.List.{All}
use Rattle.std.proofs.lemmas.List.Elements.{All-append, All-replicate}
use Rattle.snap_runs.proofs.Common.{Item, Step, Call, Scan, Run, item}
use Rattle.snap_runs.specs.Scan.{FinishedScan}
use Rattle.snap_runs.proofs.Operations.{same_answer}
use Rattle.snap_runs_of_b.specs.Promises as b
use Rattle.snap_runs_of_b.proofs.Bounds as bounds_of_b
use Rattle.snap_runs_of_m.specs.Promises as m
use Rattle.snap_runs_of_m.proofs.Bounds as bounds_of_m
use Rattle.snap_runs_of_u.specs.Promises as u
use Rattle.snap_runs_of_u.proofs.Bounds as bounds_of_u
use Rattle.snap_runs.specs.Promises.{CollectsAtMost}
use Rattle.snap_runs_sharp.specs.Reached.{Reaches, NoMoreIsReached, ScanAloneMakesOne}
use Rattle.snap_runs_sharp.specs.Schedules.{steps_of, scan_alone_of_u}
use Rattle.snap_runs_sharp.proofs.ReachedByU.{scan_alone_reaches}

-- a run reaches no more than a bound that it keeps
within : (most more : ℕ) (r : Run) → CollectsAtMost most r → most < more → Reaches more r → ⊥
within most more r at_most less h =
    omega (arith, at_most h.fits h.process None h.call h.answer h.finished.scan, h.collects)

pub no_more_is_reached_lem : NoMoreIsReached
no_more_is_reached_lem = record {
  by_u =
      λ n more items less suffice h.
      within n more (u.run_of n items) (bounds_of_u.sharp_collects_lem n items suffice) less h;
  by_b = λ n more less h. within n more (b.run_of n h.0) (bounds_of_b.sharp_collects_lem n h.0) less h.1;
  by_m =
      λ n w more some less h.
      within (2 * n - 1) more (m.run_of n w h.0) (bounds_of_m.sharp_collects_lem n w h.0 some) less h.1;
}

-- a step
abbrev IsStep : Item → Type 0
IsStep (Step i) = Unit {0}
IsStep _ = ⊥

-- After a first item there are steps alone, so that its call is the only one.
module _ (r : Run) (first : Item) (rest : List Item) (items_are : r.items ≡ first ∷ rest)
    (steps : All IsStep rest) where
  no_call : (i t : ℕ) → t < length rest → slice_index_or rest t (Step 0) ≡ Call i Scan → ⊥
  no_call i t short is = subst IsStep is (steps t (Step 0) short)

  call_is : (i c : ℕ) → 0 < c → c ≤ length r.items → item r c ≡ Call i Scan → (c ≡ 1) × (first ≡ Call i Scan)
  call_is i zero pos le is = absurd (omega arith)
  call_is i (suc zero) pos le is = (omega arith, sym (ap (λ xs. slice_index_or xs 0 (Step 0)) items_are) ∙ is)
  call_is i (suc (suc t)) pos le is =
      let size : length r.items ≡ suc (length rest) = ap length items_are in
      absurd (no_call i t (omega arith) (sym (ap (λ xs. slice_index_or xs (suc t) (Step 0)) items_are) ∙ is))

  -- a run of one call has one finished scan at most
  one_bound : (x y : ℕ) → Reaches x r → Reaches y r → x ≡ y
  one_bound x y h g =
      let mine = h.finished in
      let yours = g.finished in
      let a = call_is h.process h.call mine.scan.first (
      omega (arith, mine.scan.order, mine.scan.last)) mine.scan.starts.0 in
      let b = call_is g.process g.call yours.scan.first (
      omega (arith, yours.scan.order, yours.scan.last)) yours.scan.starts.0 in
      let process : g.process ≡ h.process = let e : Call g.process Scan ≡ Call h.process Scan = sym b.1 ∙ a.1 in cc in
      let call : g.call ≡ h.call = b.0 ∙ sym a.0 in
      let same : FinishedScan r h.process None h.call g.answer g.view =
      subst (λ c. FinishedScan r h.process None c g.answer g.view) call
      (subst (λ k. FinishedScan r k None g.call g.answer g.view) process yours) in
      let answer : h.answer ≡ g.answer = same_answer r h.process h.call h.answer g.answer h.view g.view mine same in
      cc (h.collects, g.collects)

-- the steps of the scan alone
tail_of : ℕ → List Item
tail_of n = (steps_of 1 2 ++ steps_of 1 (4 * n + 2)) ++ steps_of 1 1

tail_steps : (n : ℕ) → All IsStep (tail_of n)
unfolding tail_of
tail_steps n =
    All-append IsStep (steps_of 1 2 ++ steps_of 1 (4 * n + 2)) (steps_of 1 1)
    (All-append IsStep (steps_of 1 2) (steps_of 1 (4 * n + 2)) (All-replicate IsStep 2 (Step 1) tt)
    (All-replicate IsStep (4 * n + 2) (Step 1) tt)) (All-replicate IsStep 1 (Step 1) tt)

tail_is : (n : ℕ) → scan_alone_of_u n ≡ Call 1 Scan ∷ tail_of n
unfolding tail_of
tail_is n = refl

pub scan_alone_makes_one_lem : ScanAloneMakesOne
scan_alone_makes_one_lem n counts =
    let one = scan_alone_reaches n (omega arith) (omega arith) in (
      one,
      λ two. let e : 1 ≡ 2 = one_bound (u.run_of n (scan_alone_of_u n)) (Call 1 Scan) (tail_of n) (tail_is n)
          (tail_steps n) 1 2 one two in absurd (omega arith),
    )
