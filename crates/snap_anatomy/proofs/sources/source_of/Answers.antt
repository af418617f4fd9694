-- `source_of` of snap_anatomy (src/sources.rt): the proof of what its contract says.
use Rattle.std.proofs.Common.{◌≡◌, ◌<◌, ◌≤◌, ◌-◌, ◌∙◌, ℕ, zero, suc, List, Option, Some, None, IfSome, false}
use Rattle.std.proofs.Common.{sym, ap, arith}
use Rattle.snap_acts.specs.declared.act.TraceStep.{TraceStep}
use Rattle.snap_acts.specs.Loans.{view_taken}
use Rattle.snap_acts.specs.declared.loans.Borrowed.{Borrowed}
use Rattle.snap_acts.specs.declared.loans.ScanPlaces.{ScanPlaces}
use Rattle.snap_anatomy.specs.Sources.{is_own, lender_of, source_of}
use Rattle.snap_anatomy.proofs.sources.source_of.Goals as goal

-- Where a scan took a view, the scan that read it is sought among the lenders.
goes_on : (ss : List TraceStep) (next : Option ScanPlaces) (s : ScanPlaces) (left : ℕ) (v : Option Borrowed)
    (l all : Option ScanPlaces) → 0 < left → next ≡ Some s → v ≡ view_taken ss s → is_own v ≡ false →
    l ≡ lender_of v → source_of ss next left ≡ all → source_of ss l (left - 1) ≡ all
goes_on ss next s zero v l all some is taken own lends so_far = absurd (omega arith)
goes_on ss next s (suc left) v l all some is taken own lends so_far =
    let m : suc left - 1 ≡ left = omega arith in
    let e : is_own (view_taken ss s) ≡ false = ap is_own (sym taken) ∙ own in
    let h : source_of ss (Some s) (suc left) ≡ all =
    ap (λ (x : Option ScanPlaces). source_of ss x (suc left)) (sym is) ∙ so_far in
    rw (m, lends, taken) (rw e at h)

-- the lender's scan lies in the trace
lender_within : (v : Option Borrowed) (l : Option ScanPlaces) (n : ℕ) → l ≡ lender_of v →
    IfSome v (λ (b : Borrowed). IfSome b.lender (λ (s : ScanPlaces). s.to ≤ n)) →
    IfSome l (λ (s : ScanPlaces). s.to ≤ n)
lender_within None l n e within = rw e tt
lender_within (Some b) l n e within = rw e within

pub loop-left-preserved : goal.loop-left-preserved
loop-left-preserved c = (
  goes_on c.args.steps.now c.loop-left.next c.in-Some.scan c.loop-left.left c.view_taken-view.result
      c.lender_of-next.result _ (omega (arith, c.loop-left-test.true)) c.in-Some.is c.view_taken-view.ensures.view
      (sym c.is_own.ensures ∙ c.if-is_own.false) c.lender_of-next.ensures c.loop-left.invariant.0,
  lender_within c.view_taken-view.result c.lender_of-next.result _ c.lender_of-next.ensures
      c.view_taken-view.ensures.within,
)
