-- A schedule whose last item answers a scan: its run reaches as
-- many double collects of the scan as were counted (`Reaches`).
use Rattle.std.proofs.Common.{◌≡◌, ℕ, zero, suc, ◌+◌, ◌<◌, false, ◌&&◌, List, [], ◌∷◌, ◌++◌, length, None}
use Rattle.std.proofs.Common.{refl, sym, ◌∙◌, ap, subst, arith}
use Rattle.std.proofs.Math.Bool.{and-false}
use Rattle.std.proofs.Math.Seq.{get_or-append_seam}
use Rattle.std.proofs.lemmas.List.{length-append, get_or_append_left}
use Rattle.snap_runs.proofs.Common.{IsOneOf, process_at, who, Item, Step, Outcome, Answered, Run, before, item, outcome}
use Rattle.snap_runs.specs.Scan.{FinishedScan, steps, is_if_all, line_in, is_stepped, ends_double_collect}
use Rattle.snap_runs.proofs.Algorithm.{Mode, Control, At, Move, Answer, Algorithm, by_move, by_step, by_item}
use Rattle.snap_runs.proofs.Algorithm.{outcome_of, happens, item_at, typed_at, typed_state, first_state}
use Rattle.snap_runs.proofs.Calls.{answer_ends}
use Rattle.snap_runs.proofs.Counting.{count_not}
use Rattle.snap_runs.proofs.Embedding as embed
use Rattle.snap_runs.proofs.Flow.{Lines}
use Rattle.snap_runs.proofs.Scans as scans
use Rattle.snap_runs.proofs.Steady.{fits_of}
use Rattle.snap_runs_sharp.specs.Reached.{Reaches}
use Rattle.snap_runs_sharp.proofs.Alone.{Alone, State, standing, alone_of, run_from}

module _ {V P M : Type 0} (a : Algorithm V P M) where
  -- the state after the first of these items
  run_is : (items xs : List Item) (t : ℕ) → ((u : ℕ) → u < length xs → item_at items (t + u) ≡ item_at xs u) →
      run_from a t (typed_state a items t) xs ≡ typed_state a items (t + length xs)
  run_is items [] t h = ap (typed_state a items) (let e : t ≡ t + zero = omega arith in e)
  run_is items (y ∷ xs) t h =
      let here : item_at items t ≡ y =
      ap (item_at items) (let e : t ≡ t + zero = omega arith in e) ∙ h zero (omega arith) in
      ap (λ z. run_from a (suc t) (happens a (suc t) (typed_state a items t) z) xs) (sym here)
      ∙ run_is items xs (suc t)
      (λ u lt. ap (item_at items) (let e : suc t + u ≡ t + suc u = omega arith in e) ∙ h (suc u) (omega arith))
      ∙ ap (typed_state a items) (let e : suc t + length xs ≡ t + suc (length xs) = omega arith in e)

  pub state_after : (xs ys : List Item) → typed_state a (xs ++ ys) (length xs) ≡ run_from a 0 (first_state a) xs
  state_after xs ys =
      ap (typed_state a (xs ++ ys)) (let e : length xs ≡ zero + length xs = omega arith in e)
      ∙ sym (run_is (xs ++ ys) xs 0 (λ u lt. ap (item_at (xs ++ ys)) (let e : zero + u ≡ u = omega arith in e)
      ∙ get_or_append_left xs ys (Step 0) u lt))

  module _ (lines : Lines V P M) (listed : scans.Listed a lines) (run : scans.Execution a lines) where
    abbrev items : List Item
    items = run.items

    abbrev r : Run
    r = embed.run_of a items

    -- A schedule whose last step answers a scan reaches as many double collects as were counted.
    pub reaches : (start : List Item) (i : ℕ) (d : Mode) (k : P) (m : M) (p : V) (c : ℕ) (view : List ℕ) →
        items ≡ start ++ Step i ∷ [] → IsOneOf a.shape.n i →
        alone_of a (run_from a 0 (first_state a) start) i ≡ standing d m p k c →
        a.move i d m p k ≡ Answer view → Reaches c r
    reaches start i d k m p c view shape one stands answers =
        let t = length start in
        let size : length items ≡ length start + 1 = ap length shape ∙ length-append start (Step i ∷ []) in
        let short : t < length items = omega arith in
        let is : item_at items t ≡ Step i =
        ap (λ xs. item_at xs t) shape ∙ get_or-append_seam start (Step i) [] (Step 0) in
        let x = typed_state a items t in
        let there : alone_of a x i ≡ standing d m p k c =
        ap (λ (x : State a). alone_of a x i)
        (ap (λ xs. typed_state a xs t) shape ∙ state_after start (Step i ∷ [])) ∙ stands in
        let control : (typed_at a x i).control ≡ At d k = ap (λ (y : Alone V P M). y.seat.control) there in
        let moves : a.move i d x.memory (typed_at a x i).variables k ≡ Answer view =
        ap (λ (y : Alone V P M). a.move i d y.memory y.seat.variables k) there ∙ answers in
        let out : outcome r (suc t) ≡ Answered view =
        embed.outcome_is a items run.fits run.does t short
        ∙ ap (λ (y : Item). outcome_of (by_item a (suc t) x y)) is
        ∙ ap (λ (y : Control P). outcome_of (by_step a (suc t) x.memory i (typed_at a x i) y)) control
        ∙ ap (λ (v : Move V P M). outcome_of (by_move a (suc t) x.memory (typed_at a x i) k v)) moves in
        let ends = answer_ends r (fits_of r run.fits) t view short out in
        let call = ends.0 in
        let finished : FinishedScan r i None call (suc t) view =
        subst (λ y. FinishedScan r y None call (suc t) view) (ap who is) ends.1 in
        let order : call < suc t = finished.order in
        let goes = scans.goes a lines listed run i one None call (suc t) t finished.scan (omega arith) (omega arith) in
        let none : ends_double_collect r i (suc t) ≡ false =
        ap (λ (o : Outcome). steps i (item r (suc t))
        && (is_if_all (line_in r.source (process_at (before r (suc t)) i).status) && is_stepped o)) out
        ∙ rw (and-false, and-false) refl in
        record {
          fits = fits_of r run.fits;
          process = i;
          call = call;
          answer = suc t;
          view = view;
          finished = finished;
          collects = count_not (ends_double_collect r i) call t (omega arith) none ∙ sym goes.collects ∙ ap
              (λ (y : Alone V P M). y.seat.collects) there;
        }
