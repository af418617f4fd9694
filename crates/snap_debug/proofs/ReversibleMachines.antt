-- A `ReversibleMachine` of the debugger can still go back to its start when it does one more item, or takes its last
-- one back.
use Rattle.std.proofs.Common.{◌≡◌, ℕ, zero, suc, ◌+◌, ◌-◌, ◌<◌, List, [], ◌∷◌, ◌++◌, length, refl, ap, subst}
use Rattle.std.proofs.Common.{◌∙◌, length-append, slice_index_or, arith}
use Rattle.snap_runs.specs.Run.{Run, state, outcome}
use Rattle.snap_machine.specs.Undo.{CanPut, put}
use Rattle.snap_debug.specs.Recording.{AllUndo, IsReversible, IsCheckpoint, Undoes, start}
use Rattle.snap_debug.proofs.Recordings.{machine_is}
use Rattle.snap_debug.specs.declared.reversible_machine.DoneItem.{DoneItem}
use Rattle.snap_debug.specs.declared.reversible_machine.ReversibleMachine.{ReversibleMachine}

-- one item more
undone_more : {K W : Type 0} (r : Run) (t : ℕ) (ds : List (DoneItem K W)) (d : DoneItem K W) → AllUndo r t ds →
    Undoes r (t + length ds) d → AllUndo r t (ds ++ d ∷ [])
undone_more r t [] d all last = (let e : t ≡ t + 0 = omega arith in (rw e last, tt))
undone_more r t (x ∷ ds) d all last =
    let e : t + 1 + length ds ≡ t + suc (length ds) = omega arith in
    (all.0, undone_more r (t + 1) ds d all.1 (rw e last))

-- one item less
undone_less : {K W : Type 0} (r : Run) (t : ℕ) (ds : List (DoneItem K W)) (d : DoneItem K W) →
    AllUndo r t (ds ++ d ∷ []) → AllUndo r t ds × Undoes r (t + length ds) d
undone_less r t [] d all = (let e : t + 0 ≡ t = omega arith in (tt, rw e all.0))
undone_less r t (x ∷ ds) d all =
    let e : t + suc (length ds) ≡ t + 1 + length ds = omega arith in
    let less = undone_less r (t + 1) ds d all.1 in
    ((all.0, less.0), rw e less.1)

-- the last item of a way is known to be undone
pub last_undoes : {K W : Type 0} (r : Run) (p : ReversibleMachine K W) (ds : List (DoneItem K W)) (d : DoneItem K W)
    (t : ℕ) → IsReversible r p → p.done.items ≡ ds ++ d ∷ [] → t + 1 ≡ p.current.position →
    AllUndo r (start p) ds × Undoes r t d
last_undoes r p ds d t h is at =
    let size = ap length is ∙ length-append ds (d ∷ []) in
    let within = h.within in
    let e : start p + length ds ≡ t = omega (arith, size, within, at) in
    let less = undone_less r (start p) ds d (subst (AllUndo r (start p)) is h.undone) in
    (less.0, rw e at less.1)

-- what the last item overwrote can be put back
pub can_put : {K W : Type 0} (r : Run) (p : ReversibleMachine K W) (ds : List (DoneItem K W)) (d : DoneItem K W) →
    IsReversible r p → p.done.items ≡ ds ++ d ∷ [] → 0 < p.current.position →
    CanPut p.current.machine.source p.current.machine.shape d.undo
can_put r p ds d h is some =
    let e : p.current.position - 1 + 1 ≡ p.current.position = omega (arith, some) in
    let last = last_undoes r p ds d (p.current.position - 1) h is e in
    rw h.stands.machine last.1.fits

-- the last item is taken back
pub leads_back : {K W : Type 0} (r : Run) (p q : ReversibleMachine K W) (d : DoneItem K W) →
    IsReversible r p → p.done.items ≡ q.done.items ++ d ∷ [] → q.current.position + 1 ≡ p.current.position →
    q.current.machine.source ≡ p.current.machine.source → q.current.machine.shape ≡ p.current.machine.shape →
    q.current.machine.state ≡ put p.current.machine.source d.undo p.current.machine.state → IsReversible r q
leads_back r p q d h is at source shape did =
    let last = last_undoes r p q.done.items d q.current.position h is at in
    let size = ap length is ∙ length-append q.done.items (d ∷ []) in
    let le = h.stands.within in
    let within = h.within in
    let e : start p ≡ start q = omega (arith, size, at, within) in
    let there : put p.current.machine.source d.undo p.current.machine.state
    ≡ put r.source d.undo (state r (q.current.position + 1)) =
    rw (h.stands.machine, at) refl in
    record {
      stands = record {
        within = omega (arith, le, at);
        machine = machine_is r q.current.position q.current.machine (rw (source, h.stands.machine) refl)
            (rw (shape, h.stands.machine) refl) (did ∙ there ∙ last.1.back);
      };
      within = omega (arith, size, at, within);
      undone = rw e at last.0;
    }

-- one item is done more
pub leads_on : {K W : Type 0} (r : Run) (p q : ReversibleMachine K W) (d : DoneItem K W) → IsReversible r p →
    IsCheckpoint r q.current → q.current.position ≡ p.current.position + 1 → q.done.items ≡ p.done.items ++ d ∷ [] →
    d.outcome ≡ outcome r (p.current.position + 1) → CanPut p.current.machine.source p.current.machine.shape d.undo →
    put p.current.machine.source d.undo q.current.machine.state ≡ p.current.machine.state → IsReversible r q
leads_on r p q d h stands at is came fits back =
    let size = ap length is ∙ length-append p.done.items (d ∷ []) in
    let within = h.within in
    let e : start p ≡ start q = omega (arith, size, at, within) in
    let last : p.current.position ≡ start p + length p.done.items = omega (arith, within) in
    let undoes : Undoes r p.current.position d = record {
      outcome = came;
      fits = rw h.stands.machine at fits;
      back = rw (h.stands.machine, stands.machine, at) at back;
    } in
    record {
      stands = stands;
      within = omega (arith, size, at, within);
      undone = rw (← e, is) (undone_more r (start p) p.done.items d h.undone (rw last at undoes));
    }

-- the item at a place of a way
undone_at : {K W : Type 0} (r : Run) (t : ℕ) (ds : List (DoneItem K W)) (k : ℕ) (d : DoneItem K W) → AllUndo r t ds →
    k < length ds → Undoes r (t + k) (slice_index_or ds k d)
undone_at r t [] k d all lt = absurd (omega (arith, lt))
undone_at r t (x ∷ ds) zero d all lt = (let e : t + 0 ≡ t = omega arith in rw e all.0)
undone_at r t (x ∷ ds) (suc k) d all lt =
    let e : t + suc k ≡ t + 1 + k = omega arith in
    rw e (undone_at r (t + 1) ds k d all.1 (omega (arith, lt)))

-- what came of the last item
pub last_came : {K W : Type 0} (r : Run) (p : ReversibleMachine K W) (ds : List (DoneItem K W)) (d : DoneItem K W) →
    IsReversible r p → 0 < length p.done.items → ds ≡ p.done.items →
    (slice_index_or ds (length ds - 1) d).outcome ≡ outcome r p.current.position
last_came r p ds d h some is =
    let within = h.within in
    let size = ap length is in
    let last = undone_at r (start p) ds (length ds - 1) d (rw is h.undone) (omega (arith, some, size)) in
    let e : start p + (length ds - 1) + 1 ≡ p.current.position = omega (arith, within, some, size) in
    last.outcome ∙ ap (outcome r) e
