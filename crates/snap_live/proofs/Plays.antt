-- A worker's play of its script, with one turn more: what a step, a call or the crash leaves due of the script.
use Rattle.std.proofs.Common.{◌≡◌, ℕ, zero, suc, ◌+◌, ◌<◌, List, [], ◌∷◌, ◌++◌, length, drop, refl, sym, ap, ◌∙◌}
use Rattle.std.proofs.Common.{subst, arith, get_or, add-one, drop-cons, length-append, Bool, true, false, Option}
use Rattle.std.specs.Prelude.{MatchBool}
use Rattle.snap_semantics.specs.declared.process.Item.{Item}
use Rattle.snap_semantics.specs.declared.process.Item.TheVariants.{Step, Call, Crash}
use Rattle.snap_semantics.specs.declared.process.Op.{Op}
use Rattle.snap_semantics.specs.declared.process.Outcome.{Outcome}
use Rattle.snap_live.specs.declared.seat_state.OwnTurn.{OwnTurn}
use Rattle.snap_live.specs.declared.seat.Turn.{Turn}
use Rattle.snap_live.specs.declared.worker.Sequel.{Sequel}
use Rattle.snap_live.specs.declared.worker.Sequel.TheVariants as sequel
use Rattle.snap_live.specs.Turns.{own_turn}
use Rattle.snap_live.specs.Sequels.{sequel_of}
use Rattle.snap_sched.specs.ScriptText.{Script}
use Rattle.snap_live.specs.Script.{crashes_behind}
use Rattle.snap_live.specs.Shown.{DeskView, SeatView}
use Rattle.snap_live.specs.Worker.{Made, Kept}
use Rattle.snap_live.specs.Play.{IsDue, IsCrash, IsBegun, Due, rest, busy, over, Does}
use Rattle.snap_live.specs.Play.{Moves, Plays, Leaves, after_call, after_step}

plays-push : (crash : Option ℕ) (k : ℕ) (d e f : Due) (ts : List OwnTurn) (t : OwnTurn)
    → Plays crash k d ts e → Moves crash (k + length ts) e t f → Plays crash k d (ts ++ t ∷ []) f
plays-push crash k d e f [] t p m =
    let here : k + 0 ≡ k = omega arith in
    (f, subst (λ (x : Due). Moves crash k x t f) (sym p) (subst (λ (n : ℕ). Moves crash n e t f) here m), refl)
plays-push crash k d e f (u ∷ us) t p m =
    let later : k + suc (length us) ≡ (k + 1) + length us = omega arith in
    (p.0, p.1, plays-push crash (k + 1) p.0 e f us t p.2 (subst (λ (n : ℕ). Moves crash n e t f) later m))

-- the turn that was made is one turn more, which may be the crash
made_leaves : (script : Script) (b a : SeatView) (x : Item) (m : Sequel) (e f : Due) (crashes : Bool) (d : Made b a x m)
    → b.asked ≡ length b.own → crashes_behind script.crash b.asked ≡ crashes → Leaves script b.own e
    → MatchBool crashes (IsDue e × IsCrash x × (f ≡ over)) (Does e (own_turn d.number x d.outcome) f)
    → (a.asked ≡ length a.own) × Leaves script a.own f
made_leaves script b a x m e f crashes d asked is p moves =
    let t = own_turn d.number x d.outcome in
    let n : length a.own ≡ length b.own + 1 = rw d.own (length-append b.own (t ∷ [])) in
    let place : b.asked ≡ 0 + length b.own = omega arith in
    let comes : crashes_behind script.crash (0 + length b.own) ≡ crashes = rw (← place) is in (
      omega (arith, d.asked),
      rw d.own (plays-push script.crash 0 (rest script.operations) e f b.own t p (rw comes moves)),
    )

-- what is due by what a worker reads of the outcome
abbrev pub due_of : Sequel → List Op → Due
due_of sequel.Ended os = rest os
due_of sequel.Trapped os = over
due_of _ os = busy os

step_due : (o : Outcome) (os : List Op) → after_step o os ≡ due_of (sequel_of o) os
step_due o os = grind arith

-- what is due after a call, as the worker reads it
abbrev pub due_called : Sequel → List Op → Due
due_called sequel.Skipped os = rest os
due_called _ os = busy os

call_due : (o : Outcome) (os : List Op) → after_call o os ≡ due_called (sequel_of o) os
call_due o os = grind arith

-- a step goes on as the worker reads it
pub steps_on : (script : Script) (os : List Op) (b a : SeatView) (i : ℕ) (m k : Sequel)
    → Made b a (Step i) m → m ≡ k → b.asked ≡ length b.own →
    crashes_behind script.crash b.asked ≡ false → Leaves script b.own (busy os)
    → (a.asked ≡ length a.own) × Leaves script a.own (due_of k os)
steps_on script os b a i m k d e asked quiet p =
    made_leaves script b a (Step i) m (busy os) (due_of k os) false d asked quiet p
    (tt, ap (λ (x : Sequel). due_of x os) (sym e ∙ d.reads) ∙ sym (step_due d.outcome os))

-- a call goes on as the worker reads it
calls_on : (script : Script) (os : List Op) (op : Op) (b a : SeatView) (i : ℕ) (m : Sequel)
    → Made b a (Call i op) m → b.asked ≡ length b.own → crashes_behind script.crash b.asked ≡ false →
    Leaves script b.own (rest (op ∷ os))
    → (a.asked ≡ length a.own) × Leaves script a.own (due_called m os)
calls_on script os op b a i m d asked quiet p =
    made_leaves script b a (Call i op) m (rest (op ∷ os)) (due_called m os) false d asked quiet p
    (refl, ap (λ (x : Sequel). due_called x os) d.reads ∙ sym (call_due d.outcome os))

-- nothing is due behind a crash
pub crash_on : (script : Script) (b a : SeatView) (i : ℕ) (m : Sequel)
    → Made b a (Crash i) m → b.asked ≡ length b.own → crashes_behind script.crash b.asked ≡ true → IsBegun script b.own
    → (a.asked ≡ length a.own) × Leaves script a.own over
crash_on script b a i m d asked comes begun =
    made_leaves script b a (Crash i) m begun.0 over true d asked comes begun.1 (begun.2, tt, refl)

pub kept_of : (may : ℕ → ℕ → Bool → Type 0) (desk : DeskView) (p q limit : ℕ) (s : SeatView) (ts : List Turn) →
    p ≡ q → Kept may desk p limit s ts → Kept may desk q limit s ts
kept_of may desk p q limit s ts e k = rw e at k

-- where an operation is left, it is due
left_is_due : (ops : List Op) (at : ℕ) → at < length ops → IsDue (rest (drop at ops))
left_is_due [] zero lt = absurd (omega arith)
left_is_due [] (suc at) lt = absurd (omega arith)
left_is_due (o ∷ os) zero lt = tt
left_is_due (o ∷ os) (suc at) lt = left_is_due os at (omega arith)

pub begun_left : (script : Script) (ts : List OwnTurn) (at : ℕ) → at < length script.operations →
    Leaves script ts (rest (drop at script.operations)) → IsBegun script ts
begun_left script ts at lt p = (rest (drop at script.operations), p, left_is_due script.operations at lt)

goes_on : (m : Sequel) (os : List Op) → (m ≡ sequel.Skipped → ⊥) → due_called m os ≡ busy os
goes_on m os ne = grind arith

-- a call of the operation at this place
pub calls_at : (script : Script) (l : List Op) (at : ℕ) (o : Op) (b a : SeatView) (i : ℕ) (m : Sequel)
    → l ≡ script.operations → at < length script.operations → Made b a (Call i (get_or l at o)) m →
    b.asked ≡ length b.own → crashes_behind script.crash b.asked ≡ false
    → Leaves script b.own (rest (drop at script.operations))
    → (a.asked ≡ length a.own) × Leaves script a.own (due_called m (drop (at + 1) script.operations))
calls_at script l at o b a i m same lt called asked quiet p =
    let ops = script.operations in
    let next : drop at ops ≡ get_or ops at o ∷ drop (at + 1) ops = rw add-one (drop-cons ops at o lt) in
    calls_on script (drop (at + 1) ops) (get_or ops at o) b a i m (rw same at called) asked quiet (rw next at p)

pub call_goes : (script : Script) (os : List Op) (ts : List OwnTurn) (m : Sequel) → (m ≡ sequel.Skipped → ⊥) →
    Leaves script ts (due_called m os) → Leaves script ts (busy os)
call_goes script os ts m ne p = rw (goes_on m os ne) at p

pub call_passes : (script : Script) (os : List Op) (ts : List OwnTurn) (m : Sequel) → m ≡ sequel.Skipped →
    Leaves script ts (due_called m os) → Leaves script ts (rest os)
call_passes script os ts m e p = rw e at p
