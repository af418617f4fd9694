-- The turns of a process (`turns_of`) in a desk's history with one more item; and laws of prefixes of lists of items.
use Rattle.std.proofs.Common.{◌≡◌, ◌≢◌, ℕ, suc, ◌+◌, ◌≤◌, List, [], ◌∷◌, ◌++◌, length, take, drop, refl, sym, ap, ◌∙◌}
use Rattle.std.proofs.Common.{subst, arith, Bool, append_assoc, append-nil, ne_eqb, eq-eqb, nat_eq}
use Rattle.std.proofs.Math.Seq.{take-append_seam}
use Rattle.std.proofs.lemmas.List.{take-append-drop, take-append-le, take_all}
use mathlib.Core.List.{IsPrefix}
use Rattle.snap_semantics.specs.declared.process.Item.{Item}
use Rattle.snap_semantics.specs.declared.process.Outcome.{Outcome}
use Rattle.snap_semantics.specs.Run.{after}
use Rattle.snap_semantics.specs.State.{State, initial}
use Rattle.snap_semantics.specs.Table.{done, who}
use Rattle.snap_runs.specs.Run.{Run, state, outcome}
use Rattle.snap_record.specs.Record.{with_item}
use Rattle.snap_record.proofs.Histories.{longer, outcome_last}
use Rattle.snap_live.specs.declared.seat_state.OwnTurn.{OwnTurn}
use Rattle.snap_live.specs.declared.seat_state.Setting.{Setting}
use Rattle.snap_live.specs.Turns.{run_of, last_outcome, turns_from, turns_of, put_if, own_turn}

-- the state after all items
whole : (base : Setting) (xs : List Item) →
    state (run_of base xs) (length xs) ≡ after base.source base.shape (initial base.source base.shape) xs
whole base xs =
    ap (after base.source base.shape (initial base.source base.shape)) (take_all (length xs) xs (omega arith))

-- what comes of one item more
last-push : (base : Setting) (xs : List Item) (x : Item)
    → last_outcome base (xs ++ x ∷ [])
    ≡ (done base.source base.shape (after base.source base.shape (initial base.source base.shape) xs) x).1
last-push base xs x =
    let r : Run = run_of base xs in
    ap (outcome (with_item r x)) (longer r x) ∙ outcome_last r x
    ∙ ap (λ (S : State). (done base.source base.shape S x).1) (whole base xs)

put_if-append : (b : Bool) (t : OwnTurn) (xs ys : List OwnTurn) → put_if b t (xs ++ ys) ≡ put_if b t xs ++ ys
put_if-append b t xs ys = grind arith

turns_from-push : (base : Setting) (S : State) (k p : ℕ) (xs : List Item) (x : Item)
    → turns_from base S k p (xs ++ x ∷ [])
    ≡ turns_from base S k p xs ++ put_if (nat_eq p (who x))
    (own_turn (k + length (xs ++ x ∷ [])) x (done base.source base.shape (after base.source base.shape S xs) x).1) []
turns_from-push base S k p [] x = refl
turns_from-push base S k p (y ∷ ys) x =
    let S' : State = (done base.source base.shape S y).0 in
    let t = own_turn (k + 1) y (done base.source base.shape S y).1 in
    let o : Outcome = (done base.source base.shape (after base.source base.shape S' ys) x).1 in
    let n : (k + 1) + length (ys ++ x ∷ []) ≡ k + suc (length (ys ++ x ∷ [])) = omega arith in
    ap (λ (ts : List OwnTurn). put_if (nat_eq p (who y)) t ts) (turns_from-push base S' (k + 1) p ys x)
    ∙ put_if-append (nat_eq p (who y)) t (turns_from base S' (k + 1) p ys)
    (put_if (nat_eq p (who x)) (own_turn ((k + 1) + length (ys ++ x ∷ [])) x o) [])
    ∙ ap (λ (m : ℕ).
    put_if (nat_eq p (who y)) t (turns_from base S' (k + 1) p ys) ++ put_if (nat_eq p (who x)) (own_turn m x o) []) n

-- a turn of this process
pub turns_of-mine : (base : Setting) (p : ℕ) (xs : List Item) (x : Item) → p ≡ who x
    → turns_of base p (xs ++ x ∷ [])
    ≡ turns_of base p xs ++ own_turn (length (xs ++ x ∷ [])) x (last_outcome base (xs ++ x ∷ [])) ∷ []
turns_of-mine base p xs x e =
    let zeroes : 0 + length (xs ++ x ∷ []) ≡ length (xs ++ x ∷ []) = omega arith in
    turns_from-push base (initial base.source base.shape) 0 p xs x
    ∙ rw (eq-eqb p (who x) e, zeroes, last-push base xs x) refl

-- a turn of another
pub turns_of-other : (base : Setting) (p : ℕ) (xs : List Item) (x : Item) → p ≢ who x →
    turns_of base p (xs ++ x ∷ []) ≡ turns_of base p xs
turns_of-other base p xs x ne =
    turns_from-push base (initial base.source base.shape) 0 p xs x
    ∙ rw (ne_eqb p (who x) ne) (append-nil (turns_of base p xs))

pub prefix_same : (xs : List Item) → IsPrefix xs xs
prefix_same xs = ([], append-nil xs)

pub prefix_more : (xs ys zs : List Item) → IsPrefix xs ys → IsPrefix xs (ys ++ zs)
prefix_more xs ys zs p = (p.0 ++ zs, sym (append_assoc xs p.0 zs) ∙ ap (λ (l : List Item). l ++ zs) p.1)

pub prefix_chain : (xs ys zs : List Item) → IsPrefix xs ys → IsPrefix ys zs → IsPrefix xs zs
prefix_chain xs ys zs p q = subst (λ (l : List Item). IsPrefix xs l) q.1 (prefix_more xs ys q.0 p)

-- of two beginnings of one list the shorter begins the longer
pub prefix_shorter : (xs ys l : List Item) → IsPrefix xs l → IsPrefix ys l → length xs ≤ length ys → IsPrefix xs ys
prefix_shorter xs ys l p q le =
    let front : take (length xs) ys ≡ xs =
    sym (take-append-le (length xs) ys q.0 le) ∙ ap (take (length xs)) (q.1 ∙ sym p.1) ∙ take-append_seam xs p.0 in
    let rest = drop (length xs) ys in
    (rest, ap (λ (k : List Item). k ++ rest) (sym front) ∙ take-append-drop (length xs) ys)
