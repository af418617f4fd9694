-- The first place of a quantifier at which a condition or a value traps: this place, or a later one.
use Rattle.std.proofs.Common.{◌≡◌, ◌<◌, ◌+◌, ◌-◌, ◌∙◌, ℕ, zero, suc, Option, Some, None, refl, sym, subst, arith}
use Rattle.snap_words.specs.Shape.{Counts}
use Rattle.snap_semantics.specs.Rules.{or_else}
use Rattle.snap_semantics.specs.State.{State}
use Rattle.snap_semantics.specs.declared.instr.Condition.{Condition}
use Rattle.snap_semantics.specs.declared.instr.Expr.{Expr}
use Rattle.snap_why.specs.Troubles.{condition_trouble, conditions_trouble, context_of, expr_trouble, taker_at}
use Rattle.snap_why.specs.Troubles.{values_trouble, where_trouble}
use Rattle.snap_why.specs.declared.taker.Taker.{Taker}
use Rattle.snap_why.specs.declared.trouble.Trouble.{Trouble}

pub condition_here : (shape : Counts) (S : State) (t : Taker) (k : Condition) (p left : ℕ) (x : Trouble) → 0 < left →
    condition_trouble (context_of shape S (taker_at t p)) k ≡ Some x → conditions_trouble shape S t k p left ≡ Some x
condition_here shape S t k p zero x some e = absurd (omega (arith, some))
condition_here shape S t k p (suc left) x some e = rw e refl

pub condition_later : (shape : Counts) (S : State) (t : Taker) (k : Condition) (p left : ℕ) → 0 < left →
    condition_trouble (context_of shape S (taker_at t p)) k ≡ None →
    conditions_trouble shape S t k p left ≡ conditions_trouble shape S t k (p + 1) (left - 1)
condition_later shape S t k p zero some e = absurd (omega (arith, some))
condition_later shape S t k p (suc left) some e = let m : suc left - 1 ≡ left = omega arith in rw (e, m) refl

pub value_here : (shape : Counts) (S : State) (t : Taker) (e : Expr)
    (k : Option Condition) (p left : ℕ) (x : Trouble) → 0 < left →
    or_else (expr_trouble (context_of shape S (taker_at t p)) e) (where_trouble (context_of shape S (taker_at t p)) k)
    ≡ Some x → values_trouble shape S t e k p left ≡ Some x
value_here shape S t e k p zero x some is = absurd (omega (arith, some))
value_here shape S t e k p (suc left) x some is = rw is refl

pub value_later : (shape : Counts) (S : State) (t : Taker) (e : Expr) (k : Option Condition) (p left : ℕ) → 0 < left →
    or_else (expr_trouble (context_of shape S (taker_at t p)) e) (where_trouble (context_of shape S (taker_at t p)) k)
    ≡ None → values_trouble shape S t e k p left ≡ values_trouble shape S t e k (p + 1) (left - 1)
value_later shape S t e k p zero some is = absurd (omega (arith, some))
value_later shape S t e k p (suc left) some is = let m : suc left - 1 ≡ left = omega arith in rw (is, m) refl

-- found for this place
pub value_found : (shape : Counts) (S : State) (t u : Taker) (e : Expr) (k : Option Condition)
    (p left : ℕ) (x : Trouble) (r : Option Trouble) → 0 < left → u ≡ taker_at t p →
    r ≡ or_else (expr_trouble (context_of shape S u) e) (where_trouble (context_of shape S u) k) → r ≡ Some x →
    Some x ≡ values_trouble shape S t e k p left
value_found shape S t u e k p left x r some at found is =
    sym (value_here shape S t e k p left x some
    (subst (λ (v : Taker). or_else (expr_trouble (context_of shape S v) e) (where_trouble (context_of shape S v) k)
    ≡ Some x) at (sym found ∙ is)))
