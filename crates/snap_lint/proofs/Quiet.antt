-- Indices, terms, conditions, tuples and bits trap for no cause that the lint warns of (`IsQuiet`).
use Rattle.std.specs.Prelude.{◌≡◌, ℕ, Bool, true, false, List, [], ◌∷◌, Option, Some, None, Result}
use Rattle.std.specs.Prelude.{Ok, Err, if◌then◌else◌}
use Rattle.snap_semantics.specs.declared.instr.Comparison.{Comparison}
use Rattle.snap_semantics.specs.declared.instr.Condition.{Condition}
use Rattle.snap_semantics.specs.declared.instr.Condition.TheVariants.{One}
use Rattle.snap_semantics.specs.declared.instr.Expr.{Expr}
use Rattle.snap_semantics.specs.declared.instr.Expr.TheVariants as expr
use Rattle.snap_semantics.specs.declared.instr.Term.{Term}
use Rattle.snap_semantics.specs.declared.instr.Term.TheVariants as term
use Rattle.snap_semantics.specs.declared.instr.Tuple.{Tuple}
use Rattle.snap_semantics.specs.declared.instr.Tuple.TheVariants as tuple
use Rattle.snap_semantics.specs.declared.process.Cause.{Cause}
use Rattle.snap_semantics.specs.Answers.{◌>>=◌}
use Rattle.snap_semantics.specs.Source.{Name}
use Rattle.snap_semantics.specs.Table.{each_value, tuple_word}
use Rattle.snap_semantics.specs.Value.{Context, term_value, expr_value}
use Rattle.snap_semantics.specs.Value.{comparison_holds, condition_holds, each_of}
use Rattle.snap_lint.specs.Sound.{concern_of}

-- a trap of another cause, or none
pub IsQuiet : {A : Type 0} → Result A Cause → Type 0
IsQuiet (Ok x) = Unit {0}
IsQuiet (Err e) = concern_of e ≡ None

quiet_then : {A B : Type 0} (x : Result A Cause) (f : A → Result B Cause) → IsQuiet x →
    ((v : A) → IsQuiet (f v)) → IsQuiet (x >>= f)
unfolding IsQuiet
quiet_then (Ok v) f q h = h v
quiet_then (Err e) f q h = q

pub quiet_fault : (A : Type 0) (e : Cause) → IsQuiet {A = A} (Err e) → concern_of e ≡ None
unfolding IsQuiet
quiet_fault A e q = q

quiet_ok : {A : Type 0} (x : A) → IsQuiet {A = A} (Ok x)
unfolding IsQuiet
quiet_ok x = tt

pub tested : {A : Type 0} (b : Bool) (x : A) (e : Cause) → concern_of e ≡ None → IsQuiet (if b then Ok x else Err e)
unfolding IsQuiet
tested true x e h = tt
tested false x e h = h

ruleset steps = (quiet_then, quiet_ok, tested)

term_quiet : (c : Context) (t : Term) → IsQuiet (term_value c t)
term_quiet c (term.Row x i) = search steps
term_quiet c _ = search steps

pub expr_quiet : (c : Context) (e : Expr) → IsQuiet (expr_value c e)
expr_quiet c (expr.Term t) = term_quiet c t
expr_quiet c _ = search (steps, term_quiet)

comparison_quiet : (c : Context) (k : Comparison) → IsQuiet (comparison_holds c k)
comparison_quiet c k = search (steps, term_quiet)

pub condition_quiet : (c : Context) (k : Condition) → IsQuiet (condition_holds c k)
condition_quiet c (One k) = comparison_quiet c k
condition_quiet c _ = search (steps, comparison_quiet)

pub each_quiet : {A : Type 0} (f : ℕ → Result A Cause) (ps : List ℕ) →
    ((p : ℕ) → IsQuiet (f p)) → IsQuiet (each_of f ps)
each_quiet f [] h = quiet_ok _
each_quiet f (p ∷ ps) h = let later = each_quiet f ps h in search steps

pub each_value_quiet : (c : Context) (x : Name) (e : Expr) (k : Option Condition) → IsQuiet (each_value c x e k)
each_value_quiet c x e None = expr_quiet c e
each_value_quiet c x e (Some k) = search (steps, expr_quiet, condition_quiet)

pub tuple_quiet : (c : Context) (t : Tuple) → IsQuiet (tuple_word c t)
tuple_quiet c (tuple.Seq d q s) = search (steps, expr_quiet)
tuple_quiet c _ = search (steps, expr_quiet)

-- the operands of a line
pub ruleset quiet = (tested, expr_quiet, condition_quiet, each_quiet, each_value_quiet, tuple_quiet)
