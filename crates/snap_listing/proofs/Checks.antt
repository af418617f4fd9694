-- The checks of the parts of a line are those of its uses, one behind another.
use Rattle.std.proofs.Common.{◌≡◌, Ok, Err, refl, ℕ, List, ◌∷◌, ◌++◌, ap, ◌∙◌, Option, Some, None, append_assoc, []}
use Rattle.snap_words.specs.declared.kind.KindTag.TheVariants as kind
use Rattle.snap_semantics.specs.declared.instr.Index.{Index}
use Rattle.snap_semantics.specs.declared.instr.Index.TheVariants as index
use Rattle.snap_semantics.specs.declared.text.Sort.{Sort}
use Rattle.snap_semantics.specs.declared.instr.Term.{Term}
use Rattle.snap_semantics.specs.declared.instr.Term.TheVariants as term
use Rattle.snap_semantics.specs.declared.text.Sort.TheVariants as sort
use Rattle.snap_semantics.specs.declared.instr.Expr.{Expr}
use Rattle.snap_semantics.specs.declared.instr.Expr.TheVariants as expr
use Rattle.snap_semantics.specs.declared.instr.Comparison.{Comparison}
use Rattle.snap_semantics.specs.declared.instr.Condition.{Condition}
use Rattle.snap_semantics.specs.declared.instr.Condition.TheVariants.{One, Two, Three, Four}
use Rattle.snap_semantics.specs.declared.instr.Tuple.{Tuple}
use Rattle.snap_semantics.specs.declared.instr.Tuple.TheVariants as tuple
use Rattle.snap_semantics.specs.Answers.{◌>>=◌}
use Rattle.snap_semantics.specs.Source.{Source, Name}
use Rattle.snap_semantics.specs.Uses.{Use, checked_use, checked_uses, scalar, index_uses, Named, FieldUse, HandshakeUse}
use Rattle.snap_semantics.specs.Uses.{words, term_uses, expr_uses, comparison_uses, condition_uses, where_uses}
use Rattle.snap_semantics.specs.Uses.{TupleUse, row, view, tuple_uses}
use Rattle.snap_listing.specs.Checks.{Checked, checked_index, checked_indexes, checked_place, checked_term}
use Rattle.snap_listing.specs.Checks.{checked_expr, checked_comparison, checked_condition, checked_where, checked_tuple}

then_nothing : (r : Checked) → r ≡ (r >>= λ (done : Unit {0}). let alone : Checked = Ok tt in alone)
then_nothing (Ok x) = refl
then_nothing (Err e) = refl

regrouped : (r k l : Checked) → ((r >>= λ (done : Unit {0}). k) >>= λ (done : Unit {0}). l)
    ≡ (r >>= λ (done : Unit {0}). k >>= λ (done : Unit {0}). l)
regrouped (Ok x) k l = refl
regrouped (Err e) k l = refl

-- one part, and then the other
pub both : (s : Source) (line : ℕ) (us vs : List Use) (r k : Checked) → r ≡ checked_uses s line us →
    k ≡ checked_uses s line vs → (r >>= λ (done : Unit {0}). k) ≡ checked_uses s line (us ++ vs)
both s line [] vs r k p q = ap (λ (x : Checked). x >>= λ (done : Unit {0}). k) p ∙ q
both s line (u ∷ us) vs r k p q =
    let first = checked_use s line u in
    ap (λ (x : Checked). x >>= λ (done : Unit {0}). k) p
    ∙ regrouped first (checked_uses s line us) k
    ∙ ap (λ (x : Checked). first >>= λ (done : Unit {0}). x) (both s line us vs (checked_uses s line us) k refl q)

-- one, and then the rest
pub first_then : (s : Source) (line : ℕ) (u : Use) (us : List Use) (k : Checked) → k ≡ checked_uses s line us →
    (checked_use s line u >>= λ (done : Unit {0}). k) ≡ checked_uses s line (u ∷ us)
first_then s line u us k q = ap (λ (x : Checked). checked_use s line u >>= λ (done : Unit {0}). x) q

pub alone : (s : Source) (line : ℕ) (u : Use) → checked_use s line u ≡ checked_uses s line (u ∷ [])
alone s line u = then_nothing (checked_use s line u)

pub index_checks : (s : Source) (line : ℕ) (i : Index) → checked_index s line i ≡ checked_uses s line (index_uses i)
index_checks s line (index.Scalar x) = alone s line (scalar x)
index_checks s line _ = refl

pub indexes_checks : (s : Source) (line : ℕ) (i j : Index) →
    checked_indexes s line i j ≡ checked_uses s line (index_uses i ++ index_uses j)
indexes_checks s line i j =
    both s line (index_uses i) (index_uses j) _ _ (index_checks s line i) (index_checks s line j)

pub place_checks : (s : Source) (line : ℕ) (wanted : Sort) (x : Name) (i : Index) →
    checked_place s line wanted x i ≡ checked_uses s line (Named wanted x ∷ index_uses i)
place_checks s line wanted x i =
    first_then s line (Named wanted x) (index_uses i) (checked_index s line i) (index_checks s line i)

term_checks : (s : Source) (line : ℕ) (t : Term) → checked_term s line t ≡ checked_uses s line (term_uses t)
term_checks s line (term.Index i) = index_checks s line i
term_checks s line term.Arg = refl
term_checks s line (term.Row x i) = place_checks s line sort.Row x i
term_checks s line (term.Field f x i) =
    first_then s line (FieldUse f) (words x ∷ index_uses i) _ (place_checks s line sort.Words x i)
term_checks s line (term.Handshake x i j) =
    first_then s line HandshakeUse (words x ∷ (index_uses i ++ index_uses j)) _
    (first_then s line (words x) (index_uses i ++ index_uses j) _ (indexes_checks s line i j))

pub expr_checks : (s : Source) (line : ℕ) (e : Expr) → checked_expr s line e ≡ checked_uses s line (expr_uses e)
expr_checks s line (expr.Term t) = term_checks s line t
expr_checks s line (expr.Sum t u) =
    both s line (term_uses t) (term_uses u) _ _ (term_checks s line t) (term_checks s line u)
expr_checks s line (expr.Not t) = term_checks s line t

comparison_checks : (s : Source) (line : ℕ) (k : Comparison) →
    checked_comparison s line k ≡ checked_uses s line (comparison_uses k)
comparison_checks s line k =
    both s line (term_uses k.left) (term_uses k.right) _ _ (term_checks s line k.left) (term_checks s line k.right)

pub condition_checks : (s : Source) (line : ℕ) (k : Condition) →
    checked_condition s line k ≡ checked_uses s line (condition_uses k)
condition_checks s line (One k) = comparison_checks s line k
condition_checks s line (Two j k l) =
    both s line (comparison_uses k) (comparison_uses l) _ _ (comparison_checks s line k) (comparison_checks s line l)
condition_checks s line (Three j k l m) =
    both s line (comparison_uses k) (comparison_uses l ++ comparison_uses m) _ _ (comparison_checks s line k)
    (both s line (comparison_uses l) (comparison_uses m) _ _ (comparison_checks s line l) (comparison_checks s line m))
condition_checks s line (Four j k l m o) =
    both s line (comparison_uses k) (comparison_uses l ++ (comparison_uses m ++ comparison_uses o)) _ _
    (comparison_checks s line k)
    (both s line (comparison_uses l) (comparison_uses m ++ comparison_uses o) _ _ (comparison_checks s line l)
    (both s line (comparison_uses m) (comparison_uses o) _ _ (comparison_checks s line m) (comparison_checks s line o)))

pub where_checks : (s : Source) (line : ℕ) (k : Option Condition) →
    checked_where s line k ≡ checked_uses s line (where_uses k)
where_checks s line None = refl
where_checks s line (Some k) = condition_checks s line k

pub tuple_checks : (s : Source) (line : ℕ) (t : Tuple) → checked_tuple s line t ≡ checked_uses s line (tuple_uses t)
tuple_checks s line (tuple.Seq d q x) =
    first_then s line (TupleUse kind.Seq) (expr_uses d ++ (expr_uses q ++ view x ∷ [])) _
    (both s line (expr_uses d) (expr_uses q ++ view x ∷ []) _ _ (expr_checks s line d)
    (both s line (expr_uses q) (view x ∷ []) _ _ (expr_checks s line q) (alone s line (view x))))
tuple_checks s line (tuple.Bits d h t x) =
    first_then s line (TupleUse kind.Bits) (expr_uses d ++ row h ∷ (expr_uses t ++ view x ∷ [])) _
    (both s line (expr_uses d) (row h ∷ (expr_uses t ++ view x ∷ [])) _ _ (expr_checks s line d)
    (first_then s line (row h) (expr_uses t ++ view x ∷ []) _
    (both s line (expr_uses t) (view x ∷ []) _ _ (expr_checks s line t) (alone s line (view x)))))
tuple_checks s line (tuple.Multi d i t) =
    first_then s line (TupleUse kind.Multi) (expr_uses d ++ (expr_uses i ++ expr_uses t)) _
    (both s line (expr_uses d) (expr_uses i ++ expr_uses t) _ _ (expr_checks s line d)
    (both s line (expr_uses i) (expr_uses t) _ _ (expr_checks s line i) (expr_checks s line t)))

pub put_bit_checks : (s : Source) (line : ℕ) (i j : Index) (e : Expr) →
    (checked_indexes s line i j >>= λ (done : Unit {0}). checked_expr s line e)
    ≡ checked_uses s line (index_uses i ++ (index_uses j ++ expr_uses e))
put_bit_checks s line i j e =
    both s line (index_uses i ++ index_uses j) (expr_uses e) _ _ (indexes_checks s line i j) (expr_checks s line e)
    ∙ ap (λ (us : List Use). checked_uses s line us) (append_assoc (index_uses i) (index_uses j) (expr_uses e))
