-- The tokens of a spelled term, condition, tuple or target can stand in a text.
use Rattle.std.proofs.Common.{◌++◌, List, ◌∷◌, Bool, refl, arith, true, Option, Some, None, false, ℕ, ◌<◌, ◌^◌, []}
use Rattle.snap_words.specs.declared.kind.Field.{Field}
use Rattle.snap_words.specs.declared.kind.Field.TheVariants as field
use Rattle.snap_semantics.specs.declared.text.Symbol.TheVariants as symbol
use Rattle.snap_semantics.specs.declared.instr.Index.{Index}
use Rattle.snap_semantics.specs.declared.instr.Index.TheVariants as index
use Rattle.snap_semantics.specs.declared.instr.Term.{Term}
use Rattle.snap_semantics.specs.declared.instr.Term.TheVariants as term
use Rattle.snap_semantics.specs.declared.instr.Expr.{Expr}
use Rattle.snap_semantics.specs.declared.instr.Expr.TheVariants as expr
use Rattle.snap_semantics.specs.declared.instr.Relation.{Relation}
use Rattle.snap_semantics.specs.declared.instr.Relation.TheVariants as relation
use Rattle.snap_semantics.specs.declared.instr.Comparison.{Comparison}
use Rattle.snap_semantics.specs.declared.instr.Join.{Join}
use Rattle.snap_semantics.specs.declared.instr.Join.TheVariants.{And, Or}
use Rattle.snap_semantics.specs.declared.instr.Condition.TheVariants.{Two, Three, One, Four}
use Rattle.snap_semantics.specs.declared.instr.Condition.{Condition}
use Rattle.snap_semantics.specs.declared.instr.Range.{Range}
use Rattle.snap_semantics.specs.declared.instr.Range.TheVariants as range
use Rattle.snap_semantics.specs.declared.instr.BitBank.{BitBank}
use Rattle.snap_semantics.specs.declared.instr.BitBank.TheVariants as bits
use Rattle.snap_semantics.specs.declared.instr.Tuple.{Tuple}
use Rattle.snap_semantics.specs.declared.instr.Tuple.TheVariants as tuple
use Rattle.snap_semantics.specs.Token.{Token, Sign, IsIdentifier, Identifier}
use Rattle.snap_semantics.specs.Spelling.{in_brackets, in_parentheses, spelled_index, spelled_place, field_keyword}
use Rattle.snap_semantics.specs.Spelling.{spelled_term, spelled_expr, spelled_relation, spelled_comparison}
use Rattle.snap_semantics.specs.Spelling.{spelled_condition, spelled_where, spelled_range, bank_keyword, spelled_tuple}
use Rattle.snap_semantics.specs.Spelling.{spelled_pair, spelled_target}
use Rattle.snap_semantics.specs.IsListing.{HasIndex, IsName, HasTerm, HasExpr, HasComparison, HasCondition, HasWhere}
use Rattle.snap_semantics.specs.IsListing.{HasTuple}
use Rattle.snap_semantics.specs.Uses.{index_uses, term_uses, expr_uses, comparison_uses, condition_uses, where_uses}
use Rattle.snap_semantics.specs.Uses.{tuple_uses, row, view}
use Rattle.snap_semantics.specs.Source.{Name}
use Rattle.snap_semantics.specs.ListingForms.{join_keyword}
use Rattle.snap_listing.proofs.Alls.{all_both}
use Rattle.snap_listing.proofs.HasTerms.{Sounds}
use Rattle.snap_listing.proofs.AgainTerms.{Names, names_first, names_rest}
use Rattle.snap_text.specs.Tokens.{IsSound}

abbrev comma : Token
comma = Sign symbol.Comma

abbrev pub equal : Token
equal = Sign symbol.Equal

-- tokens with one between them, and in brackets
pub between_sound : (xs : List Token) (t : Token) (ys : List Token) → Sounds xs → IsSound t →
    Sounds ys → Sounds (xs ++ t ∷ ys)
between_sound xs t ys a b c = all_both IsSound xs (t ∷ ys) a (b, c)

brackets_sound : (ts : List Token) → Sounds ts → Sounds (in_brackets ts)
brackets_sound ts h = (tt, all_both IsSound ts (Sign symbol.CloseBracket ∷ []) h (tt, tt))

pub parentheses_sound : (ts : List Token) → Sounds ts → Sounds (in_parentheses ts)
parentheses_sound ts h = (tt, all_both IsSound ts (Sign symbol.CloseParenthesis ∷ []) h (tt, tt))

index_sound : (q : Bool) (i : Index) → HasIndex q i → Names (index_uses i) → Sounds (spelled_index i)
index_sound q (index.Number k) h names = (h, tt)
index_sound q index.Place h names = (tt, tt)
index_sound q (index.Scalar x) h names = (names.0.0, tt)
index_sound q _ h names = ((omega arith, refl), tt)

pub bracket_sound : (q : Bool) (i : Index) → HasIndex q i → Names (index_uses i) →
    Sounds (in_brackets (spelled_index i))
bracket_sound q i h names = brackets_sound (spelled_index i) (index_sound q i h names)

pub place_sound : (q : Bool) (x : Name) (i : Index) → IsName x → HasIndex q i →
    Names (index_uses i) → Sounds (spelled_place x i)
place_sound q x i name h names = (name.0, bracket_sound q i h names)

field_sound : (f : Field) → IsIdentifier (field_keyword f)
field_sound field.Datum = (omega arith, refl)
field_sound _ = (omega arith, refl)

term_sound : (q : Bool) (t : Term) → HasTerm q t → Names (term_uses t) → Sounds (spelled_term t)
term_sound q (term.Index i) h names = index_sound q i h names
term_sound q term.Arg h names = ((omega arith, refl), tt)
term_sound q (term.Row x i) h names = place_sound q x i names.0 h names.1
term_sound q (term.Field f x i) h names =
    (field_sound f, parentheses_sound (spelled_place x i) (place_sound q x i names.1.0 h names.1.1))
term_sound q (term.Handshake x i j) h names =
    let ui = index_uses i in let uj = index_uses j in
    let place = place_sound q x i names.1.0 h.0 (names_first ui uj names.1.1) in
    let last = index_sound q j h.1 (names_rest ui uj names.1.1) in
    let both = between_sound (spelled_place x i) comma (spelled_index j) place tt last in
    ((omega arith, refl), parentheses_sound (spelled_place x i ++ comma ∷ spelled_index j) both)

pub expr_sound : (q : Bool) (e : Expr) → HasExpr q e → Names (expr_uses e) → Sounds (spelled_expr e)
expr_sound q (expr.Term t) h names = term_sound q t h names
expr_sound q (expr.Sum t u) h names =
    let ut = term_uses t in let uu = term_uses u in
    between_sound (spelled_term t) (Sign symbol.Plus) (spelled_term u)
    (term_sound q t h.0 (names_first ut uu names)) tt (term_sound q u h.1 (names_rest ut uu names))
expr_sound q (expr.Not t) h names = ((omega arith, refl), term_sound q t h names)

relation_sound : (r : Relation) → IsSound (spelled_relation r)
relation_sound relation.Equal = tt
relation_sound _ = tt

comparison_sound : (q : Bool) (k : Comparison) → HasComparison q k →
    Names (comparison_uses k) → Sounds (spelled_comparison k)
comparison_sound q k h names =
    let ul = term_uses k.left in let ur = term_uses k.right in
    between_sound (spelled_term k.left) (spelled_relation k.relation) (spelled_term k.right)
    (term_sound q k.left h.0 (names_first ul ur names))
    (relation_sound k.relation) (term_sound q k.right h.1 (names_rest ul ur names))

join_sound : (j : Join) → IsIdentifier (join_keyword j)
join_sound And = (omega arith, refl)
join_sound Or = (omega arith, refl)

two_sound : (q : Bool) (j : Join) (k l : Comparison) → HasComparison q k → HasComparison q l →
    Names (condition_uses (Two j k l)) → Sounds (spelled_condition (Two j k l))
two_sound q j k l a b names =
    let uk = comparison_uses k in let ul = comparison_uses l in
    between_sound (spelled_comparison k) (Identifier (join_keyword j)) (spelled_comparison l)
    (comparison_sound q k a (names_first uk ul names)) (join_sound j)
    (comparison_sound q l b (names_rest uk ul names))

three_sound : (q : Bool) (j : Join) (k l m : Comparison) → HasComparison q k → HasComparison q l → HasComparison q m →
    Names (condition_uses (Three j k l m)) → Sounds (spelled_condition (Three j k l m))
three_sound q j k l m a b c names =
    let uk = comparison_uses k in let us = condition_uses (Two j l m) in
    between_sound (spelled_comparison k) (Identifier (join_keyword j)) (spelled_condition (Two j l m))
    (comparison_sound q k a (names_first uk us names)) (join_sound j)
    (two_sound q j l m b c (names_rest uk us names))

condition_sound : (q : Bool) (k : Condition) → HasCondition q k →
    Names (condition_uses k) → Sounds (spelled_condition k)
condition_sound q (One k) h names = comparison_sound q k h names
condition_sound q (Two j k l) h names = two_sound q j k l h.0 h.1 names
condition_sound q (Three j k l m) h names = three_sound q j k l m h.0 h.1 h.2 names
condition_sound q (Four j k l m o) h names =
    let uk = comparison_uses k in let us = condition_uses (Three j l m o) in
    between_sound (spelled_comparison k) (Identifier (join_keyword j)) (spelled_condition (Three j l m o))
    (comparison_sound q k h.0 (names_first uk us names)) (join_sound j)
    (three_sound q j l m o h.1 h.2 h.3 (names_rest uk us names))

pub where_sound : (k : Option Condition) → HasWhere k → Names (where_uses k) → Sounds (spelled_where k)
where_sound None h names = tt
where_sound (Some k) h names = ((omega arith, refl), condition_sound true k h names)

pub range_sound : (g : Range) → IsSound (spelled_range g)
range_sound range.Processes = (omega arith, refl)
range_sound range.Words = (omega arith, refl)

pub bank_sound : (b : BitBank) → IsIdentifier (bank_keyword b)
bank_sound bits.Q = (omega arith, refl)
bank_sound bits.P = (omega arith, refl)

pub tuple_sound : (t : Tuple) → HasTuple t → Names (tuple_uses t) → Sounds (spelled_tuple t)
tuple_sound (tuple.Seq d q s) h names =
    let ud = expr_uses d in
    let uq = expr_uses q in
    let us = view s ∷ [] in
    let rest = names_rest ud (uq ++ us) names.1 in
    let last =
    between_sound (spelled_expr q) comma (Identifier s ∷ []) (expr_sound false q h.1 (names_first uq us rest)) tt
    ((names_rest uq us rest).0.0, tt) in
    parentheses_sound (spelled_expr d ++ comma ∷ (spelled_expr q ++ comma ∷ Identifier s ∷ []))
    (between_sound (spelled_expr d) comma (spelled_expr q ++ comma ∷ Identifier s ∷ [])
    (expr_sound false d h.0 (names_first ud (uq ++ us) names.1)) tt last)
tuple_sound (tuple.Bits d x t s) h names =
    let ud = expr_uses d in
    let ut = expr_uses t in
    let us = view s ∷ [] in
    let rest = names_rest ud (row x ∷ (ut ++ us)) names.1 in
    let last =
    between_sound (spelled_expr t) comma (Identifier s ∷ []) (expr_sound false t h.1 (names_first ut us rest.1)) tt
    ((names_rest ut us rest.1).0.0, tt) in
    parentheses_sound (spelled_expr d ++ comma ∷ Identifier x ∷ comma ∷ (spelled_expr t ++ comma ∷ Identifier s ∷ []))
    (between_sound (spelled_expr d) comma (Identifier x ∷ comma ∷ (spelled_expr t ++ comma ∷ Identifier s ∷ []))
    (expr_sound false d h.0 (names_first ud (row x ∷ (ut ++ us)) names.1)) tt (rest.0.0, (tt, last)))
tuple_sound (tuple.Multi d i t) h names =
    let ud = expr_uses d in
    let ui = expr_uses i in
    let ut = expr_uses t in
    let rest = names_rest ud (ui ++ ut) names.1 in
    let last =
    between_sound (spelled_expr i) comma (spelled_expr t) (expr_sound false i h.1 (names_first ui ut rest)) tt
    (expr_sound false t h.2 (names_rest ui ut rest)) in
    parentheses_sound (spelled_expr d ++ comma ∷ (spelled_expr i ++ comma ∷ spelled_expr t))
    (between_sound (spelled_expr d) comma (spelled_expr i ++ comma ∷ spelled_expr t)
    (expr_sound false d h.0 (names_first ud (ui ++ ut) names.1)) tt last)

pub pair_sound : (i j : Index) → HasIndex false i → HasIndex false j → Names (index_uses i) →
    Names (index_uses j) → Sounds (spelled_pair i j)
pair_sound i j h g ni nj =
    brackets_sound (spelled_index i ++ comma ∷ spelled_index j)
    (between_sound (spelled_index i) comma (spelled_index j) (index_sound false i h ni) tt (index_sound false j g nj))

-- a number of 64 bits
abbrev pub IsLong : ℕ → Type 0
IsLong k = k < 2 ^ 64

pub target_sound : (k : ℕ) → IsLong k → Sounds (spelled_target k)
target_sound k h = ((omega arith, refl), (h, tt))

pub condition_target_sound : (q : Bool) (k : Condition) (target : ℕ) → HasCondition q k → Names (condition_uses k) →
    IsLong target → Sounds (spelled_condition k ++ spelled_target target)
condition_target_sound q k target h names fits =
    all_both IsSound (spelled_condition k) (spelled_target target)
    (condition_sound q k h names) (target_sound target fits)
