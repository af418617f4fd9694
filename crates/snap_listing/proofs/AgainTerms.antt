-- Rules read again what is spelled: names, indexes, terms, expressions and conditions, in front of what stands behind
-- them.
use Rattle.std.proofs.Common.{◌≡◌, ℕ, ◌≤◌, ◌++◌, length, take_all, sym, ◌∙◌, ap, append_assoc, arith, Bool, true}
use Rattle.std.proofs.Common.{false, List, [], ◌∷◌, Option, Some, None, nat_lt, bytes_eq, codes, if◌then◌else◌, refl}
use Rattle.std.proofs.lemmas.Bool.{ltb-false, or_parts}
use Rattle.std.specs.Cmp.Lexicographic.{same_text}
use Rattle.std.specs.List.{AllByRecursion}
use Rattle.snap_words.specs.declared.kind.Field.{Field}
use Rattle.snap_words.specs.declared.kind.Field.TheVariants as field
use Rattle.snap_semantics.specs.declared.instr.Comparison.{Comparison}
use Rattle.snap_semantics.specs.declared.instr.Condition.{Condition}
use Rattle.snap_semantics.specs.declared.instr.Condition.TheVariants.{One, Two, Three, Four}
use Rattle.snap_semantics.specs.declared.instr.Expr.{Expr}
use Rattle.snap_semantics.specs.declared.instr.Expr.TheVariants as expr
use Rattle.snap_semantics.specs.declared.instr.Index.{Index}
use Rattle.snap_semantics.specs.declared.instr.Index.TheVariants as index
use Rattle.snap_semantics.specs.declared.instr.Join.{Join}
use Rattle.snap_semantics.specs.declared.instr.Join.TheVariants.{And, Or}
use Rattle.snap_semantics.specs.declared.instr.Relation.{Relation}
use Rattle.snap_semantics.specs.declared.instr.Relation.TheVariants as relation
use Rattle.snap_semantics.specs.declared.instr.Term.{Term}
use Rattle.snap_semantics.specs.declared.instr.Term.TheVariants as term
use Rattle.snap_semantics.specs.declared.text.Symbol.TheVariants as symbol
use Rattle.snap_semantics.specs.Rules.{◌>>=◌, or_else, keyword_at, symbol_at}
use Rattle.snap_semantics.specs.IsListing.{IsName, HasIndex, HasTerm, HasExpr, HasComparison, HasCondition}
use Rattle.snap_semantics.specs.ListingForms.{is_reserved, name_of_identifier, name_at, index_of_identifier}
use Rattle.snap_semantics.specs.ListingForms.{number_index, place_index, identifier_index, index_at, place_at}
use Rattle.snap_semantics.specs.ListingForms.{named_place_at, arg_term, row_term, field_of_keyword, field_term}
use Rattle.snap_semantics.specs.ListingForms.{handshake_term, index_term, term_at, not_expr, plus_expr, term_expr}
use Rattle.snap_semantics.specs.ListingForms.{expr_at, relation_at, comparison_at, join_keyword, joined_at, third_on}
use Rattle.snap_semantics.specs.ListingForms.{second_on, first_on, condition_at}
use Rattle.snap_semantics.specs.Source.{Name}
use Rattle.snap_semantics.specs.Spelling.{in_brackets, spelled_index, spelled_place, field_keyword, spelled_term}
use Rattle.snap_semantics.specs.Spelling.{spelled_expr, spelled_relation, spelled_comparison, spelled_condition}
use Rattle.snap_semantics.specs.Token.{Token, Identifier, Sign}
use Rattle.snap_semantics.specs.Uses.{Use, Named, index_uses, term_uses, expr_uses, comparison_uses, condition_uses}
use Rattle.snap_listing.proofs.Alls.{all_first, all_rest}

-- what a use names is a name
abbrev pub IsNamed : Use → Type 0
IsNamed (Named wanted x) = IsName x
IsNamed _ = Unit {0}

abbrev pub Names : List Use → Type 0
Names us = AllByRecursion IsNamed us

pub names_first : (us vs : List Use) → Names (us ++ vs) → Names us
names_first us vs h = all_first IsNamed us vs h

pub names_rest : (us vs : List Use) → Names (us ++ vs) → Names vs
names_rest us vs h = all_rest IsNamed us vs h

-- a rule finds x, and the next rule goes on from there
pub then_is : {A B : Type 0} {o : Option A} {x : A} {r : Option B} (f : A → Option B) → o ≡ Some x → f x ≡ r →
    (o >>= f) ≡ r
then_is {A = A} f e g = ap (λ (p : Option A). p >>= f) e ∙ g

pub then_none : {A B : Type 0} {o : Option A} (f : A → Option B) → o ≡ None → (o >>= f) ≡ None
then_none {A = A} f e = ap (λ (p : Option A). p >>= f) e

pub or_first : {A : Type 0} {o : Option A} {x : A} (p : Option A) → o ≡ Some x → or_else o p ≡ Some x
or_first {A = A} p e = ap (λ (y : Option A). or_else y p) e

pub or_second : {A : Type 0} {o p r : Option A} → o ≡ None → p ≡ r → or_else o p ≡ r
or_second {A = A} {p = p} e g = ap (λ (y : Option A). or_else y p) e ∙ g

pub if_not : {A : Type 0} {b : Bool} {p r : Option A} (o : Option A) → b ≡ false → p ≡ r → (if b then o else p) ≡ r
if_not {b = true} o e g = absurd cc
if_not {b = false} o e g = g

pub if_yes : {A : Type 0} {b : Bool} {o r : Option A} (p : Option A) → b ≡ true → o ≡ r → (if b then o else p) ≡ r
if_yes {b = true} p e g = g
if_yes {b = false} p e g = absurd cc

free_name : (x : Name) → IsName x → is_reserved x ≡ false
free_name x h = (or_parts (nat_lt 8 (length x)) (is_reserved x) h.1).1

pub short_name : (x : Name) → IsName x → length x ≤ 8
short_name x h = ltb-false 8 (length x) (or_parts (nat_lt 8 (length x)) (is_reserved x) h.1).0

not_by : (x w : List ℕ) (b : Bool) → bytes_eq x w ≡ b → is_reserved x ≡ false → is_reserved w ≡ true → b ≡ false
not_by x w true e h g = let same = ap is_reserved (same_text x w (sym e)) in absurd cc
not_by x w false e h g = refl

-- a name is no reserved word
pub no_word : (x : Name) (w : List ℕ) → IsName x → is_reserved w ≡ true → bytes_eq x w ≡ false
no_word x w h g = not_by x w (bytes_eq x w) refl (free_name x h) g

pub no_keyword : (x : Name) (w : List ℕ) (rest : List Token) → IsName x → is_reserved w ≡ true →
    keyword_at w (Identifier x ∷ rest) ≡ None
no_keyword x w rest h g = if_not _ (no_word x w h g) refl

pub name_again : (x : Name) → IsName x → name_of_identifier x ≡ Some x
name_again x h =
    let n = short_name x h in let m : length x ≤ 9 = omega (arith, n) in
    if_not _ (free_name x h)
    (ap (λ (y : List ℕ). let o : Option Name = Some y in o) (take_all 9 x m))

pub name_read : (x : Name) (rest : List Token) → IsName x → name_at (Identifier x ∷ rest) ≡ Some (x, rest)
unfolding name_at
name_read x rest h = then_is _ (name_again x h) refl

index_of_name : (x : Name) → IsName x → index_of_identifier x ≡ Some (index.Scalar x)
index_of_name x h =
    if_not _ (no_word x (codes "n") h refl)
    (if_not _ (no_word x (codes "w") h refl)
    (if_not _ (no_word x (codes "me") h refl)
    (if_not _ (no_word x (codes "word") h refl)
    (then_is _ (name_again x h) refl))))

place_read : (q : Bool) (rest : List Token) → q ≡ true → index_at q (Sign symbol.At ∷ rest) ≡ Some (index.Place, rest)
unfolding index_at number_index place_index identifier_index
place_read true rest h = refl
place_read false rest h = absurd cc

scalar_read : (q : Bool) (x : Name) (rest : List Token) → IsName x →
    index_at q (Identifier x ∷ rest) ≡ Some (index.Scalar x, rest)
unfolding index_at number_index place_index identifier_index
scalar_read q x rest h = then_is _ (index_of_name x h) refl

pub index_again : (q : Bool) (i : Index) (rest : List Token) → HasIndex q i → Names (index_uses i) →
    index_at q (spelled_index i ++ rest) ≡ Some (i, rest)
unfolding index_at number_index place_index identifier_index
index_again q index.Place rest h names = place_read q _ h
index_again q (index.Scalar x) rest h names = scalar_read q x _ names.0
index_again q _ rest h names = refl

pub bracket_again : (q : Bool) (i : Index) (rest : List Token) → HasIndex q i → Names (index_uses i) →
    place_at q (in_brackets (spelled_index i) ++ rest) ≡ Some (i, rest)
unfolding place_at
bracket_again q i rest h names =
    let close : List Token = Sign symbol.CloseBracket ∷ [] in
    then_is _ (ap (λ (ts : List Token). index_at q ts) (append_assoc (spelled_index i) close rest)
    ∙ index_again q i (Sign symbol.CloseBracket ∷ rest) h names) refl

pub place_again : (q : Bool) (x : Name) (i : Index) (rest : List Token) → HasIndex q i → IsName x →
    Names (index_uses i) → named_place_at q (spelled_place x i ++ rest) ≡ Some ((x, i), rest)
unfolding named_place_at
place_again q x i rest h name names =
    then_is _ (name_read x _ name)
    (then_is _ (bracket_again q i rest h names) refl)

-- what stands behind a term is no bracket
abbrev pub NoBracket : List Token → Type 0
NoBracket rest = symbol_at symbol.OpenBracket rest ≡ None

no_place : (q : Bool) (rest : List Token) → NoBracket rest → place_at q rest ≡ None
unfolding place_at
no_place q rest e = then_none _ e

no_named_place : (q : Bool) (x : Name) (rest : List Token) → IsName x → NoBracket rest →
    named_place_at q (Identifier x ∷ rest) ≡ None
unfolding named_place_at
no_named_place q x rest h e =
    then_is _ (name_read x _ h)
    (then_none _ (no_place q rest e))

no_arg : (x : Name) (rest : List Token) → IsName x → arg_term (Identifier x ∷ rest) ≡ None
unfolding arg_term
no_arg x rest h = then_none _ (no_keyword x (codes "arg") _ h refl)

no_row : (q : Bool) (x : Name) (rest : List Token) → IsName x → NoBracket rest → row_term q (Identifier x ∷ rest) ≡ None
unfolding row_term
no_row q x rest h e = then_none _ (no_named_place q x _ h e)

no_field_word : (x : Name) → IsName x → field_of_keyword x ≡ None
no_field_word x h =
    if_not _ (no_word x (codes "seq") h refl)
    (if_not _ (no_word x (codes "data") h refl)
    (if_not _ (no_word x (codes "toggle") h refl)
    (if_not _ (no_word x (codes "id") h refl) refl)))

no_field : (q : Bool) (x : Name) (rest : List Token) → IsName x → field_term q (Identifier x ∷ rest) ≡ None
unfolding field_term
no_field q x rest h = then_none _ (no_field_word x h)

no_handshake : (q : Bool) (x : Name) (rest : List Token) → IsName x → handshake_term q (Identifier x ∷ rest) ≡ None
unfolding handshake_term
no_handshake q x rest h = then_none _ (no_keyword x (codes "hand") _ h refl)

scalar_term : (q : Bool) (x : Name) (rest : List Token) → IsName x → NoBracket rest →
    term_at q (Identifier x ∷ rest) ≡ Some (term.Index (index.Scalar x), rest)
unfolding term_at index_term
scalar_term q x rest h e =
    or_second (no_arg x _ h)
    (or_second (no_row q x _ h e)
    (or_second (no_field q x _ h)
    (or_second (no_handshake q x _ h)
    (then_is _ (scalar_read q x _ h) refl))))

place_term : (q : Bool) (rest : List Token) → q ≡ true →
    term_at q (Sign symbol.At ∷ rest) ≡ Some (term.Index index.Place, rest)
unfolding term_at arg_term row_term named_place_at name_at field_term handshake_term index_term
place_term q rest h = then_is _ (place_read q _ h) refl

index_term_again : (q : Bool) (i : Index) (rest : List Token) → HasIndex q i → Names (index_uses i) → NoBracket rest →
    term_at q (spelled_index i ++ rest) ≡ Some (term.Index i, rest)
unfolding term_at arg_term row_term named_place_at name_at field_term handshake_term index_term index_at
    number_index place_index identifier_index
index_term_again q index.Place rest h names e = place_term q rest h
index_term_again q (index.Scalar x) rest h names e = scalar_term q x rest names.0 e
index_term_again q _ rest h names e = refl

arg_term_again : (q : Bool) (rest : List Token) → term_at q (Identifier (codes "arg") ∷ rest) ≡ Some (term.Arg, rest)
unfolding term_at arg_term
arg_term_again q rest = refl

row_term_again : (q : Bool) (x : Name) (i : Index) (rest : List Token) → HasIndex q i → IsName x →
    Names (index_uses i) → term_at q (spelled_place x i ++ rest) ≡ Some (term.Row x i, rest)
unfolding term_at row_term
row_term_again q x i rest h name names =
    or_second (no_arg x _ name)
    (or_first _ (then_is _ (place_again q x i rest h name names) refl))

-- what stands in parentheses, and the tokens behind
pub inside : (sp rest : List Token) →
    (sp ++ Sign symbol.CloseParenthesis ∷ []) ++ rest ≡ sp ++ Sign symbol.CloseParenthesis ∷ rest
inside sp rest = append_assoc sp (Sign symbol.CloseParenthesis ∷ []) rest

place_inside : (q : Bool) (x : Name) (i : Index) (rest : List Token) → HasIndex q i → IsName x → Names (index_uses i) →
    named_place_at q ((spelled_place x i ++ Sign symbol.CloseParenthesis ∷ []) ++ rest)
    ≡ Some ((x, i), Sign symbol.CloseParenthesis ∷ rest)
place_inside q x i rest h name names =
    ap (λ (ts : List Token). named_place_at q ts) (inside (spelled_place x i) rest)
    ∙ place_again q x i (Sign symbol.CloseParenthesis ∷ rest) h name names

-- a field's keyword begins no place
field_no_row : (q : Bool) (f : Field) (rest : List Token) → row_term q (Identifier (field_keyword f) ∷ rest) ≡ None
unfolding row_term named_place_at name_at
field_no_row q field.Datum rest = refl
field_no_row q _ rest = refl

field_no_arg : (f : Field) (rest : List Token) → arg_term (Identifier (field_keyword f) ∷ rest) ≡ None
unfolding arg_term
field_no_arg field.Datum rest = refl
field_no_arg _ rest = refl

field_word_again : (f : Field) → field_of_keyword (field_keyword f) ≡ Some f
field_word_again field.Datum = refl
field_word_again _ = refl

field_read : (q : Bool) (f : Field) (x : Name) (i : Index) (rest : List Token) → HasIndex q i → IsName x →
    Names (index_uses i) → field_term q (spelled_term (term.Field f x i) ++ rest) ≡ Some (term.Field f x i, rest)
unfolding field_term
field_read q f x i rest h name names =
    then_is _ (field_word_again f)
    (then_is _ (place_inside q x i rest h name names) refl)

field_again : (q : Bool) (f : Field) (x : Name) (i : Index) (rest : List Token) → HasIndex q i → IsName x →
    Names (index_uses i) → term_at q (spelled_term (term.Field f x i) ++ rest) ≡ Some (term.Field f x i, rest)
unfolding term_at
field_again q f x i rest h name names =
    or_second (field_no_arg f _)
    (or_second (field_no_row q f _)
    (or_first _ (field_read q f x i rest h name names)))

-- two parts with a comma between them and a bracket behind, grouped as they are read
pub pair_tokens : (a b : List Token) (close : Token) (rest : List Token) →
    ((a ++ Sign symbol.Comma ∷ b) ++ close ∷ []) ++ rest ≡ a ++ Sign symbol.Comma ∷ (b ++ close ∷ rest)
pair_tokens a b close rest =
    append_assoc (a ++ Sign symbol.Comma ∷ b) (close ∷ []) rest ∙ append_assoc a (Sign symbol.Comma ∷ b) (close ∷ rest)

handshake_read : (q : Bool) (x : Name) (i j : Index) (rest : List Token) → HasIndex q i →
    HasIndex q j → IsName x → Names (index_uses i) → Names (index_uses j) →
    handshake_term q (spelled_term (term.Handshake x i j) ++ rest) ≡ Some (term.Handshake x i j, rest)
unfolding handshake_term
handshake_read q x i j rest g h name ni nj =
    let close : Token = Sign symbol.CloseParenthesis in
    let place = spelled_place x i in
    let last = spelled_index j in
    let behind : List Token = Sign symbol.Comma ∷ (last ++ close ∷ rest) in
    then_is _ (ap (λ (ts : List Token). named_place_at q ts) (pair_tokens place last close rest)
    ∙ place_again q x i behind g name ni)
    (then_is _ (index_again q j (close ∷ rest) h nj) refl)

handshake_no_arg : (rest : List Token) → arg_term (Identifier (codes "hand") ∷ rest) ≡ None
unfolding arg_term
handshake_no_arg rest = refl

handshake_no_row : (q : Bool) (rest : List Token) → row_term q (Identifier (codes "hand") ∷ rest) ≡ None
unfolding row_term named_place_at name_at
handshake_no_row q rest = refl

handshake_no_field : (q : Bool) (rest : List Token) → field_term q (Identifier (codes "hand") ∷ rest) ≡ None
unfolding field_term
handshake_no_field q rest = refl

handshake_again : (q : Bool) (x : Name) (i j : Index) (rest : List Token) → HasIndex q i →
    HasIndex q j → IsName x → Names (index_uses i) → Names (index_uses j) →
    term_at q (spelled_term (term.Handshake x i j) ++ rest) ≡ Some (term.Handshake x i j, rest)
unfolding term_at
handshake_again q x i j rest g h name ni nj =
    or_second (handshake_no_arg _)
    (or_second (handshake_no_row q _)
    (or_second (handshake_no_field q _)
    (or_first _ (handshake_read q x i j rest g h name ni nj))))

pub term_again : (q : Bool) (t : Term) (rest : List Token) → HasTerm q t → Names (term_uses t) → NoBracket rest →
    term_at q (spelled_term t ++ rest) ≡ Some (t, rest)
term_again q (term.Index i) rest h names e = index_term_again q i rest h names e
term_again q term.Arg rest h names e = arg_term_again q rest
term_again q (term.Row x i) rest h names e = row_term_again q x i rest h names.0 names.1
term_again q (term.Field f x i) rest h names e = field_again q f x i rest h names.1.0 names.1.1
term_again q (term.Handshake x i j) rest h names e =
    handshake_again q x i j rest h.0 h.1 names.1.0 (names_first (index_uses i) (index_uses j) names.1.1)
    (names_rest (index_uses i) (index_uses j) names.1.1)

-- what stands behind an expression is no `+` either
abbrev pub NoPlus : List Token → Type 0
NoPlus rest = symbol_at symbol.Plus rest ≡ None

index_no_not : (i : Index) (rest : List Token) → Names (index_uses i) →
    keyword_at (codes "not") (spelled_index i ++ rest) ≡ None
index_no_not (index.Scalar x) rest names = no_keyword x (codes "not") _ names.0 refl
index_no_not _ rest names = refl

term_no_not : (q : Bool) (t : Term) (rest : List Token) → HasTerm q t → Names (term_uses t) →
    keyword_at (codes "not") (spelled_term t ++ rest) ≡ None
term_no_not q (term.Index i) rest h names = index_no_not i rest names
term_no_not q (term.Row x i) rest h names = no_keyword x (codes "not") _ names.0 refl
term_no_not q (term.Field field.Datum x i) rest h names = refl
term_no_not q _ rest h names = refl

no_not : (q : Bool) (ts : List Token) → keyword_at (codes "not") ts ≡ None → not_expr q ts ≡ None
unfolding not_expr
no_not q ts e = then_none _ e

no_plus : (q : Bool) (t : Term) (rest : List Token) → NoPlus rest → plus_expr q t rest ≡ None
unfolding plus_expr
no_plus q t rest e = then_none _ e

plus_again : (q : Bool) (t u : Term) (rest : List Token) → HasTerm q u → Names (term_uses u) → NoBracket rest →
    plus_expr q t (Sign symbol.Plus ∷ (spelled_term u ++ rest)) ≡ Some (expr.Sum t u, rest)
unfolding plus_expr
plus_again q t u rest h names e = then_is _ (term_again q u rest h names e) refl

-- a term, and the expression that it begins
term_begun : (q : Bool) (t : Term) (x : Expr) (behind rest : List Token) → HasTerm q t → Names (term_uses t) →
    NoBracket behind → or_else (plus_expr q t behind) (Some (expr.Term t, behind)) ≡ Some (x, rest) →
    expr_at q (spelled_term t ++ behind) ≡ Some (x, rest)
unfolding expr_at term_expr
term_begun q t x behind rest h names e g =
    let ts : List Token = spelled_term t ++ behind in
    or_second (no_not q ts (term_no_not q t behind h names))
    (then_is _ (term_again q t behind h names e) g)

not_again : (q : Bool) (t : Term) (rest : List Token) → HasTerm q t → Names (term_uses t) → NoBracket rest →
    not_expr q (Identifier (codes "not") ∷ (spelled_term t ++ rest)) ≡ Some (expr.Not t, rest)
unfolding not_expr
not_again q t rest h names e = then_is _ (term_again q t rest h names e) refl

not_begun : (q : Bool) (t : Term) (rest : List Token) → HasTerm q t → Names (term_uses t) → NoBracket rest →
    expr_at q (Identifier (codes "not") ∷ (spelled_term t ++ rest)) ≡ Some (expr.Not t, rest)
unfolding expr_at
not_begun q t rest h names e = or_first _ (not_again q t rest h names e)

pub expr_again : (q : Bool) (x : Expr) (rest : List Token) → HasExpr q x → Names (expr_uses x) → NoBracket rest →
    NoPlus rest → expr_at q (spelled_expr x ++ rest) ≡ Some (x, rest)
expr_again q (expr.Term t) rest h names e p =
    term_begun q t (expr.Term t) rest rest h names e (or_second (no_plus q t rest p) refl)
expr_again q (expr.Sum t u) rest h names e p =
    let us : List Token = Sign symbol.Plus ∷ (spelled_term u ++ rest) in
    ap (λ (ts : List Token). expr_at q ts) (append_assoc (spelled_term t) (Sign symbol.Plus ∷ spelled_term u) rest)
    ∙ term_begun q t (expr.Sum t u) us rest h.0 (names_first (term_uses t) (term_uses u) names) refl
    (or_first _ (plus_again q t u rest h.1 (names_rest (term_uses t) (term_uses u) names) e))
expr_again q (expr.Not t) rest h names e p = not_begun q t rest h names e

relation_again : (r : Relation) (rest : List Token) → relation_at (spelled_relation r ∷ rest) ≡ Some (r, rest)
unfolding relation_at
relation_again relation.Equal rest = refl
relation_again _ rest = refl

relation_no_bracket : (r : Relation) (rest : List Token) → NoBracket (spelled_relation r ∷ rest)
relation_no_bracket relation.Equal rest = refl
relation_no_bracket _ rest = refl

pub comparison_again : (q : Bool) (k : Comparison) (rest : List Token) → HasComparison q k →
    Names (comparison_uses k) → NoBracket rest → comparison_at q (spelled_comparison k ++ rest) ≡ Some (k, rest)
unfolding comparison_at
comparison_again q k rest h names e =
    let right : List Token = spelled_term k.right ++ rest in
    let behind : List Token = spelled_relation k.relation ∷ right in
    ap (λ (ts : List Token). comparison_at q ts)
    (append_assoc (spelled_term k.left) (spelled_relation k.relation ∷ spelled_term k.right) rest)
    ∙ then_is _ (term_again q k.left behind h.0 (names_first (term_uses k.left) (term_uses k.right) names)
    (relation_no_bracket k.relation right))
    (then_is _ (relation_again k.relation _)
    (then_is _ (term_again q k.right rest h.1 (names_rest (term_uses k.left) (term_uses k.right) names) e) refl))

-- what stands behind a condition
abbrev pub NoJoin : List Token → Type 0
NoJoin rest = NoBracket rest × (keyword_at (codes "and") rest ≡ None) × (keyword_at (codes "or") rest ≡ None)

join_keyword_again : (j : Join) (rest : List Token) →
    keyword_at (join_keyword j) (Identifier (join_keyword j) ∷ rest) ≡ Some rest
join_keyword_again And rest = refl
join_keyword_again Or rest = refl

joined_again : (q : Bool) (j : Join) (k : Comparison) (rest : List Token) →
    HasComparison q k → Names (comparison_uses k) → NoBracket rest →
    joined_at q j (Identifier (join_keyword j) ∷ (spelled_comparison k ++ rest)) ≡ Some (k, rest)
unfolding joined_at
joined_again q j k rest h names e =
    then_is _ (join_keyword_again j _)
    (comparison_again q k rest h names e)

no_join_word : (j : Join) (rest : List Token) → NoJoin rest → keyword_at (join_keyword j) rest ≡ None
no_join_word And rest h = h.1
no_join_word Or rest h = h.2

no_joined : (q : Bool) (j : Join) (rest : List Token) → NoJoin rest → joined_at q j rest ≡ None
unfolding joined_at
no_joined q j rest h = then_none _ (no_join_word j rest h)

third_more : (q : Bool) (j : Join) (k l m o : Comparison) (rest : List Token) →
    HasComparison q o → Names (comparison_uses o) → NoJoin rest →
    third_on q j k l m (Identifier (join_keyword j) ∷ (spelled_comparison o ++ rest)) ≡ Some (Four j k l m o, rest)
unfolding third_on
third_more q j k l m o rest h names e = or_first _ (then_is _ (joined_again q j o rest h names e.0) refl)

third_end : (q : Bool) (j : Join) (k l m : Comparison) (rest : List Token) → NoJoin rest →
    third_on q j k l m rest ≡ Some (Three j k l m, rest)
unfolding third_on
third_end q j k l m rest e = or_second (then_none _ (no_joined q j rest e)) refl

second_more : (q : Bool) (j : Join) (k l m : Comparison) (x : Condition) (behind rest : List Token) →
    HasComparison q m → Names (comparison_uses m) → NoBracket behind → third_on q j k l m behind ≡ Some (x, rest) →
    second_on q j k l (Identifier (join_keyword j) ∷ (spelled_comparison m ++ behind)) ≡ Some (x, rest)
unfolding second_on
second_more q j k l m x behind rest h names e g = or_first _ (then_is _ (joined_again q j m behind h names e) g)

second_end : (q : Bool) (j : Join) (k l : Comparison) (rest : List Token) → NoJoin rest →
    second_on q j k l rest ≡ Some (Two j k l, rest)
unfolding second_on
second_end q j k l rest e = or_second (then_none _ (no_joined q j rest e)) refl

or_no_and : (q : Bool) (rest : List Token) → joined_at q And (Identifier (codes "or") ∷ rest) ≡ None
unfolding joined_at
or_no_and q rest = refl

first_more : (q : Bool) (j : Join) (k l : Comparison) (x : Condition) (behind rest : List Token) →
    HasComparison q l → Names (comparison_uses l) → NoBracket behind → second_on q j k l behind ≡ Some (x, rest) →
    first_on q k (Identifier (join_keyword j) ∷ (spelled_comparison l ++ behind)) ≡ Some (x, rest)
unfolding first_on
first_more q And k l x behind rest h names e g = or_first _ (then_is _ (joined_again q And l behind h names e) g)
first_more q Or k l x behind rest h names e g =
    or_second (then_none _ (or_no_and q (spelled_comparison l ++ behind)))
    (or_first _ (then_is _ (joined_again q Or l behind h names e) g))

first_end : (q : Bool) (k : Comparison) (rest : List Token) → NoJoin rest → first_on q k rest ≡ Some (One k, rest)
unfolding first_on
first_end q k rest e =
    or_second (then_none _ (no_joined q And rest e))
    (or_second (then_none _ (no_joined q Or rest e)) refl)

-- a comparison, and the condition that it begins
condition_begun : (q : Bool) (k : Comparison) (x : Condition) (behind rest : List Token) →
    HasComparison q k → Names (comparison_uses k) → NoBracket behind →
    first_on q k behind ≡ Some (x, rest) → condition_at q (spelled_comparison k ++ behind) ≡ Some (x, rest)
unfolding condition_at
condition_begun q k x behind rest h names e g = then_is _ (comparison_again q k behind h names e) g

two_tokens : (k l : List Token) (t : Token) (rest : List Token) → (k ++ t ∷ l) ++ rest ≡ k ++ t ∷ (l ++ rest)
two_tokens k l t rest = append_assoc k (t ∷ l) rest

three_tokens : (k l m : List Token) (t : Token) (rest : List Token) →
    (k ++ t ∷ (l ++ t ∷ m)) ++ rest ≡ k ++ t ∷ (l ++ t ∷ (m ++ rest))
three_tokens k l m t rest =
    two_tokens k (l ++ t ∷ m) t rest ∙ ap (λ (ts : List Token). k ++ t ∷ ts) (two_tokens l m t rest)

four_tokens : (k l m o : List Token) (t : Token) (rest : List Token) →
    (k ++ t ∷ (l ++ t ∷ (m ++ t ∷ o))) ++ rest ≡ k ++ t ∷ (l ++ t ∷ (m ++ t ∷ (o ++ rest)))
four_tokens k l m o t rest =
    two_tokens k (l ++ t ∷ (m ++ t ∷ o)) t rest ∙ ap (λ (ts : List Token). k ++ t ∷ ts) (three_tokens l m o t rest)

pub condition_again : (q : Bool) (x : Condition) (rest : List Token) → HasCondition q x → Names (condition_uses x) →
    NoJoin rest → condition_at q (spelled_condition x ++ rest) ≡ Some (x, rest)
condition_again q (One k) rest h names e = condition_begun q k (One k) rest rest h names e.0 (first_end q k rest e)
condition_again q (Two j k l) rest h names e =
    let t : Token = Identifier (join_keyword j) in
    let behind : List Token = t ∷ (spelled_comparison l ++ rest) in
    ap (λ (ts : List Token). condition_at q ts) (two_tokens (spelled_comparison k) (spelled_comparison l) t rest)
    ∙ condition_begun q k (Two j k l) behind rest h.0 (names_first (comparison_uses k) (comparison_uses l) names) refl
    (first_more q j k l (Two j k l) rest rest h.1
    (names_rest (comparison_uses k) (comparison_uses l) names) e.0 (second_end q j k l rest e))
condition_again q (Three j k l m) rest h names e =
    let t : Token = Identifier (join_keyword j) in
    let third : List Token = t ∷ (spelled_comparison m ++ rest) in
    let behind : List Token = t ∷ (spelled_comparison l ++ third) in
    let later = names_rest (comparison_uses k) (comparison_uses l ++ comparison_uses m) names in
    ap (λ (ts : List Token). condition_at q ts)
    (three_tokens (spelled_comparison k) (spelled_comparison l) (spelled_comparison m) t rest)
    ∙ condition_begun q k (Three j k l m) behind rest h.0
    (names_first (comparison_uses k) (comparison_uses l ++ comparison_uses m) names) refl
    (first_more q j k l (Three j k l m) third rest h.1 (names_first (comparison_uses l) (comparison_uses m) later) refl
    (second_more q j k l m (Three j k l m) rest rest h.2
    (names_rest (comparison_uses l) (comparison_uses m) later) e.0 (third_end q j k l m rest e)))
condition_again q (Four j k l m o) rest h names e =
    let t : Token = Identifier (join_keyword j) in
    let fourth : List Token = t ∷ (spelled_comparison o ++ rest) in
    let third : List Token = t ∷ (spelled_comparison m ++ fourth) in
    let behind : List Token = t ∷ (spelled_comparison l ++ third) in
    let uo = comparison_uses o in
    let later = names_rest (comparison_uses k) (comparison_uses l ++ (comparison_uses m ++ uo)) names in
    let last = names_rest (comparison_uses l) (comparison_uses m ++ uo) later in
    ap (λ (ts : List Token). condition_at q ts)
    (four_tokens (spelled_comparison k) (spelled_comparison l) (spelled_comparison m) (spelled_comparison o) t rest)
    ∙ condition_begun q k (Four j k l m o) behind rest h.0
    (names_first (comparison_uses k) (comparison_uses l ++ (comparison_uses m ++ uo)) names) refl
    (first_more q j k l (Four j k l m o) third rest h.1
    (names_first (comparison_uses l) (comparison_uses m ++ uo) later) refl
    (second_more q j k l m (Four j k l m o) fourth rest h.2 (names_first (comparison_uses m) uo last) refl
    (third_more q j k l m o rest h.3 (names_rest (comparison_uses m) uo last) e)))
