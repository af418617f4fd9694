-- The tokens of a line speak of what its instruction speaks of, one by one.
use Rattle.std.proofs.Common.{◌≡◌, ℕ, ◌≤◌, ◌++◌, length, take, take_all, refl, sym, ap, ◌∙◌, append_assoc, append-nil}
use Rattle.std.proofs.Common.{arith, Bool, true, false, List, [], ◌∷◌, Option, Some}
use Rattle.std.proofs.Common.{None, nat_eq, nat_lt, if◌then◌else◌}
use Rattle.std.proofs.lemmas.Bool.{cond-false, cond-true, ltb-false, or_parts}
use Rattle.std.proofs.lemmas.List.{length-append}
use Rattle.std.specs.List.{AllByRecursion}
use Rattle.snap_words.specs.declared.kind.Field.{Field}
use Rattle.snap_words.specs.declared.kind.Field.TheVariants as field
use Rattle.snap_words.specs.declared.kind.KindTag.TheVariants as kind
use Rattle.snap_semantics.specs.declared.instr.BitBank.{BitBank}
use Rattle.snap_semantics.specs.declared.instr.BitBank.TheVariants as bits
use Rattle.snap_semantics.specs.declared.instr.Comparison.{Comparison}
use Rattle.snap_semantics.specs.declared.instr.Condition.{Condition}
use Rattle.snap_semantics.specs.declared.instr.Condition.TheVariants.{One, Two, Three, Four}
use Rattle.snap_semantics.specs.declared.instr.Expr.{Expr}
use Rattle.snap_semantics.specs.declared.instr.Expr.TheVariants as expr
use Rattle.snap_semantics.specs.declared.instr.Index.{Index}
use Rattle.snap_semantics.specs.declared.instr.Index.TheVariants as index
use Rattle.snap_semantics.specs.declared.instr.Instr.{Instr}
use Rattle.snap_semantics.specs.declared.instr.Instr.TheVariants.{Put}
use Rattle.snap_semantics.specs.declared.instr.Join.{Join}
use Rattle.snap_semantics.specs.declared.instr.Join.TheVariants.{And, Or}
use Rattle.snap_semantics.specs.declared.instr.Range.{Range}
use Rattle.snap_semantics.specs.declared.instr.Range.TheVariants as range
use Rattle.snap_semantics.specs.declared.instr.Relation.{Relation}
use Rattle.snap_semantics.specs.declared.instr.Relation.TheVariants as relation
use Rattle.snap_semantics.specs.declared.instr.Term.{Term}
use Rattle.snap_semantics.specs.declared.instr.Term.TheVariants as term
use Rattle.snap_semantics.specs.declared.instr.Tuple.{Tuple}
use Rattle.snap_semantics.specs.declared.instr.Tuple.TheVariants as tuple
use Rattle.snap_semantics.specs.declared.text.Sort.{Sort}
use Rattle.snap_semantics.specs.declared.text.Sort.TheVariants as sort
use Rattle.snap_semantics.specs.declared.text.Symbol.TheVariants as symbol
use Rattle.snap_semantics.specs.IsListing.{IsName}
use Rattle.snap_semantics.specs.ListingForms.{is_reserved, join_keyword}
use Rattle.snap_semantics.specs.Source.{Name}
use Rattle.snap_semantics.specs.Spelling.{in_parentheses, in_brackets, spelled_index, spelled_place, field_keyword}
use Rattle.snap_semantics.specs.Spelling.{spelled_term, spelled_expr, spelled_relation, spelled_comparison}
use Rattle.snap_semantics.specs.Spelling.{spelled_condition, spelled_where, spelled_range, spelled_target}
use Rattle.snap_semantics.specs.Spelling.{spelled_tuple, bank_keyword, spelled_pair, spelled_instr}
use Rattle.snap_semantics.specs.Table.{bank_of}
use Rattle.snap_semantics.specs.Token.{Token, Identifier, Sign}
use Rattle.snap_semantics.specs.Uses.{Use, Named, BankUse, FieldUse, HandshakeUse, TupleUse, view, index_uses}
use Rattle.snap_semantics.specs.Uses.{term_uses, expr_uses, comparison_uses, condition_uses, where_uses, tuple_uses}
use Rattle.snap_listing.proofs.Alls.{all_first, all_rest}
use Rattle.snap_reading_laws.specs.RefusedForToken.{SpeaksName}
use Rattle.snap_explanation.specs.TokenUses.{opens_with, ends_with_view, lone_sort, sort_at, field_use, word_use}
use Rattle.snap_explanation.specs.TokenUses.{slot_of_word, with_use, token_uses}
use Rattle.snap_explanation.specs.declared.token_uses.Slot.{Slot}
use Rattle.snap_explanation.specs.declared.token_uses.Slot.TheVariants as slot

abbrev pub Spoken : List Use → Type 0
Spoken us = AllByRecursion SpeaksName us

pub first_of_both : (us vs : List Use) → Spoken (us ++ vs) → Spoken us
first_of_both us vs h = all_first SpeaksName us vs h

pub second_of_both : (us vs : List Use) → Spoken (us ++ vs) → Spoken vs
second_of_both us vs h = all_rest SpeaksName us vs h

abbrev comma : Token
comma = Sign symbol.Comma

abbrev pub close : List Token
close = Sign symbol.CloseParenthesis ∷ []

abbrev bracket : List Token
bracket = Sign symbol.CloseBracket ∷ []

-- no view ends the instruction behind a name, where these tokens are behind it
abbrev pub NoView : Instr → List Token → Type 0
NoView i ts = (us : List Token) → ends_with_view i (length (us ++ ts)) ≡ false

deeper : (i : Instr) (vs ts : List Token) → NoView i ts → NoView i (vs ++ ts)
deeper i vs ts h us = ap (λ (xs : List Token). ends_with_view i (length xs)) (sym (append_assoc us vs ts))
    ∙ h (us ++ vs)

lone : (i : Instr) (ts : List Token) → NoView i ts → lone_sort i (length ts) ≡ sort.Scalar
lone i ts h = cond-false (ends_with_view i (length ts)) sort.View sort.Scalar (h [])

pub lone_value : (i : Instr) (ts : List Token) → opens_with symbol.OpenBracket ts ≡ false → NoView i ts →
    sort_at i slot.Value ts ≡ sort.Scalar
lone_value i ts o h = cond-false (opens_with symbol.OpenBracket ts) sort.Row (lone_sort i (length ts)) o ∙ lone i ts h

-- names
name_is : (i : Instr) (s : Slot) (x : Name) (ts : List Token) → IsName x →
    token_uses i s (Identifier x ∷ ts) ≡ Named (sort_at i s ts) x ∷ token_uses i slot.Value ts
name_is i s x ts h =
    let parts = or_parts (nat_lt 8 (length x)) (is_reserved x) h.1 in
    let short : length x ≤ 8 = ltb-false 8 (length x) parts.0 in
    let few : length x ≤ 9 = omega (arith, short) in
    ap
    (λ (b : Bool). with_use (if b then word_use i x ts else Some (Named (sort_at i s ts) (take 9 x)))
    (token_uses i (if b then slot_of_word x else slot.Value) ts)) parts.1
    ∙ ap (λ (y : Name). let us : List Use = Named (sort_at i s ts) y ∷ token_uses i slot.Value ts in us)
    (take_all 9 x few)

-- one use more in front
pub one_more : (u : Use) {us vs : List Use} → us ≡ vs → (let ws : List Use = u ∷ us in ws) ≡ u ∷ vs
one_more u e = ap (λ (us : List Use). let ws : List Use = u ∷ us in ws) e

-- a name of this sort, and what is behind it
pub name_then : (i : Instr) (s : Slot) (x : Name) (ts : List Token) (k : Sort) {us : List Use} → IsName x →
    sort_at i s ts ≡ k → token_uses i slot.Value ts ≡ us → token_uses i s (Identifier x ∷ ts) ≡ Named k x ∷ us
name_then i s x ts k h e g =
    name_is i s x ts h
    ∙ ap (λ (wanted : Sort). let us : List Use = Named wanted x ∷ token_uses i slot.Value ts in us) e
    ∙ one_more (Named k x) g

pub name_as : (i : Instr) (s : Slot) (x : Name) (ts : List Token) (k : Sort) → IsName x → sort_at i s ts ≡ k →
    token_uses i s (Identifier x ∷ ts) ≡ Named k x ∷ token_uses i slot.Value ts
name_as i s x ts k h e = name_then i s x ts k h e refl

-- What tokens speak of in front of others, behind which a scalar or a row is next.
abbrev pub Reads : Instr → Slot → List Token → List Use → List Token → Type 0
Reads i s ps us ts = token_uses i s (ps ++ ts) ≡ us ++ token_uses i slot.Value ts

-- two parts with a token between them that speaks of nothing
parted : (i : Instr) (s now : Slot) (ps : List Token) (t : Token) (qs : List Token) (us vs : List Use)
    (ts : List Token) →
    Reads i s ps us (t ∷ (qs ++ ts)) → token_uses i slot.Value (t ∷ (qs ++ ts)) ≡ token_uses i now (qs ++ ts) →
    Reads i now qs vs ts →
    Reads i s (ps ++ t ∷ qs) (us ++ vs) ts
parted i s now ps t qs us vs ts g e h =
    ap (λ (xs : List Token). token_uses i s xs) (append_assoc ps (t ∷ qs) ts) ∙ g
    ∙ ap (λ (xs : List Use). us ++ xs) (e ∙ h) ∙ sym (append_assoc us vs (token_uses i slot.Value ts))

-- all tokens
pub whole : (i : Instr) (s : Slot) (ps : List Token) (us : List Use) → Reads i s ps us [] → token_uses i s ps ≡ us
whole i s ps us h = ap (λ (xs : List Token). token_uses i s xs) (sym (append-nil ps)) ∙ h ∙ append-nil us

index_reads : (i : Instr) (s : Slot) (x : Index) (ts : List Token) → Spoken (index_uses x) →
    sort_at i s ts ≡ sort.Scalar → Reads i s (spelled_index x) (index_uses x) ts
index_reads i s (index.Scalar x) ts n e = name_as i s x ts sort.Scalar n.0 e
index_reads i s _ ts n e = refl

pub bracket_reads : (i : Instr) (s : Slot) (x : Index) (ts : List Token) → Spoken (index_uses x) → NoView i ts →
    Reads i s (in_brackets (spelled_index x)) (index_uses x) ts
bracket_reads i s x ts n v =
    ap (λ (xs : List Token). token_uses i slot.Value xs) (append_assoc (spelled_index x) bracket ts)
    ∙ index_reads i slot.Value x (Sign symbol.CloseBracket ∷ ts) n
    (lone_value i (Sign symbol.CloseBracket ∷ ts) refl (deeper i bracket ts v))

pub place_reads : (i : Instr) (s : Slot) (x : Name) (j : Index) (ts : List Token) (k : Sort) → IsName x →
    Spoken (index_uses j) → NoView i ts →
    sort_at i s (in_brackets (spelled_index j) ++ ts) ≡ k → Reads i s (spelled_place x j) (Named k x ∷ index_uses j) ts
place_reads i s x j ts k h n v e =
    name_then i s x (in_brackets (spelled_index j) ++ ts) k h e (bracket_reads i slot.Value j ts n v)

-- `(W[I])`, behind the bracket
pub inside_reads : (i : Instr) (x : Name) (j : Index) (ts : List Token) → IsName x → Spoken (index_uses j) → NoView i ts →
    token_uses i slot.Words ((spelled_place x j ++ close) ++ ts) ≡ (Named sort.Words x ∷ index_uses j)
    ++ token_uses i slot.Value ts
inside_reads i x j ts h n v =
    ap (λ (xs : List Token). token_uses i slot.Words xs) (append_assoc (spelled_place x j) close ts)
    ∙ place_reads i slot.Words x j (Sign symbol.CloseParenthesis ∷ ts) sort.Words h n (deeper i close ts v) refl

-- each field of one number is spoken of
abbrev pub Fields : Instr → Type 0
Fields i = (f : Field) → field_use (Some f) i ≡ Some (FieldUse f)

field_token : (i : Instr) (s : Slot) (f : Field) (ts : List Token) →
    token_uses i s (Identifier (field_keyword f) ∷ ts) ≡ with_use (field_use (Some f) i) (token_uses i slot.Words ts)
field_token i s field.Datum ts = refl
field_token i s _ ts = refl

field_reads : (i : Instr) (s : Slot) (f : Field) (x : Name) (j : Index) (ts : List Token) → IsName x →
    Spoken (index_uses j) → NoView i ts → Fields i →
    Reads i s (spelled_term (term.Field f x j)) (term_uses (term.Field f x j)) ts
field_reads i s f x j ts h n v w =
    field_token i s f (in_parentheses (spelled_place x j) ++ ts)
    ∙ ap (λ (u : Option Use). with_use u (token_uses i slot.Words (in_parentheses (spelled_place x j) ++ ts))) (w f)
    ∙ one_more (FieldUse f) (inside_reads i x j ts h n v)

handshake_reads : (i : Instr) (s : Slot) (x : Name) (j k : Index) (ts : List Token) → IsName x → Spoken (index_uses j) →
    Spoken (index_uses k) → NoView i ts →
    Reads i s (spelled_term (term.Handshake x j k)) (term_uses (term.Handshake x j k)) ts
handshake_reads i s x j k ts h m n v =
    let shut = Sign symbol.CloseParenthesis ∷ ts in
    let deep = deeper i close ts v in
    let both =
    parted i slot.Words slot.Part (spelled_place x j) comma (spelled_index k) (Named sort.Words x ∷ index_uses j)
    (index_uses k) shut
    (place_reads i slot.Words x j (comma ∷ (spelled_index k ++ shut)) sort.Words h m
    (deeper i (comma ∷ []) (spelled_index k ++ shut) (deeper i (spelled_index k) shut deep)) refl)
    refl (index_reads i slot.Part k shut n (lone i shut deep)) in
    one_more HandshakeUse (ap (λ (xs : List Token). token_uses i slot.Words xs)
    (append_assoc (spelled_place x j ++ comma ∷ spelled_index k) close ts) ∙ both)

-- a slot in which `[` makes a row of a name, and `+` leaves it alone
pub record IsOpen (i : Instr) (s : Slot) : Type 0 where
  row : (ts : List Token) → sort_at i s (Sign symbol.OpenBracket ∷ ts) ≡ sort.Row
  plus : (ts : List Token) → sort_at i s (Sign symbol.Plus ∷ ts) ≡ lone_sort i (length (Sign symbol.Plus ∷ ts))

pub value_open : (i : Instr) → IsOpen i slot.Value
value_open i = record { row = λ ts. refl; plus = λ ts. refl }

part_open : (i : Instr) → IsOpen i slot.Part
part_open i = record { row = λ ts. refl; plus = λ ts. refl }

term_reads : (i : Instr) (s : Slot) (t : Term) (ts : List Token) → Spoken (term_uses t) → IsOpen i s →
    sort_at i s ts ≡ sort.Scalar → NoView i ts → Fields i →
    Reads i s (spelled_term t) (term_uses t) ts
term_reads i s (term.Index x) ts n o e v w = index_reads i s x ts n e
term_reads i s term.Arg ts n o e v w = refl
term_reads i s (term.Row x j) ts n o e v w =
    place_reads i s x j ts sort.Row n.0 n.1 v (o.row ((spelled_index j ++ bracket) ++ ts))
term_reads i s (term.Field f x j) ts n o e v w = field_reads i s f x j ts n.1.0 n.1.1 v w
term_reads i s (term.Handshake x j k) ts n o e v w =
    handshake_reads i s x j k ts n.1.0 (first_of_both (index_uses j) (index_uses k) n.1.1)
    (second_of_both (index_uses j) (index_uses k) n.1.1) v

pub expr_reads : (i : Instr) (s : Slot) (e : Expr) (ts : List Token) → Spoken (expr_uses e) → IsOpen i s →
    sort_at i s ts ≡ sort.Scalar →
    opens_with symbol.OpenBracket ts ≡ false → NoView i ts → Fields i → Reads i s (spelled_expr e) (expr_uses e) ts
expr_reads i s (expr.Term t) ts n o e b v w = term_reads i s t ts n o e v w
expr_reads i s (expr.Sum t u) ts n o e b v w =
    let behind = spelled_term u ++ ts in
    let deep = deeper i (Sign symbol.Plus ∷ []) behind (deeper i (spelled_term u) ts v) in
    parted i s slot.Value (spelled_term t) (Sign symbol.Plus) (spelled_term u) (term_uses t) (term_uses u) ts
    (term_reads i s t (Sign symbol.Plus ∷ behind) (first_of_both (term_uses t) (term_uses u) n) o
    (o.plus behind ∙ lone i (Sign symbol.Plus ∷ behind) deep) deep w)
    refl
    (term_reads i slot.Value u ts (second_of_both (term_uses t) (term_uses u) n) (value_open i)
    (lone_value i ts b v) v w)
expr_reads i s (expr.Not t) ts n o e b v w = term_reads i slot.Value t ts n (value_open i) (lone_value i ts b v) v w

-- comparisons and conditions
relation_open : (r : Relation) (ts : List Token) → opens_with symbol.OpenBracket (spelled_relation r ∷ ts) ≡ false
relation_open relation.Equal ts = refl
relation_open _ ts = refl

relation_reads : (i : Instr) (r : Relation) (ts : List Token) →
    token_uses i slot.Value (spelled_relation r ∷ ts) ≡ token_uses i slot.Value ts
relation_reads i relation.Equal ts = refl
relation_reads i _ ts = refl

comparison_reads : (i : Instr) (k : Comparison) (ts : List Token) → Spoken (comparison_uses k) →
    opens_with symbol.OpenBracket ts ≡ false → NoView i ts → Fields i →
    Reads i slot.Value (spelled_comparison k) (comparison_uses k) ts
comparison_reads i k ts n b v w =
    let behind = spelled_term k.right ++ ts in
    let next = spelled_relation k.relation in
    let deep = deeper i (next ∷ []) behind (deeper i (spelled_term k.right) ts v) in
    parted i slot.Value slot.Value (spelled_term k.left) next (spelled_term k.right) (term_uses k.left)
    (term_uses k.right) ts
    (term_reads i slot.Value k.left (next ∷ behind) (first_of_both (term_uses k.left) (term_uses k.right) n)
    (value_open i) (lone_value i (next ∷ behind) (relation_open k.relation behind) deep) deep w)
    (relation_reads i k.relation behind)
    (term_reads i slot.Value k.right ts (second_of_both (term_uses k.left) (term_uses k.right) n) (value_open i)
    (lone_value i ts b v) v w)

join_reads : (i : Instr) (j : Join) (ts : List Token) →
    token_uses i slot.Value (Identifier (join_keyword j) ∷ ts) ≡ token_uses i slot.Value ts
join_reads i And ts = refl
join_reads i Or ts = refl

-- a comparison before a condition
joined_reads : (i : Instr) (j : Join) (k : Comparison) (c : Condition) (ts : List Token) →
    Spoken (comparison_uses k ++ condition_uses c) → NoView i ts → Fields i →
    (Spoken (condition_uses c) → Reads i slot.Value (spelled_condition c) (condition_uses c) ts) →
    Reads i slot.Value (spelled_comparison k ++ Identifier (join_keyword j) ∷ spelled_condition c)
    (comparison_uses k ++ condition_uses c) ts
joined_reads i j k c ts n v w h =
    let next = Identifier (join_keyword j) in
    let ps = spelled_condition c in
    parted i slot.Value slot.Value (spelled_comparison k) next ps (comparison_uses k) (condition_uses c) ts
    (comparison_reads i k (next ∷ (ps ++ ts)) (first_of_both (comparison_uses k) (condition_uses c) n) refl
    (deeper i (next ∷ []) (ps ++ ts) (deeper i ps ts v)) w)
    (join_reads i j (ps ++ ts)) (h (second_of_both (comparison_uses k) (condition_uses c) n))

condition_reads : (i : Instr) (c : Condition) (ts : List Token) → Spoken (condition_uses c) →
    opens_with symbol.OpenBracket ts ≡ false → NoView i ts → Fields i →
    Reads i slot.Value (spelled_condition c) (condition_uses c) ts
condition_reads i (One k) ts n b v w = comparison_reads i k ts n b v w
condition_reads i (Two j k l) ts n b v w =
    joined_reads i j k (One l) ts n v w (λ last. comparison_reads i l ts last b v w)
condition_reads i (Three j k l m) ts n b v w =
    joined_reads i j k (Two j l m) ts n v w (λ few.
    joined_reads i j l (One m) ts few v w (λ last. comparison_reads i m ts last b v w))
condition_reads i (Four j k l m o) ts n b v w =
    joined_reads i j k (Three j l m o) ts n v w (λ more.
    joined_reads i j l (Two j m o) ts more v w (λ few.
    joined_reads i j m (One o) ts few v w (λ last. comparison_reads i o ts last b v w)))

pub where_open : (k : Option Condition) → opens_with symbol.OpenBracket (spelled_where k) ≡ false
where_open None = refl
where_open (Some k) = refl

pub where_reads : (i : Instr) (k : Option Condition) → Spoken (where_uses k) → NoView i [] → Fields i →
    token_uses i slot.Value (spelled_where k) ≡ where_uses k
where_reads i None n v w = refl
where_reads i (Some k) n v w =
    whole i slot.Value (spelled_condition k) (condition_uses k) (condition_reads i k [] n refl v w)

-- `[I,J]`
pub pair_reads : (i : Instr) (s : Slot) (x y : Index) (ts : List Token) → Spoken (index_uses x ++ index_uses y) →
    NoView i ts →
    Reads i s (spelled_pair x y) (index_uses x ++ index_uses y) ts
pair_reads i s x y ts n v =
    let shut = Sign symbol.CloseBracket ∷ ts in
    let deep = deeper i bracket ts v in
    let behind = comma ∷ (spelled_index y ++ shut) in
    ap (λ (xs : List Token). token_uses i slot.Value xs)
    (append_assoc (spelled_index x ++ comma ∷ spelled_index y) bracket ts)
    ∙ parted i slot.Value slot.Part (spelled_index x) comma (spelled_index y) (index_uses x) (index_uses y) shut
    (index_reads i slot.Value x behind (first_of_both (index_uses x) (index_uses y) n)
    (lone_value i behind refl
    (deeper i (comma ∷ []) (spelled_index y ++ shut) (deeper i (spelled_index y) shut deep))))
    refl (index_reads i slot.Part y shut (second_of_both (index_uses x) (index_uses y) n) (lone i shut deep))

-- tuples, whose views have one token behind them
long : (us : List Token) (t : Token) (qs : List Token) (c : Token) (vs : List Token) →
    nat_eq (length (us ++ t ∷ (qs ++ c ∷ vs))) 1 ≡ false
long us t qs c vs = grind (arith, length-append us (t ∷ (qs ++ c ∷ vs)), length-append qs (c ∷ vs))

longer : (t : Token) (qs : List Token) (c d e : Token) → nat_lt 3 (length (t ∷ (qs ++ c ∷ d ∷ e ∷ []))) ≡ true
longer t qs c d e = grind (arith, length-append qs (c ∷ d ∷ e ∷ []))

pub some_behind : (us : List Token) (t : Token) (ts : List Token) → nat_eq (length (us ++ t ∷ ts)) 0 ≡ false
some_behind us t ts = grind (arith, length-append us (t ∷ ts))

pub bank_reads : (i : Instr) (s : Slot) (b : BitBank) (ts : List Token) →
    token_uses i s (Identifier (bank_keyword b) ∷ ts) ≡ BankUse (bank_of b) ∷ token_uses i slot.Value ts
bank_reads i s bits.Q ts = refl
bank_reads i s bits.P ts = refl

pub range_reads : (i : Instr) (g : Range) (ts : List Token) →
    token_uses i slot.Value (spelled_range g ∷ ts) ≡ token_uses i slot.Value ts
range_reads i range.Processes ts = refl
range_reads i range.Words ts = refl

pub range_open : (g : Range) (ts : List Token) → opens_with symbol.OpenBracket (spelled_range g ∷ ts) ≡ false
range_open range.Processes ts = refl
range_open range.Words ts = refl

-- the view at the end of a tuple
abbrev shut : Token
shut = Sign symbol.CloseParenthesis

seq_reads : (i : Index) (d q : Expr) (x : Name) → Spoken (tuple_uses (tuple.Seq d q x)) →
    token_uses (Put i (tuple.Seq d q x)) slot.Value (spelled_tuple (tuple.Seq d q x)) ≡ tuple_uses (tuple.Seq d q x)
seq_reads i d q x n =
    let p = Put i (tuple.Seq d q x) in
    let ud = expr_uses d in let uq = expr_uses q in let ux : List Use = view x ∷ [] in
    let last : List Token = Identifier x ∷ [] in
    let rest = spelled_expr q ++ comma ∷ last in
    let far : NoView p (comma ∷ (rest ++ close)) = λ us. long us comma rest shut [] in
    let near : NoView p (comma ∷ (last ++ close)) = λ us. long us comma last shut [] in
    let later = second_of_both ud (uq ++ ux) n.1 in
    one_more (TupleUse kind.Seq)
    (parted p slot.Value slot.Part (spelled_expr d) comma rest ud (uq ++ ux) close
    (expr_reads p slot.Value d (comma ∷ (rest ++ close)) (first_of_both ud (uq ++ ux) n.1) (value_open p)
    (lone_value p (comma ∷ (rest ++ close)) refl far) refl far (λ f. refl)) refl
    (parted p slot.Part slot.Part (spelled_expr q) comma last uq ux close
    (expr_reads p slot.Part q (comma ∷ (last ++ close)) (first_of_both uq ux later) (part_open p) refl refl near
    (λ f. refl)) refl
    (name_as p slot.Part x close sort.View (second_of_both uq ux later).0 refl))
    ∙ append-nil (ud ++ (uq ++ ux)))

bits_reads : (i : Index) (d : Expr) (h : Name) (t : Expr) (x : Name) → Spoken (tuple_uses (tuple.Bits d h t x)) →
    token_uses (Put i (tuple.Bits d h t x)) slot.Value (spelled_tuple (tuple.Bits d h t x))
    ≡ tuple_uses (tuple.Bits d h t x)
bits_reads i d h t x n =
    let p = Put i (tuple.Bits d h t x) in
    let ud = expr_uses d in let ut = expr_uses t in let ux : List Use = view x ∷ [] in
    let last : List Token = Identifier x ∷ [] in
    let third = spelled_expr t ++ comma ∷ last in
    let rest : List Token = Identifier h ∷ comma ∷ third in
    let uses : List Use = Named sort.Row h ∷ (ut ++ ux) in
    let far : NoView p (comma ∷ (rest ++ close)) = λ us. long us comma rest shut [] in
    let near : NoView p (comma ∷ (last ++ close)) = λ us. long us comma last shut [] in
    let later = second_of_both ud uses n.1 in
    let behind = comma ∷ (third ++ close) in
    let many : nat_lt 3 (length behind) ≡ true =
    ap (λ (xs : List Token). nat_lt 3 (length (comma ∷ xs))) (append_assoc (spelled_expr t) (comma ∷ last) close)
    ∙ longer comma (spelled_expr t) comma (Identifier x) shut in
    one_more (TupleUse kind.Bits)
    (parted p slot.Value slot.Part (spelled_expr d) comma rest ud uses close
    (expr_reads p slot.Value d (comma ∷ (rest ++ close)) (first_of_both ud uses n.1) (value_open p)
    (lone_value p (comma ∷ (rest ++ close)) refl far) refl far (λ f. refl)) refl
    (name_then p slot.Part h behind sort.Row later.0
    (cond-true (nat_lt 3 (length behind)) sort.Row (lone_sort p (length behind)) many)
    (parted p slot.Part slot.Part (spelled_expr t) comma last ut ux close
    (expr_reads p slot.Part t (comma ∷ (last ++ close)) (first_of_both ut ux later.1) (part_open p) refl refl near
    (λ f. refl)) refl
    (name_as p slot.Part x close sort.View (second_of_both ut ux later.1).0 refl)))
    ∙ append-nil (ud ++ uses))

multi_reads : (i : Index) (d e t : Expr) → Spoken (tuple_uses (tuple.Multi d e t)) →
    token_uses (Put i (tuple.Multi d e t)) slot.Value (spelled_tuple (tuple.Multi d e t))
    ≡ tuple_uses (tuple.Multi d e t)
multi_reads i d e t n =
    let p = Put i (tuple.Multi d e t) in
    let ud = expr_uses d in let ue = expr_uses e in let ut = expr_uses t in
    let last = spelled_expr t in
    let rest = spelled_expr e ++ comma ∷ last in
    let later = second_of_both ud (ue ++ ut) n.1 in
    one_more (TupleUse kind.Multi)
    (parted p slot.Value slot.Part (spelled_expr d) comma rest ud (ue ++ ut) close
    (expr_reads p slot.Value d (comma ∷ (rest ++ close)) (first_of_both ud (ue ++ ut) n.1) (value_open p) refl refl
    (λ us. refl) (λ f. refl)) refl
    (parted p slot.Part slot.Part (spelled_expr e) comma last ue ut close
    (expr_reads p slot.Part e (comma ∷ (last ++ close)) (first_of_both ue ut later) (part_open p) refl refl (λ us. refl)
    (λ f. refl)) refl
    (expr_reads p slot.Part t close (second_of_both ue ut later) (part_open p) refl refl (λ us. refl) (λ f. refl)))
    ∙ append-nil (ud ++ (ue ++ ut)))

tuple_reads : (i : Index) (t : Tuple) → Spoken (tuple_uses t) →
    token_uses (Put i t) slot.Value (spelled_tuple t) ≡ tuple_uses t
tuple_reads i (tuple.Seq d q x) n = seq_reads i d q x n
tuple_reads i (tuple.Bits d h t x) n = bits_reads i d h t x n
tuple_reads i (tuple.Multi d e t) n = multi_reads i d e t n

tuple_far : (i : Index) (t : Tuple) → NoView (Put i t) (Sign symbol.Equal ∷ spelled_tuple t)
tuple_far i (tuple.Seq d q x) us =
    long us (Sign symbol.Equal)
    (Sign symbol.OpenParenthesis ∷ (spelled_expr d ++ comma ∷ (spelled_expr q ++ comma ∷ Identifier x ∷ []))) shut []
tuple_far i (tuple.Bits d h t x) us =
    long us (Sign symbol.Equal)
    (Sign symbol.OpenParenthesis ∷
    (spelled_expr d ++ comma ∷ Identifier h ∷ comma ∷ (spelled_expr t ++ comma ∷ Identifier x ∷ []))) shut []
tuple_far i (tuple.Multi d e t) us = refl

pub put_reads : (i : Index) (t : Tuple) → Spoken (index_uses i ++ tuple_uses t) →
    token_uses (Put i t) slot.Value (spelled_instr (Put i t)) ≡ index_uses i ++ tuple_uses t
put_reads i t n =
    bracket_reads (Put i t) slot.Value i (Sign symbol.Equal ∷ spelled_tuple t)
    (first_of_both (index_uses i) (tuple_uses t) n) (tuple_far i t)
    ∙ ap (λ (us : List Use). index_uses i ++ us) (tuple_reads i t (second_of_both (index_uses i) (tuple_uses t) n))

-- an expression to the end of a line, in an instruction that has no view at its end
pub last_expr : (i : Instr) (e : Expr) → Spoken (expr_uses e) → NoView i [] → Fields i →
    token_uses i slot.Value (spelled_expr e) ≡ expr_uses e
last_expr i e n v w =
    whole i slot.Value (spelled_expr e) (expr_uses e)
    (expr_reads i slot.Value e [] n (value_open i) (lone_value i [] refl v) refl v w)

pub last_bracket : (i : Instr) (x : Index) → Spoken (index_uses x) → NoView i [] →
    token_uses i slot.Value (in_brackets (spelled_index x)) ≡ index_uses x
last_bracket i x n v =
    whole i slot.Value (in_brackets (spelled_index x)) (index_uses x) (bracket_reads i slot.Value x [] n v)

-- a condition and a target to the end of a line
pub tested : (i : Instr) (k : Condition) (target : ℕ) → Spoken (condition_uses k) → NoView i (spelled_target target) →
    Fields i →
    token_uses i slot.Value (spelled_condition k ++ spelled_target target) ≡ condition_uses k
tested i k target n v w = condition_reads i k (spelled_target target) n refl v w ∙ append-nil (condition_uses k)
