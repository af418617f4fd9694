-- Of a given line, form by form: the rule for numbered lines reads its spelling again, where its names are names; its
-- tokens can stand in a text; and its checks, part by part, are those of its uses.
use Rattle.std.proofs.Common.{◌≡◌, List, ◌∷◌, Some, refl, ℕ, sym, ◌∙◌, ap, Bool, false, None, ◌++◌, codes, append_assoc}
use Rattle.std.proofs.Common.{Option, true, arith, []}
use Rattle.std.proofs.lemmas.List.{append-nil}
use Rattle.std.specs.List.{AllByRecursion}
use Rattle.snap_words.specs.declared.kind.Field.TheVariants as field
use Rattle.snap_words.specs.declared.kind.KindTag.{KindTag}
use Rattle.snap_words.specs.declared.kind.KindTag.TheVariants as kind
use Rattle.snap_words.specs.declared.address.Bank.TheVariants as bank
use Rattle.snap_semantics.specs.declared.instr.Range.{Range}
use Rattle.snap_semantics.specs.declared.instr.Range.TheVariants as range
use Rattle.snap_semantics.specs.declared.instr.Expr.{Expr}
use Rattle.snap_semantics.specs.declared.instr.Index.{Index}
use Rattle.snap_semantics.specs.declared.instr.Instr.TheVariants as instr
use Rattle.snap_semantics.specs.declared.text.Symbol.TheVariants as symbol
use Rattle.snap_semantics.specs.declared.instr.BitBank.{BitBank}
use Rattle.snap_semantics.specs.declared.instr.BitBank.TheVariants as bits
use Rattle.snap_semantics.specs.declared.instr.Tuple.TheVariants as tuple
use Rattle.snap_semantics.specs.declared.instr.Index.TheVariants as index
use Rattle.snap_semantics.specs.declared.instr.Term.{Term}
use Rattle.snap_semantics.specs.declared.instr.Term.TheVariants as term
use Rattle.snap_semantics.specs.declared.instr.Expr.TheVariants as expr
use Rattle.snap_semantics.specs.declared.instr.Tuple.{Tuple}
use Rattle.snap_semantics.specs.declared.instr.Condition.{Condition}
use Rattle.snap_semantics.specs.declared.instr.Instr.{Instr}
use Rattle.snap_semantics.specs.declared.instr.Line.{Line}
use Rattle.snap_semantics.specs.declared.instr.Instr.TheVariants.{Let, LetPlace, Get, Bit, Look, Put, PutBit, PutView}
use Rattle.snap_semantics.specs.declared.instr.Instr.TheVariants.{ViewData, ViewOf, Each, First, Next, If, IfAll, Goto}
use Rattle.snap_semantics.specs.declared.instr.Instr.TheVariants.{Call, Return, Finish}
use Rattle.snap_semantics.specs.declared.text.Sort.TheVariants as sort
use Rattle.snap_semantics.specs.ListingForms.{range_at, target_at, expr_at, place_at, name_at, let_form, named_place_at}
use Rattle.snap_semantics.specs.ListingForms.{let_place_form, get_form, bit_bank_at, index_at, pair_at, bit_form}
use Rattle.snap_semantics.specs.ListingForms.{look_form, seq_tuple_at, bits_tuple_at, multi_tuple_at, triple_at}
use Rattle.snap_semantics.specs.ListingForms.{tuple_at, put_form, put_bit_form, put_view_form, view_data_form}
use Rattle.snap_semantics.specs.ListingForms.{view_of_form, condition_at, where_at, each_form, first_form, next_form}
use Rattle.snap_semantics.specs.ListingForms.{if_form, number_index, place_index, identifier_index, arg_term, row_term}
use Rattle.snap_semantics.specs.ListingForms.{field_term, handshake_term, index_term, term_at, comparison_at}
use Rattle.snap_semantics.specs.ListingForms.{if_all_form, return_form, goto_form, call_form, finish_form}
use Rattle.snap_semantics.specs.ListingForms.{form_of_keyword, is_line_number, line_form}
use Rattle.snap_semantics.specs.Spelling.{spelled_range, spelled_target, spelled_expr, in_brackets, spelled_index}
use Rattle.snap_semantics.specs.Spelling.{spelled_place, bank_keyword, spelled_pair, spelled_tuple, spelled_term}
use Rattle.snap_semantics.specs.Spelling.{in_parentheses, spelled_condition, spelled_where, spelled_instr, spelled_line}
use Rattle.snap_semantics.specs.Token.{Token, Identifier, Sign, Number}
use Rattle.snap_semantics.specs.IsListing.{HasExpr, HasIndex, IsName, HasTuple, HasCondition, HasWhere, HasForm}
use Rattle.snap_semantics.specs.Uses.{expr_uses, index_uses, term_uses, same_kind, Use, row, view, tuple_uses}
use Rattle.snap_semantics.specs.Uses.{condition_uses, where_uses, instr_uses, BankUse, ViewUse, scalar, words}
use Rattle.snap_semantics.specs.Uses.{checked_uses}
use Rattle.snap_semantics.specs.Source.{Name, Source}
use Rattle.snap_semantics.specs.Rules.{symbol_at, ◌>>=◌, identifier_at}
use Rattle.snap_semantics.specs.RightUses.{IsRight, HasRightUses}
use Rattle.snap_semantics.specs.Listing.{instr_targets}
use Rattle.snap_semantics.specs.Table.{bank_of}
use Rattle.snap_listing.specs.Checks.{checked_instr}
use Rattle.snap_listing.proofs.AgainTerms.{Names, expr_again, bracket_again, then_is, name_read, place_again}
use Rattle.snap_listing.proofs.AgainTerms.{index_again, pair_tokens, names_first, then_none, or_first, names_rest}
use Rattle.snap_listing.proofs.AgainTerms.{or_second, condition_again, if_yes}
use Rattle.snap_listing.proofs.Alls.{all_rest, all_both}
use Rattle.snap_listing.proofs.HasTerms.{Sounds}
use Rattle.snap_listing.proofs.SoundTerms.{equal, between_sound, parentheses_sound, bracket_sound, place_sound}
use Rattle.snap_listing.proofs.SoundTerms.{expr_sound, where_sound, range_sound, bank_sound, tuple_sound, pair_sound}
use Rattle.snap_listing.proofs.SoundTerms.{IsLong, target_sound, condition_target_sound}
use Rattle.snap_listing.proofs.Checks.{both, first_then, alone, index_checks, indexes_checks, place_checks, expr_checks}
use Rattle.snap_listing.proofs.Checks.{condition_checks, where_checks, tuple_checks, put_bit_checks}
use Rattle.snap_text.specs.Tokens.{IsSound}

range_again : (g : Range) (rest : List Token) → range_at (spelled_range g ∷ rest) ≡ Some (g, rest)
unfolding range_at
range_again range.Processes rest = refl
range_again range.Words rest = refl

target_again : (k : ℕ) → target_at (spelled_target k) ≡ Some (k, [])
unfolding target_at
target_again k = refl

-- an expression, and a place, to the end of the line
last_expr : (q : Bool) (x : Expr) → HasExpr q x → Names (expr_uses x) → expr_at q (spelled_expr x) ≡ Some (x, [])
last_expr q x h names =
    ap (λ (ts : List Token). expr_at q ts) (sym (append-nil (spelled_expr x))) ∙ expr_again q x [] h names refl refl

last_bracket : (q : Bool) (i : Index) → HasIndex q i → Names (index_uses i) →
    place_at q (in_brackets (spelled_index i)) ≡ Some (i, [])
last_bracket q i h names =
    ap (λ (ts : List Token). place_at q ts) (sym (append-nil (in_brackets (spelled_index i))))
    ∙ bracket_again q i [] h names

let_again : (x : Name) (e : Expr) → HasExpr false e → IsName x → Names (expr_uses e) →
    let_form (Identifier x ∷ Sign symbol.Equal ∷ spelled_expr e) ≡ Some (instr.Let x e)
unfolding let_form
let_again x e h name names =
    then_is _ (name_read x _ name)
    (then_is _ (last_expr false e h names) refl)

no_let : (x : Name) (rest : List Token) → IsName x → let_form (Identifier x ∷ Sign symbol.OpenBracket ∷ rest) ≡ None
unfolding let_form
no_let x rest name = then_is _ (name_read x _ name) refl

let_place_again : (x : Name) (i : Index) (e : Expr) → HasIndex false i →
    HasExpr false e → IsName x → Names (index_uses i) → Names (expr_uses e) →
    let_place_form (spelled_place x i ++ Sign symbol.Equal ∷ spelled_expr e) ≡ Some (instr.LetPlace x i e)
unfolding let_place_form
let_place_again x i e g h name ni ne =
    let ts : List Token = Sign symbol.Equal ∷ spelled_expr e in
    then_is _ (place_again false x i ts g name ni)
    (then_is _ (last_expr false e h ne) refl)

get_again : (x : Name) (i j : Index) → HasIndex false i → HasIndex false j →
    IsName x → Names (index_uses i) → Names (index_uses j) →
    get_form (spelled_place x i ++ Sign symbol.Equal ∷ Identifier (codes "r") ∷ in_brackets (spelled_index j))
    ≡ Some (instr.Get x i j)
unfolding get_form
get_again x i j g h name ni nj =
    let ts : List Token = Sign symbol.Equal ∷ Identifier (codes "r") ∷ in_brackets (spelled_index j) in
    then_is _ (place_again false x i ts g name ni)
    (then_is _ (last_bracket false j h nj) refl)

bank_again : (b : BitBank) (rest : List Token) → bit_bank_at (Identifier (bank_keyword b) ∷ rest) ≡ Some (b, rest)
unfolding bit_bank_at
bank_again bits.Q rest = refl
bank_again bits.P rest = refl

pair_again : (i j : Index) (rest : List Token) → HasIndex false i → HasIndex false j → Names (index_uses i) →
    Names (index_uses j) → pair_at (spelled_pair i j ++ rest) ≡ Some ((i, j), rest)
unfolding pair_at
pair_again i j rest g h ni nj =
    let close : Token = Sign symbol.CloseBracket in
    let first = spelled_index i in
    let second = spelled_index j in
    let behind : List Token = Sign symbol.Comma ∷ (second ++ close ∷ rest) in
    then_is _ (ap (λ (ts : List Token). index_at false ts) (pair_tokens first second close rest)
    ∙ index_again false i behind g ni)
    (then_is _ (index_again false j (close ∷ rest) h nj) refl)

last_pair : (i j : Index) → HasIndex false i → HasIndex false j → Names (index_uses i) → Names (index_uses j) →
    pair_at (spelled_pair i j) ≡ Some ((i, j), [])
last_pair i j g h ni nj =
    ap (λ (ts : List Token). pair_at ts) (sym (append-nil (spelled_pair i j))) ∙ pair_again i j [] g h ni nj

bit_again : (x : Name) (b : BitBank) (i j : Index) → HasIndex false i →
    HasIndex false j → IsName x → Names (index_uses i) → Names (index_uses j) →
    bit_form (Identifier x ∷ Sign symbol.Equal ∷ Identifier (bank_keyword b) ∷ spelled_pair i j)
    ≡ Some (instr.Bit x b i j)
unfolding bit_form
bit_again x b i j g h name ni nj =
    then_is _ (name_read x _ name)
    (then_is _ (bank_again b _)
    (then_is _ (last_pair i j g h ni nj) refl))

look_again : (x : Name) (i : Index) → HasIndex false i → IsName x → Names (index_uses i) →
    look_form (Identifier x ∷ Sign symbol.Equal ∷ Identifier (codes "v") ∷ in_brackets (spelled_index i))
    ≡ Some (instr.Look x i)
unfolding look_form
look_again x i h name names =
    then_is _ (name_read x _ name)
    (then_is _ (last_bracket false i h names) refl)

-- what ends a tuple
abbrev closing : List Token
closing = Sign symbol.CloseParenthesis ∷ []

-- the tokens of a tuple, grouped as they are read
part_tokens : (a b c : List Token) → b ++ closing ≡ c →
    (a ++ Sign symbol.Comma ∷ b) ++ closing ≡ a ++ Sign symbol.Comma ∷ c
part_tokens a b c e =
    append_assoc a (Sign symbol.Comma ∷ b) closing ∙ ap (λ (ts : List Token). a ++ Sign symbol.Comma ∷ ts) e

seq_tokens : (d q : List Token) (s : Name) →
    (d ++ Sign symbol.Comma ∷ (q ++ Sign symbol.Comma ∷ Identifier s ∷ [])) ++ closing
    ≡ d ++ Sign symbol.Comma ∷ (q ++ Sign symbol.Comma ∷ Identifier s ∷ closing)
seq_tokens d q s =
    part_tokens d (q ++ Sign symbol.Comma ∷ Identifier s ∷ []) (q ++ Sign symbol.Comma ∷ Identifier s ∷ closing)
    (part_tokens q (Identifier s ∷ []) (Identifier s ∷ closing) refl)

bits_tokens : (d t : List Token) (h s : Name) →
    (d ++ Sign symbol.Comma ∷ Identifier h ∷ Sign symbol.Comma ∷ (t ++ Sign symbol.Comma ∷ Identifier s ∷ []))
    ++ closing
    ≡ d ++ Sign symbol.Comma ∷ Identifier h ∷ Sign symbol.Comma ∷ (t ++ Sign symbol.Comma ∷ Identifier s ∷ closing)
bits_tokens d t h s =
    part_tokens d (Identifier h ∷ Sign symbol.Comma ∷ (t ++ Sign symbol.Comma ∷ Identifier s ∷ []))
    (Identifier h ∷ Sign symbol.Comma ∷ (t ++ Sign symbol.Comma ∷ Identifier s ∷ closing))
    (ap (λ (ts : List Token). Identifier h ∷ Sign symbol.Comma ∷ ts)
    (part_tokens t (Identifier s ∷ []) (Identifier s ∷ closing) refl))

multi_tokens : (d i t : List Token) →
    (d ++ Sign symbol.Comma ∷ (i ++ Sign symbol.Comma ∷ t)) ++ closing
    ≡ d ++ Sign symbol.Comma ∷ (i ++ Sign symbol.Comma ∷ (t ++ closing))
multi_tokens d i t =
    part_tokens d (i ++ Sign symbol.Comma ∷ t) (i ++ Sign symbol.Comma ∷ (t ++ closing))
    (part_tokens i t (t ++ closing) refl)

seq_tuple_again : (d q : Expr) (s : Name) → HasExpr false d → HasExpr false q → Names (expr_uses d) →
    Names (expr_uses q) → IsName s → seq_tuple_at (spelled_tuple (tuple.Seq d q s)) ≡ Some (tuple.Seq d q s, [])
unfolding seq_tuple_at
seq_tuple_again d q s g h nd nq name =
    let third : List Token = Sign symbol.Comma ∷ Identifier s ∷ closing in
    let second : List Token = Sign symbol.Comma ∷ (spelled_expr q ++ third) in
    then_is _ (ap (λ (ts : List Token). expr_at false ts) (seq_tokens (spelled_expr d) (spelled_expr q) s)
    ∙ expr_again false d second g nd refl refl)
    (then_is _ (expr_again false q third h nq refl refl)
    (then_is _ (name_read s _ name) refl))

bits_tuple_again : (d t : Expr) (x s : Name) → HasExpr false d → HasExpr false t →
    Names (expr_uses d) → Names (expr_uses t) → IsName x → IsName s →
    bits_tuple_at (spelled_tuple (tuple.Bits d x t s)) ≡ Some (tuple.Bits d x t s, [])
unfolding bits_tuple_at
bits_tuple_again d t x s g h nd nt nx ns =
    let fourth : List Token = Sign symbol.Comma ∷ Identifier s ∷ closing in
    let third : List Token = Sign symbol.Comma ∷ (spelled_expr t ++ fourth) in
    let second : List Token = Sign symbol.Comma ∷ Identifier x ∷ third in
    then_is _ (ap (λ (ts : List Token). expr_at false ts) (bits_tokens (spelled_expr d) (spelled_expr t) x s)
    ∙ expr_again false d second g nd refl refl)
    (then_is _ (name_read x _ nx)
    (then_is _ (expr_again false t fourth h nt refl refl)
    (then_is _ (name_read s _ ns) refl)))

multi_tuple_again : (d i t : Expr) → HasExpr false d → HasExpr false i → HasExpr false t →
    Names (expr_uses d) → Names (expr_uses i) → Names (expr_uses t) →
    multi_tuple_at (spelled_tuple (tuple.Multi d i t)) ≡ Some (tuple.Multi d i t, [])
unfolding multi_tuple_at
multi_tuple_again d i t f g h nd ni nt =
    let third : List Token = Sign symbol.Comma ∷ (spelled_expr t ++ closing) in
    let second : List Token = Sign symbol.Comma ∷ (spelled_expr i ++ third) in
    then_is _
    (ap (λ (ts : List Token). expr_at false ts) (multi_tokens (spelled_expr d) (spelled_expr i) (spelled_expr t))
    ∙ expr_again false d second f nd refl refl)
    (then_is _ (expr_again false i third g ni refl refl)
    (then_is _ (expr_again false t closing h nt refl refl) refl))

-- what follows a name: nothing is found behind one that stands alone, nor where no comma follows
abbrev Stops : {B : Type 0} → ((Name × List Token) → Option B) → Type 0
Stops f = (x : Name) (ts : List Token) → symbol_at symbol.Comma ts ≡ None → f (x, ts) ≡ None

index_stops : {B : Type 0} (i : Index) (rest : List Token) (f : (Name × List Token) → Option B) → Names (index_uses i) →
    ((x : Name) → f (x, rest) ≡ None) → (name_at (spelled_index i ++ rest) >>= f) ≡ None
unfolding name_at
index_stops (index.Scalar x) rest f names g = then_is f (name_read x _ names.0) (g x)
index_stops _ rest f names g = refl

term_stops : {B : Type 0} (t : Term) (rest : List Token) (f : (Name × List Token) → Option B) → Names (term_uses t) →
    ((x : Name) → f (x, rest) ≡ None) → Stops f → (name_at (spelled_term t ++ rest) >>= f) ≡ None
unfolding name_at
term_stops (term.Index i) rest f names g h = index_stops i rest f names g
term_stops (term.Row x i) rest f names g h =
    let ts : List Token = in_brackets (spelled_index i) ++ rest in
    then_is f (name_read x _ names.0) (h x ts refl)
term_stops (term.Field field.Datum x i) rest f names g h = refl
term_stops _ rest f names g h = refl

expr_stops : {B : Type 0} (e : Expr) (rest : List Token) (f : (Name × List Token) → Option B) → Names (expr_uses e) →
    ((x : Name) → f (x, rest) ≡ None) → Stops f → (name_at (spelled_expr e ++ rest) >>= f) ≡ None
unfolding name_at
expr_stops (expr.Term t) rest f names g h = term_stops t rest f names g h
expr_stops (expr.Sum t u) rest f names g h =
    let plus : List Token = Sign symbol.Plus ∷ (spelled_term u ++ rest) in
    ap (λ (ts : List Token). name_at ts >>= f) (append_assoc (spelled_term t) (Sign symbol.Plus ∷ spelled_term u) rest)
    ∙ term_stops t plus f (names_first (term_uses t) (term_uses u) names) (λ x. h x plus refl) h
expr_stops (expr.Not t) rest f names g h = refl

-- three parts are no tuple of four
no_bits : (d e x : Expr) (third : List Token) → HasExpr false d → Names (expr_uses d) → Names (expr_uses e) →
    expr_at false third ≡ Some (x, closing) → bits_tuple_at (Sign symbol.OpenParenthesis
    ∷ (spelled_expr d ++ Sign symbol.Comma ∷ (spelled_expr e ++ Sign symbol.Comma ∷ third))) ≡ None
unfolding bits_tuple_at
no_bits d e x third g nd ne found =
    let behind : List Token = Sign symbol.Comma ∷ third in
    let second : List Token = Sign symbol.Comma ∷ (spelled_expr e ++ behind) in
    then_is _ (expr_again false d second g nd refl refl)
    (expr_stops e behind _ ne (λ y. then_is _ found refl)
    (λ y ts none. then_none _ none))

in_round : (ts us : List Token) → ts ≡ us → bits_tuple_at (Sign symbol.OpenParenthesis ∷ us) ≡ None →
    bits_tuple_at (Sign symbol.OpenParenthesis ∷ ts) ≡ None
in_round ts us e h = ap (λ (vs : List Token). bits_tuple_at (Sign symbol.OpenParenthesis ∷ vs)) e ∙ h

seq_no_bits : (d q : Expr) (s : Name) → HasExpr false d → Names (expr_uses d) → Names (expr_uses q) → IsName s →
    bits_tuple_at (spelled_tuple (tuple.Seq d q s)) ≡ None
seq_no_bits d q s g nd nq name =
    in_round _ _ (seq_tokens (spelled_expr d) (spelled_expr q) s)
    (no_bits d q (expr.Term (term.Index (index.Scalar s))) (Identifier s ∷ closing) g nd nq
    (expr_again false (expr.Term (term.Index (index.Scalar s))) closing tt (name, tt) refl refl))

multi_no_bits : (d i t : Expr) → HasExpr false d → HasExpr false t → Names (expr_uses d) → Names (expr_uses i) →
    Names (expr_uses t) → bits_tuple_at (spelled_tuple (tuple.Multi d i t)) ≡ None
multi_no_bits d i t g h nd ni nt =
    in_round _ _ (multi_tokens (spelled_expr d) (spelled_expr i) (spelled_expr t))
    (no_bits d i t (spelled_expr t ++ closing) g nd ni (expr_again false t closing h nt refl refl))

seq_triple : (k : KindTag) (ts : List Token) (t : Tuple) → same_kind k kind.Seq ≡ true →
    seq_tuple_at ts ≡ Some (t, []) → triple_at k ts ≡ Some (t, [])
unfolding triple_at
seq_triple kind.Seq ts t e h = or_first _ h
seq_triple kind.Bits ts t e h = absurd cc
seq_triple kind.Multi ts t e h = absurd cc

multi_triple : (k : KindTag) (ts : List Token) (t : Tuple) → same_kind k kind.Multi ≡ true →
    multi_tuple_at ts ≡ Some (t, []) → triple_at k ts ≡ Some (t, [])
unfolding triple_at
multi_triple kind.Seq ts t e h = absurd cc
multi_triple kind.Bits ts t e h = absurd cc
multi_triple kind.Multi ts t e h = h

tuple_again : (s : Source) (t : Tuple) → HasTuple t → AllByRecursion (IsRight s) (tuple_uses t) → Names (tuple_uses t) →
    tuple_at s.kind (spelled_tuple t) ≡ Some (t, [])
unfolding tuple_at
tuple_again s (tuple.Seq d q x) h right names =
    let us : List Use = view x ∷ [] in
    let nd = names_first (expr_uses d) (expr_uses q ++ us) names.1 in
    let later = names_rest (expr_uses d) (expr_uses q ++ us) names.1 in
    let nq = names_first (expr_uses q) us later in
    let last = names_rest (expr_uses q) us later in
    let t = tuple.Seq d q x in
    or_second (seq_no_bits d q x h.0 nd nq last.0)
    (seq_triple s.kind (spelled_tuple t) t right.0 (seq_tuple_again d q x h.0 h.1 nd nq last.0))
tuple_again s (tuple.Bits d y t x) h right names =
    let us : List Use = view x ∷ [] in
    let nd = names_first (expr_uses d) (row y ∷ (expr_uses t ++ us)) names.1 in
    let later = names_rest (expr_uses d) (row y ∷ (expr_uses t ++ us)) names.1 in
    let last = names_rest (expr_uses t) us later.1 in
    or_first _ (bits_tuple_again d t y x h.0 h.1 nd (names_first (expr_uses t) us later.1) later.0 last.0)
tuple_again s (tuple.Multi d i t) h right names =
    let nd = names_first (expr_uses d) (expr_uses i ++ expr_uses t) names.1 in
    let later = names_rest (expr_uses d) (expr_uses i ++ expr_uses t) names.1 in
    let ni = names_first (expr_uses i) (expr_uses t) later in
    let nt = names_rest (expr_uses i) (expr_uses t) later in
    let whole = tuple.Multi d i t in
    or_second (multi_no_bits d i t h.0 h.2 nd ni nt)
    (multi_triple s.kind (spelled_tuple whole) whole right.0 (multi_tuple_again d i t h.0 h.1 h.2 nd ni nt))

put_again : (s : Source) (i : Index) (t : Tuple) → HasIndex false i → HasTuple t →
    AllByRecursion (IsRight s) (tuple_uses t) → Names (index_uses i) → Names (tuple_uses t) →
    put_form s.kind (Identifier (codes "r") ∷ (in_brackets (spelled_index i) ++ Sign symbol.Equal ∷ spelled_tuple t))
    ≡ Some (instr.Put i t)
unfolding put_form
put_again s i t g h right ni nt =
    let ts : List Token = Sign symbol.Equal ∷ spelled_tuple t in
    then_is _ (bracket_again false i ts g ni)
    (then_is _ (tuple_again s t h right nt) refl)

put_bit_again : (b : BitBank) (i j : Index) (e : Expr) → HasIndex false i → HasIndex false j →
    HasExpr false e → Names (index_uses i) → Names (index_uses j) → Names (expr_uses e) →
    put_bit_form (Identifier (bank_keyword b) ∷ (spelled_pair i j ++ Sign symbol.Equal ∷ spelled_expr e))
    ≡ Some (instr.PutBit b i j e)
unfolding put_bit_form
put_bit_again b i j e f g h ni nj ne =
    let behind : List Token = Sign symbol.Equal ∷ spelled_expr e in
    then_is _ (bank_again b _)
    (then_is _ (pair_again i j behind f g ni nj)
    (then_is _ (last_expr false e h ne) refl))

put_view_again : (i : Index) (x : Name) → HasIndex false i → Names (index_uses i) → IsName x →
    put_view_form (Identifier (codes "v") ∷ (in_brackets (spelled_index i) ++ Sign symbol.Equal ∷ Identifier x ∷ []))
    ≡ Some (instr.PutView i x)
unfolding put_view_form
put_view_again i x h names name =
    let ts : List Token = Sign symbol.Equal ∷ Identifier x ∷ [] in
    then_is _ (bracket_again false i ts h names)
    (then_is _ (name_read x _ name) refl)

bank_no_put : (k : KindTag) (b : BitBank) (rest : List Token) → put_form k (Identifier (bank_keyword b) ∷ rest) ≡ None
unfolding put_form
bank_no_put k bits.Q rest = refl
bank_no_put k bits.P rest = refl

view_no_put : (k : KindTag) (rest : List Token) → put_form k (Identifier (codes "v") ∷ rest) ≡ None
unfolding put_form
view_no_put k rest = refl

view_no_put_bit : (rest : List Token) → put_bit_form (Identifier (codes "v") ∷ rest) ≡ None
unfolding put_bit_form bit_bank_at
view_no_put_bit rest = refl

view_data_again : (x y : Name) → IsName x → IsName y →
    view_data_form (Identifier x ∷ Sign symbol.Equal ∷ Identifier (codes "data") ∷ in_parentheses (Identifier y ∷ []))
    ≡ Some (instr.ViewData x y)
unfolding view_data_form
view_data_again x y nx ny =
    then_is _ (name_read x _ nx)
    (then_is _ (name_read y _ ny) refl)

no_view_data : (x : Name) (rest : List Token) → IsName x →
    view_data_form (Identifier x ∷ Sign symbol.Equal ∷ Identifier (codes "view") ∷ rest) ≡ None
unfolding view_data_form
no_view_data x rest name = then_is _ (name_read x _ name) refl

view_of_again : (x y : Name) (i : Index) → HasIndex false i → IsName x → IsName y → Names (index_uses i) →
    view_of_form (Identifier x ∷ Sign symbol.Equal ∷ Identifier (codes "view") ∷ in_parentheses (spelled_place y i))
    ≡ Some (instr.ViewOf x y i)
unfolding view_of_form
view_of_again x y i h nx ny ni =
    let end : List Token = Sign symbol.CloseParenthesis ∷ [] in
    then_is _ (name_read x _ nx)
    (then_is _ (place_again false y i end h ny ni) refl)

some_where : (k : Condition) → HasCondition true k → Names (condition_uses k) →
    where_at (spelled_where (Some k)) ≡ Some (Some k, [])
unfolding where_at
some_where k h names =
    or_first _ (then_is _ (ap (λ (ts : List Token). condition_at true ts) (sym (append-nil (spelled_condition k)))
    ∙ condition_again true k [] h names (refl, refl, refl)) refl)

no_where : where_at [] ≡ Some (None, [])
unfolding where_at
no_where = refl

where_again : (k : Option Condition) → HasWhere k → Names (where_uses k) → where_at (spelled_where k) ≡ Some (k, [])
where_again None h names = no_where
where_again (Some k) h names = some_where k h names

where_expr : (x : Expr) (k : Option Condition) → HasExpr true x → Names (expr_uses x) →
    expr_at true (spelled_expr x ++ spelled_where k) ≡ Some (x, spelled_where k)
where_expr x None h names = expr_again true x [] h names refl refl
where_expr x (Some k) h names = expr_again true x (Identifier (codes "where") ∷ spelled_condition k) h names refl refl

each_again : (g : Range) (x : Name) (e : Expr) (k : Option Condition) → HasExpr true e →
    HasWhere k → IsName x → Names (expr_uses e) → Names (where_uses k) →
    each_form (spelled_range g ∷ Sign symbol.Colon ∷ Identifier x ∷ Sign symbol.OpenBracket ∷ Sign symbol.At
    ∷ Sign symbol.CloseBracket ∷ Sign symbol.Equal ∷ (spelled_expr e ++ spelled_where k))
    ≡ Some (instr.Each g x e k)
unfolding each_form
each_again g x e k h c name ne nk =
    then_is _ (range_again g _)
    (then_is _ (name_read x _ name)
    (then_is _ (where_expr e k h ne)
    (then_is _ (where_again k c nk) refl)))

-- a condition before `goto N`
goto_condition : (q : Bool) (k : Condition) (target : ℕ) → HasCondition q k → Names (condition_uses k) →
    condition_at q (spelled_condition k ++ spelled_target target) ≡ Some (k, spelled_target target)
goto_condition q k target h names = condition_again q k (spelled_target target) h names (refl, refl, refl)

first_again : (x : Name) (g : Range) (k : Condition) (target : ℕ) →
    HasCondition true k → IsName x → Names (condition_uses k) →
    first_form (Identifier x ∷ spelled_range g ∷ Sign symbol.Colon ∷ (spelled_condition k ++ spelled_target target))
    ≡ Some (instr.First x g k target)
unfolding first_form
first_again x g k target h name names =
    then_is _ (name_read x _ name)
    (then_is _ (range_again g _)
    (then_is _ (goto_condition true k target h names)
    (then_is _ (target_again target) refl)))

next_again : (x : Name) (g : Range) (target : ℕ) → IsName x →
    next_form (Identifier x ∷ spelled_range g ∷ spelled_target target) ≡ Some (instr.Next x g target)
unfolding next_form
next_again x g target name =
    then_is _ (name_read x _ name)
    (then_is _ (range_again g _)
    (then_is _ (target_again target) refl))

if_again : (k : Condition) (target : ℕ) → HasCondition false k → Names (condition_uses k) →
    if_form (spelled_condition k ++ spelled_target target) ≡ Some (instr.If k target)
unfolding if_form
if_again k target h names =
    then_is _ (goto_condition false k target h names)
    (then_is _ (target_again target) refl)

-- `all` begins no condition
no_if : (rest : List Token) → if_form (Identifier (codes "all") ∷ rest) ≡ None
unfolding if_form condition_at comparison_at term_at arg_term row_term named_place_at name_at field_term
    handshake_term index_term index_at number_index place_index identifier_index
no_if rest = refl

if_all_again : (g : Range) (k : Condition) (target : ℕ) → HasCondition true k → Names (condition_uses k) →
    if_all_form
    (Identifier (codes "all") ∷ spelled_range g ∷ Sign symbol.Colon ∷ (spelled_condition k ++ spelled_target target))
    ≡ Some (instr.IfAll g k target)
unfolding if_all_form
if_all_again g k target h names =
    then_is _ (range_again g _)
    (then_is _ (goto_condition true k target h names)
    (then_is _ (target_again target) refl))

return_again : (x : Name) → IsName x → return_form (Identifier x ∷ []) ≡ Some (instr.Return x)
unfolding return_form
return_again x name = then_is _ (name_read x _ name) refl

goto_again : (k : ℕ) → goto_form (Number k ∷ []) ≡ Some (instr.Goto k)
unfolding goto_form
goto_again k = refl

call_again : (k : ℕ) → call_form (Number k ∷ []) ≡ Some (instr.Call k)
unfolding call_form
call_again k = refl

finish_again : finish_form [] ≡ Some instr.Finish
unfolding finish_form
finish_again = refl

-- the form of an instruction with its first keyword
abbrev instr_form : KindTag → List Token → Option Instr
instr_form g ts = identifier_at ts >>= λ (w : List ℕ × List Token). form_of_keyword g w.0 w.1

instr_again : (s : Source) (i : Instr) → HasForm i → HasRightUses s i → Names (instr_uses i) →
    instr_form s.kind (spelled_instr i) ≡ Some i
unfolding form_of_keyword
instr_again s (instr.Let x e) h right names = or_first _ (let_again x e h names.0 names.1)
instr_again s (instr.LetPlace x i e) h right names =
    or_second
    (no_let x ((spelled_index i ++ Sign symbol.CloseBracket ∷ []) ++ Sign symbol.Equal ∷ spelled_expr e) names.0)
    (let_place_again x i e h.0 h.1 names.0 (names_first (index_uses i) (expr_uses e) names.1)
    (names_rest (index_uses i) (expr_uses e) names.1))
instr_again s (instr.Get x i j) h right names =
    get_again x i j h.0 h.1 names.0 (names_first (index_uses i) (index_uses j) names.1)
    (names_rest (index_uses i) (index_uses j) names.1)
instr_again s (instr.Bit x b i j) h right names =
    bit_again x b i j h.0 h.1 names.0 (names_first (index_uses i) (index_uses j) names.1.1)
    (names_rest (index_uses i) (index_uses j) names.1.1)
instr_again s (instr.Look x i) h right names = look_again x i h names.0 names.1.1
instr_again s (instr.Put i t) h right names =
    or_first _ (put_again s i t h.0 h.1 (all_rest (IsRight s) (index_uses i) (tuple_uses t) right)
    (names_first (index_uses i) (tuple_uses t) names)
    (names_rest (index_uses i) (tuple_uses t) names))
instr_again s (instr.PutBit b i j e) h right names =
    let behind : List Token = spelled_pair i j ++ Sign symbol.Equal ∷ spelled_expr e in
    let later = names_rest (index_uses i) (index_uses j ++ expr_uses e) names.1 in
    or_second (bank_no_put s.kind b behind)
    (or_first _ (put_bit_again b i j e h.0 h.1 h.2 (names_first (index_uses i) (index_uses j ++ expr_uses e) names.1)
    (names_first (index_uses j) (expr_uses e) later)
    (names_rest (index_uses j) (expr_uses e) later)))
instr_again s (instr.PutView i x) h right names =
    let us : List Use = view x ∷ [] in
    let behind : List Token = in_brackets (spelled_index i) ++ Sign symbol.Equal ∷ Identifier x ∷ [] in
    let last = names_rest (index_uses i) us names.1 in
    or_second (view_no_put s.kind behind)
    (or_second (view_no_put_bit behind)
    (put_view_again i x h (names_first (index_uses i) us names.1) last.0))
instr_again s (instr.ViewData x y) h right names = or_first _ (view_data_again x y names.0 names.1.0)
instr_again s (instr.ViewOf x y i) h right names =
    or_second (no_view_data x (in_parentheses (spelled_place y i)) names.0)
    (view_of_again x y i h names.0 names.1.1.0 names.1.1.1)
instr_again s (instr.Each g x e k) h right names =
    each_again g x e k h.0 h.1 names.0 (names_first (expr_uses e) (where_uses k) names.1)
    (names_rest (expr_uses e) (where_uses k) names.1)
instr_again s (instr.First x g k target) h right names = first_again x g k target h names.0 names.1
instr_again s (instr.Next x g target) h right names = next_again x g target names.0
instr_again s (instr.If k target) h right names = or_first _ (if_again k target h names)
instr_again s (instr.IfAll g k target) h right names =
    let ts : List Token = spelled_range g ∷ Sign symbol.Colon ∷ (spelled_condition k ++ spelled_target target) in
    or_second (no_if ts) (if_all_again g k target h names)
instr_again s (instr.Goto target) h right names = goto_again target
instr_again s (instr.Call target) h right names = call_again target
instr_again s (instr.Return x) h right names = return_again x names.0
instr_again s instr.Finish h right names = finish_again

-- what comes of two rules, and then of a third
then_both : {A B C : Type 0} (o : Option A) (f : A → Option B) (g : B → Option C) (x : B) (r : Option C) →
    (o >>= f) ≡ Some x → g x ≡ r → (o >>= λ (y : A). f y >>= g) ≡ r
then_both {A = A} None f g x r e h = absurd cc
then_both {A = A} (Some y) f g x r e h = then_is g e h

pub line_again : (s : Source) (line : Line) → is_line_number line.number ≡ true → HasForm line.instr →
    HasRightUses s line.instr → Names (instr_uses line.instr) → line_form s.kind (spelled_line line) ≡ Some line
unfolding line_form
line_again s line number form right names =
    then_both (identifier_at (spelled_instr line.instr))
    (λ (w : List ℕ × List Token). form_of_keyword s.kind w.0 w.1) _ line.instr _
    (instr_again s line.instr form right names) (if_yes _ number refl)

pub instr_sound : (i : Instr) → HasForm i → Names (instr_uses i) →
    AllByRecursion IsLong (instr_targets i) → Sounds (spelled_instr i)
instr_sound (Let x e) h names fit = ((omega arith, refl), (names.0.0, (tt, expr_sound false e h names.1)))
instr_sound (LetPlace x i e) h names fit =
    let ui = index_uses i in let ue = expr_uses e in
    let place = place_sound false x i names.0 h.0 (names_first ui ue names.1) in
    let value = expr_sound false e h.1 (names_rest ui ue names.1) in
    ((omega arith, refl), between_sound (spelled_place x i) equal (spelled_expr e) place tt value)
instr_sound (Get x i j) h names fit =
    let ui = index_uses i in let uj = index_uses j in
    let place = place_sound false x i names.0 h.0 (names_first ui uj names.1) in
    let register = bracket_sound false j h.1 (names_rest ui uj names.1) in
    let both =
    between_sound (spelled_place x i) equal (Identifier (codes "r") ∷ in_brackets (spelled_index j)) place tt
    ((omega arith, refl), register) in
    ((omega arith, refl), both)
instr_sound (Bit x b i j) h names fit =
    let ui = index_uses i in let uj = index_uses j in
    let pair = pair_sound i j h.0 h.1 (names_first ui uj names.1.1) (names_rest ui uj names.1.1) in
    ((omega arith, refl), (names.0.0, (tt, (bank_sound b, pair))))
instr_sound (Look x i) h names fit =
    let register = bracket_sound false i h names.1.1 in
    ((omega arith, refl), (names.0.0, (tt, ((omega arith, refl), register))))
instr_sound (Put i t) h names fit =
    let ui = index_uses i in let ut = tuple_uses t in
    let register = bracket_sound false i h.0 (names_first ui ut names) in
    let value = tuple_sound t h.1 (names_rest ui ut names) in
    let both = between_sound (in_brackets (spelled_index i)) equal (spelled_tuple t) register tt value in
    ((omega arith, refl), ((omega arith, refl), both))
instr_sound (PutBit b i j e) h names fit =
    let ui = index_uses i in
    let uj = index_uses j in
    let ue = expr_uses e in
    let rest = names_rest ui (uj ++ ue) names.1 in
    let pair = pair_sound i j h.0 h.1 (names_first ui (uj ++ ue) names.1) (names_first uj ue rest) in
    let value = expr_sound false e h.2 (names_rest uj ue rest) in
    ((omega arith, refl), (bank_sound b, between_sound (spelled_pair i j) equal (spelled_expr e) pair tt value))
instr_sound (PutView i x) h names fit =
    let ui = index_uses i in
    let register = bracket_sound false i h (names_first ui (view x ∷ []) names.1) in
    let value = (names_rest ui (view x ∷ []) names.1).0.0 in
    let both = between_sound (in_brackets (spelled_index i)) equal (Identifier x ∷ []) register tt (value, tt) in
    ((omega arith, refl), ((omega arith, refl), both))
instr_sound (ViewData x y) h names fit =
    let inner = parentheses_sound (Identifier y ∷ []) (names.1.0.0, tt) in
    ((omega arith, refl), (names.0.0, (tt, ((omega arith, refl), inner))))
instr_sound (ViewOf x y i) h names fit =
    let place = parentheses_sound (spelled_place y i) (place_sound false y i names.1.1.0 h names.1.1.1) in
    ((omega arith, refl), (names.0.0, (tt, ((omega arith, refl), place))))
instr_sound (Each g x e k) h names fit =
    let ue = expr_uses e in let uk = where_uses k in
    let value = expr_sound true e h.0 (names_first ue uk names.1) in
    let rest =
    all_both IsSound (spelled_expr e) (spelled_where k) value (where_sound k h.1 (names_rest ue uk names.1)) in
    ((omega arith, refl), (range_sound g, (tt, (names.0.0, (tt, (tt, (tt, (tt, rest))))))))
instr_sound (First x g k target) h names fit =
    ((omega arith, refl), (names.0.0, (range_sound g, (tt, condition_target_sound true k target h names.1 fit.0))))
instr_sound (Next x g target) h names fit =
    ((omega arith, refl), (names.0.0, (range_sound g, target_sound target fit.0)))
instr_sound (If k target) h names fit = ((omega arith, refl), condition_target_sound false k target h names fit.0)
instr_sound (IfAll g k target) h names fit = (
  (omega arith, refl),
  ((omega arith, refl), (range_sound g, (tt, condition_target_sound true k target h names fit.0))),
)
instr_sound (Goto target) h names fit = ((omega arith, refl), (fit.0, tt))
instr_sound (Call target) h names fit = ((omega arith, refl), (fit.0, tt))
instr_sound (Return x) h names fit = ((omega arith, refl), (names.0.0, tt))
instr_sound Finish h names fit = ((omega arith, refl), tt)

pub instr_checks : (s : Source) (line : ℕ) (i : Instr) → checked_instr s line i ≡ checked_uses s line (instr_uses i)
instr_checks s line (Let x e) = first_then s line (scalar x) (expr_uses e) _ (expr_checks s line e)
instr_checks s line (LetPlace x i e) =
    both s line (row x ∷ index_uses i) (expr_uses e) _ _ (place_checks s line sort.Row x i) (expr_checks s line e)
instr_checks s line (Get x i j) =
    first_then s line (words x) (index_uses i ++ index_uses j) _ (indexes_checks s line i j)
instr_checks s line (Bit x b i j) =
    first_then s line (scalar x) (BankUse (bank_of b) ∷ (index_uses i ++ index_uses j)) _
    (first_then s line (BankUse (bank_of b)) (index_uses i ++ index_uses j) _ (indexes_checks s line i j))
instr_checks s line (Look x i) =
    first_then s line (view x) (BankUse bank.V ∷ index_uses i) _
    (first_then s line (BankUse bank.V) (index_uses i) _ (index_checks s line i))
instr_checks s line (Put i t) =
    both s line (index_uses i) (tuple_uses t) _ _ (index_checks s line i) (tuple_checks s line t)
instr_checks s line (PutBit b i j e) =
    first_then s line (BankUse (bank_of b))
    (index_uses i ++ (index_uses j ++ expr_uses e)) _ (put_bit_checks s line i j e)
instr_checks s line (PutView i x) =
    first_then s line (BankUse bank.V) (index_uses i ++ view x ∷ []) _
    (both s line (index_uses i) (view x ∷ []) _ _ (index_checks s line i) (alone s line (view x)))
instr_checks s line (ViewData x y) = first_then s line (view x) (words y ∷ []) _ (alone s line (words y))
instr_checks s line (ViewOf x y i) =
    first_then s line (view x) (ViewUse ∷ words y ∷ index_uses i) _
    (first_then s line ViewUse (words y ∷ index_uses i) _ (place_checks s line sort.Words y i))
instr_checks s line (Each g x e k) =
    first_then s line (row x) (expr_uses e ++ where_uses k) _
    (both s line (expr_uses e) (where_uses k) _ _ (expr_checks s line e) (where_checks s line k))
instr_checks s line (First x g k target) = first_then s line (scalar x) (condition_uses k) _ (condition_checks s line k)
instr_checks s line (Next x g target) = alone s line (scalar x)
instr_checks s line (If k target) = condition_checks s line k
instr_checks s line (IfAll g k target) = condition_checks s line k
instr_checks s line (Return x) = alone s line (view x)
instr_checks s line _ = refl
