-- The grammar of the numbered lines of a listing: terms, conditions, tuples and instructions. Names
-- are any identifiers that are not reserved; one of more than eight letters is kept by its first nine.
use Rattle.std.specs.Prelude.{ℕ, Bool, true, false, ◌&&◌, List, [], ◌∷◌, take, Option, Some}
use Rattle.std.specs.Prelude.{None, nat_le, bytes_eq, codes, if◌then◌else◌}
use Rattle.std.specs.List.{list_any}
use Rattle.snap_words.specs.declared.kind.KindTag.{KindTag}
use Rattle.snap_words.specs.declared.kind.KindTag.TheVariants as kind
use Rattle.snap_words.specs.declared.kind.Field.{Field}
use Rattle.snap_words.specs.declared.kind.Field.TheVariants as field
use Rattle.snap_semantics.specs.declared.instr.BitBank.{BitBank}
use Rattle.snap_semantics.specs.declared.instr.BitBank.TheVariants as bits
use Rattle.snap_semantics.specs.declared.instr.Comparison.{Comparison}
use Rattle.snap_semantics.specs.declared.instr.Condition.{Condition}
use Rattle.snap_semantics.specs.declared.instr.Condition.TheVariants.{One, Two, Three, Four}
use Rattle.snap_semantics.specs.declared.instr.Expr.{Expr}
use Rattle.snap_semantics.specs.declared.instr.Expr.TheVariants as expr
use Rattle.snap_semantics.specs.declared.instr.Index.{Index}
use Rattle.snap_semantics.specs.declared.instr.Index.TheVariants as index
use Rattle.snap_semantics.specs.declared.instr.Instr.{Instr}
use Rattle.snap_semantics.specs.declared.instr.Instr.TheVariants as instr
use Rattle.snap_semantics.specs.declared.instr.Join.{Join}
use Rattle.snap_semantics.specs.declared.instr.Join.TheVariants.{And, Or}
use Rattle.snap_semantics.specs.declared.instr.Line.{Line}
use Rattle.snap_semantics.specs.declared.instr.Range.{Range}
use Rattle.snap_semantics.specs.declared.instr.Range.TheVariants as range
use Rattle.snap_semantics.specs.declared.instr.Relation.{Relation}
use Rattle.snap_semantics.specs.declared.instr.Relation.TheVariants as relation
use Rattle.snap_semantics.specs.declared.instr.Term.{Term}
use Rattle.snap_semantics.specs.declared.instr.Term.TheVariants as term
use Rattle.snap_semantics.specs.declared.instr.Tuple.{Tuple}
use Rattle.snap_semantics.specs.declared.instr.Tuple.TheVariants as tuple
use Rattle.snap_semantics.specs.declared.text.Symbol.TheVariants as symbol
use Rattle.snap_semantics.specs.Rules.{◌>>=◌, or_else, Found, number_at, identifier_at, keyword_at, symbol_at, end_at}
use Rattle.snap_semantics.specs.Source.{Name}
use Rattle.snap_semantics.specs.Token.{Token}

-- the reserved words, which are no names
abbrev pub reserved_words : List (List ℕ)
reserved_words =
    codes "kind" ∷ codes "seq" ∷ codes "bit" ∷ codes "multi" ∷ codes "scalar" ∷ codes "row"
    ∷ codes "words" ∷ codes "view"
    ∷ codes "scan" ∷ codes "update" ∷ codes "let" ∷ codes "get" ∷ codes "look" ∷ codes "put"
    ∷ codes "each" ∷ codes "first"
    ∷ codes "next" ∷ codes "if" ∷ codes "all" ∷ codes "goto" ∷ codes "call" ∷ codes "return"
    ∷ codes "finish" ∷ codes "where"
    ∷ codes "and" ∷ codes "or" ∷ codes "not" ∷ codes "n" ∷ codes "w" ∷ codes "me"
    ∷ codes "word" ∷ codes "arg" ∷ codes "r"
    ∷ codes "q" ∷ codes "p" ∷ codes "v" ∷ codes "data" ∷ codes "hand" ∷ codes "toggle" ∷ codes "id" ∷ []

abbrev pub is_reserved : List ℕ → Bool
is_reserved w = list_any (bytes_eq w) reserved_words

-- an identifier in a name's place
abbrev pub name_of_identifier : List ℕ → Option Name
name_of_identifier w = if is_reserved w then None else Some (take 9 w)

unfoldable pub name_at : List Token → Found Name
name_at ts = do
  w ← identifier_at ts
  x ← name_of_identifier w.0
  Some (x, w.1)

-- An index: a number, `n`, `w`, `me`, `word`, `@` where it may stand, or a scalar.
abbrev pub index_of_identifier : List ℕ → Option Index
index_of_identifier w =
    if bytes_eq w (codes "n") then Some index.Processes else
    if bytes_eq w (codes "w") then Some index.Words else
    if bytes_eq w (codes "me") then Some index.Me else
    if bytes_eq w (codes "word") then Some index.Word else
    name_of_identifier w >>= λ x. Some (index.Scalar x)

unfoldable pub number_index : List Token → Found Index
number_index ts = do
  k ← number_at ts
  Some (index.Number k.0, k.1)

unfoldable pub place_index : Bool → List Token → Found Index
place_index in_quantifier ts = do
  rest ← symbol_at symbol.At ts
  if in_quantifier then Some (index.Place, rest) else None

unfoldable pub identifier_index : List Token → Found Index
identifier_index ts = do
  w ← identifier_at ts
  i ← index_of_identifier w.0
  Some (i, w.1)

unfoldable pub index_at : Bool → List Token → Found Index
index_at q ts = or_else (number_index ts) (or_else (place_index q ts) (identifier_index ts))

-- `[I]`
unfoldable pub place_at : Bool → List Token → Found Index
place_at q ts = do
  a ← symbol_at symbol.OpenBracket ts
  i ← index_at q a
  b ← symbol_at symbol.CloseBracket i.1
  Some (i.0, b)

-- a local's name and `[I]`
unfoldable pub named_place_at : Bool → List Token → Found (Name × Index)
named_place_at q ts = do
  x ← name_at ts
  i ← place_at q x.1
  Some ((x.0, i.0), i.1)

-- A term: `arg`, `R[I]`, a field or a handshake bit of a word, or an index.
unfoldable pub arg_term : List Token → Found Term
arg_term ts = do
  rest ← keyword_at (codes "arg") ts
  Some (term.Arg, rest)

unfoldable pub row_term : Bool → List Token → Found Term
row_term q ts = do
  x ← named_place_at q ts
  Some (term.Row x.0.0 x.0.1, x.1)

-- the fields of one number
abbrev pub field_of_keyword : List ℕ → Option Field
field_of_keyword w =
    if bytes_eq w (codes "seq") then Some field.Seq else
    if bytes_eq w (codes "data") then Some field.Datum else
    if bytes_eq w (codes "toggle") then Some field.Toggle else
    if bytes_eq w (codes "id") then Some field.Id else None

-- `seq(W[I])`, and so `data`, `toggle` and `id`
unfoldable pub field_term : Bool → List Token → Found Term
field_term q ts = do
  w ← identifier_at ts
  f ← field_of_keyword w.0
  a ← symbol_at symbol.OpenParenthesis w.1
  x ← named_place_at q a
  b ← symbol_at symbol.CloseParenthesis x.1
  Some (term.Field f x.0.0 x.0.1, b)

-- `handshake(W[I],J)`
unfoldable pub handshake_term : Bool → List Token → Found Term
handshake_term q ts = do
  a ← keyword_at (codes "hand") ts
  b ← symbol_at symbol.OpenParenthesis a
  x ← named_place_at q b
  c ← symbol_at symbol.Comma x.1
  j ← index_at q c
  d ← symbol_at symbol.CloseParenthesis j.1
  Some (term.Handshake x.0.0 x.0.1 j.0, d)

unfoldable pub index_term : Bool → List Token → Found Term
index_term q ts = do
  i ← index_at q ts
  Some (term.Index i.0, i.1)

unfoldable pub term_at : Bool → List Token → Found Term
term_at q ts =
    or_else (arg_term ts)
    (or_else (row_term q ts) (or_else (field_term q ts) (or_else (handshake_term q ts) (index_term q ts))))

-- An expression: `not` term, term `+` term, or a term.
unfoldable pub not_expr : Bool → List Token → Found Expr
not_expr q ts = do
  a ← keyword_at (codes "not") ts
  t ← term_at q a
  Some (expr.Not t.0, t.1)

-- `+` and a term behind the first one
unfoldable pub plus_expr : Bool → Term → List Token → Found Expr
plus_expr q t ts = do
  a ← symbol_at symbol.Plus ts
  u ← term_at q a
  Some (expr.Sum t u.0, u.1)

unfoldable pub term_expr : Bool → List Token → Found Expr
term_expr q ts = do
  t ← term_at q ts
  or_else (plus_expr q t.0 t.1) (Some (expr.Term t.0, t.1))

unfoldable pub expr_at : Bool → List Token → Found Expr
expr_at q ts = or_else (not_expr q ts) (term_expr q ts)

-- A condition: one to four comparisons, all joined by `and` or all by `or`.
unfoldable pub relation_at : List Token → Found Relation
relation_at ts =
    or_else (symbol_at symbol.Equal ts >>= λ rest. Some (relation.Equal, rest))
    (or_else (symbol_at symbol.Different ts >>= λ rest. Some (relation.Different, rest))
    (symbol_at symbol.Less ts >>= λ rest. Some (relation.Less, rest)))

unfoldable pub comparison_at : Bool → List Token → Found Comparison
comparison_at q ts = do
  t ← term_at q ts
  r ← relation_at t.1
  u ← term_at q r.1
  Some (record { left = t.0; relation = r.0; right = u.0 }, u.1)

abbrev pub join_keyword : Join → List ℕ
join_keyword And = codes "and"
join_keyword Or = codes "or"

-- a comparison behind `and` or `or`
unfoldable pub joined_at : Bool → Join → List Token → Found Comparison
joined_at q j ts = do
  a ← keyword_at (join_keyword j) ts
  comparison_at q a

unfoldable pub third_on : Bool → Join → Comparison → Comparison → Comparison → List Token → Found Condition
third_on q j k l m ts =
    or_else (joined_at q j ts >>= λ o. Some (Four j k l m o.0, o.1)) (Some (Three j k l m, ts))

unfoldable pub second_on : Bool → Join → Comparison → Comparison → List Token → Found Condition
second_on q j k l ts =
    or_else (joined_at q j ts >>= λ m. third_on q j k l m.0 m.1) (Some (Two j k l, ts))

unfoldable pub first_on : Bool → Comparison → List Token → Found Condition
first_on q k ts =
    or_else (joined_at q And ts >>= λ l. second_on q And k l.0 l.1)
    (or_else (joined_at q Or ts >>= λ l. second_on q Or k l.0 l.1) (Some (One k, ts)))

unfoldable pub condition_at : Bool → List Token → Found Condition
condition_at q ts = do
  k ← comparison_at q ts
  first_on q k.0 k.1

-- `n` or `w`
unfoldable pub range_at : List Token → Found Range
range_at ts =
    or_else (keyword_at (codes "n") ts >>= λ rest. Some (range.Processes, rest))
    (keyword_at (codes "w") ts >>= λ rest. Some (range.Words, rest))

-- `goto N`
unfoldable pub target_at : List Token → Found ℕ
target_at ts = do
  a ← keyword_at (codes "goto") ts
  number_at a

-- Instructions, behind their first keyword; each to the end of the line.
-- `let X = E`
unfoldable pub let_form : List Token → Option Instr
let_form ts = do
  x ← name_at ts
  a ← symbol_at symbol.Equal x.1
  e ← expr_at false a
  end ← end_at e.1
  Some (instr.Let x.0 e.0)

-- `let R[I] = E`
unfoldable pub let_place_form : List Token → Option Instr
let_place_form ts = do
  x ← named_place_at false ts
  a ← symbol_at symbol.Equal x.1
  e ← expr_at false a
  end ← end_at e.1
  Some (instr.LetPlace x.0.0 x.0.1 e.0)

-- `get W[I] = r[J]`
unfoldable pub get_form : List Token → Option Instr
get_form ts = do
  x ← named_place_at false ts
  a ← symbol_at symbol.Equal x.1
  b ← keyword_at (codes "r") a
  j ← place_at false b
  end ← end_at j.1
  Some (instr.Get x.0.0 x.0.1 j.0)

-- `[I,J]`
unfoldable pub pair_at : List Token → Found (Index × Index)
pair_at ts = do
  a ← symbol_at symbol.OpenBracket ts
  i ← index_at false a
  b ← symbol_at symbol.Comma i.1
  j ← index_at false b
  c ← symbol_at symbol.CloseBracket j.1
  Some ((i.0, j.0), c)

-- `q` or `p`
unfoldable pub bit_bank_at : List Token → Found BitBank
bit_bank_at ts =
    or_else (keyword_at (codes "q") ts >>= λ rest. Some (bits.Q, rest))
    (keyword_at (codes "p") ts >>= λ rest. Some (bits.P, rest))

-- `bit X = q[I,J]`, and so `p`
unfoldable pub bit_form : List Token → Option Instr
bit_form ts = do
  x ← name_at ts
  a ← symbol_at symbol.Equal x.1
  b ← bit_bank_at a
  i ← pair_at b.1
  end ← end_at i.1
  Some (instr.Bit x.0 b.0 i.0.0 i.0.1)

-- `look S = v[I]`
unfoldable pub look_form : List Token → Option Instr
look_form ts = do
  x ← name_at ts
  a ← symbol_at symbol.Equal x.1
  b ← keyword_at (codes "v") a
  i ← place_at false b
  end ← end_at i.1
  Some (instr.Look x.0 i.0)

-- `(E, E, S)`
unfoldable pub seq_tuple_at : List Token → Found Tuple
seq_tuple_at ts = do
  a ← symbol_at symbol.OpenParenthesis ts
  d ← expr_at false a
  b ← symbol_at symbol.Comma d.1
  q ← expr_at false b
  c ← symbol_at symbol.Comma q.1
  s ← name_at c
  e ← symbol_at symbol.CloseParenthesis s.1
  Some (tuple.Seq d.0 q.0 s.0, e)

-- `(E, R, E, S)`
unfoldable pub bits_tuple_at : List Token → Found Tuple
bits_tuple_at ts = do
  a ← symbol_at symbol.OpenParenthesis ts
  d ← expr_at false a
  b ← symbol_at symbol.Comma d.1
  h ← name_at b
  c ← symbol_at symbol.Comma h.1
  t ← expr_at false c
  f ← symbol_at symbol.Comma t.1
  s ← name_at f
  e ← symbol_at symbol.CloseParenthesis s.1
  Some (tuple.Bits d.0 h.0 t.0 s.0, e)

-- `(E, E, E)`
unfoldable pub multi_tuple_at : List Token → Found Tuple
multi_tuple_at ts = do
  a ← symbol_at symbol.OpenParenthesis ts
  d ← expr_at false a
  b ← symbol_at symbol.Comma d.1
  i ← expr_at false b
  c ← symbol_at symbol.Comma i.1
  t ← expr_at false c
  e ← symbol_at symbol.CloseParenthesis t.1
  Some (tuple.Multi d.0 i.0 t.0, e)

-- A tuple of three that ends with a name alone is of kind seq where the listing is, and else of kind multi.
unfoldable pub triple_at : KindTag → List Token → Found Tuple
triple_at kind.Seq ts = or_else (seq_tuple_at ts) (multi_tuple_at ts)
triple_at kind.Bits ts = multi_tuple_at ts
triple_at kind.Multi ts = multi_tuple_at ts

-- a tuple of any kind
unfoldable pub tuple_at : KindTag → List Token → Found Tuple
tuple_at k ts = or_else (bits_tuple_at ts) (triple_at k ts)

-- `put r[I] = tuple`
unfoldable pub put_form : KindTag → List Token → Option Instr
put_form k ts = do
  a ← keyword_at (codes "r") ts
  i ← place_at false a
  b ← symbol_at symbol.Equal i.1
  t ← tuple_at k b
  end ← end_at t.1
  Some (instr.Put i.0 t.0)

-- `put q[I,J] = E`, and so `p`
unfoldable pub put_bit_form : List Token → Option Instr
put_bit_form ts = do
  b ← bit_bank_at ts
  i ← pair_at b.1
  a ← symbol_at symbol.Equal i.1
  e ← expr_at false a
  end ← end_at e.1
  Some (instr.PutBit b.0 i.0.0 i.0.1 e.0)

-- `put v[I] = S`
unfoldable pub put_view_form : List Token → Option Instr
put_view_form ts = do
  a ← keyword_at (codes "v") ts
  i ← place_at false a
  b ← symbol_at symbol.Equal i.1
  x ← name_at b
  end ← end_at x.1
  Some (instr.PutView i.0 x.0)

-- `view S = data(W)`
unfoldable pub view_data_form : List Token → Option Instr
view_data_form ts = do
  x ← name_at ts
  a ← symbol_at symbol.Equal x.1
  b ← keyword_at (codes "data") a
  c ← symbol_at symbol.OpenParenthesis b
  y ← name_at c
  d ← symbol_at symbol.CloseParenthesis y.1
  end ← end_at d
  Some (instr.ViewData x.0 y.0)

-- `view S = view(W[I])`
unfoldable pub view_of_form : List Token → Option Instr
view_of_form ts = do
  x ← name_at ts
  a ← symbol_at symbol.Equal x.1
  b ← keyword_at (codes "view") a
  c ← symbol_at symbol.OpenParenthesis b
  y ← named_place_at false c
  d ← symbol_at symbol.CloseParenthesis y.1
  end ← end_at d
  Some (instr.ViewOf x.0 y.0.0 y.0.1)

-- `where C`, or nothing
unfoldable pub where_at : List Token → Found (Option Condition)
where_at ts =
    or_else (keyword_at (codes "where") ts >>= λ a. condition_at true a >>= λ k. Some (Some k.0, k.1)) (Some (None, ts))

-- `each G: R[@] = E where C`
unfoldable pub each_form : List Token → Option Instr
each_form ts = do
  g ← range_at ts
  a ← symbol_at symbol.Colon g.1
  x ← name_at a
  b ← symbol_at symbol.OpenBracket x.1
  c ← symbol_at symbol.At b
  d ← symbol_at symbol.CloseBracket c
  f ← symbol_at symbol.Equal d
  e ← expr_at true f
  k ← where_at e.1
  end ← end_at k.1
  Some (instr.Each g.0 x.0 e.0 k.0)

-- `first X G: C goto N`
unfoldable pub first_form : List Token → Option Instr
first_form ts = do
  x ← name_at ts
  g ← range_at x.1
  a ← symbol_at symbol.Colon g.1
  k ← condition_at true a
  target ← target_at k.1
  end ← end_at target.1
  Some (instr.First x.0 g.0 k.0 target.0)

-- `next X G goto N`
unfoldable pub next_form : List Token → Option Instr
next_form ts = do
  x ← name_at ts
  g ← range_at x.1
  target ← target_at g.1
  end ← end_at target.1
  Some (instr.Next x.0 g.0 target.0)

-- `if C goto N`
unfoldable pub if_form : List Token → Option Instr
if_form ts = do
  k ← condition_at false ts
  target ← target_at k.1
  end ← end_at target.1
  Some (instr.If k.0 target.0)

-- `if all G: C goto N`
unfoldable pub if_all_form : List Token → Option Instr
if_all_form ts = do
  a ← keyword_at (codes "all") ts
  g ← range_at a
  b ← symbol_at symbol.Colon g.1
  k ← condition_at true b
  target ← target_at k.1
  end ← end_at target.1
  Some (instr.IfAll g.0 k.0 target.0)

-- `goto N`
unfoldable pub goto_form : List Token → Option Instr
goto_form ts = do
  target ← number_at ts
  end ← end_at target.1
  Some (instr.Goto target.0)

-- `call N`
unfoldable pub call_form : List Token → Option Instr
call_form ts = do
  target ← number_at ts
  end ← end_at target.1
  Some (instr.Call target.0)

-- `return S`
unfoldable pub return_form : List Token → Option Instr
return_form ts = do
  x ← name_at ts
  end ← end_at x.1
  Some (instr.Return x.0)

-- `finish`
unfoldable pub finish_form : List Token → Option Instr
finish_form ts = do
  end ← end_at ts
  Some instr.Finish

-- the forms that begin with this keyword
unfoldable pub form_of_keyword : KindTag → List ℕ → List Token → Option Instr
form_of_keyword k w ts =
    if bytes_eq w (codes "let") then or_else (let_form ts) (let_place_form ts) else
    if bytes_eq w (codes "get") then get_form ts else
    if bytes_eq w (codes "bit") then bit_form ts else
    if bytes_eq w (codes "look") then look_form ts else
    if bytes_eq w (codes "put") then or_else (put_form k ts) (or_else (put_bit_form ts) (put_view_form ts)) else
    if bytes_eq w (codes "view") then or_else (view_data_form ts) (view_of_form ts) else
    if bytes_eq w (codes "each") then each_form ts else
    if bytes_eq w (codes "first") then first_form ts else
    if bytes_eq w (codes "next") then next_form ts else
    if bytes_eq w (codes "if") then or_else (if_form ts) (if_all_form ts) else
    if bytes_eq w (codes "goto") then goto_form ts else
    if bytes_eq w (codes "call") then call_form ts else
    if bytes_eq w (codes "return") then return_form ts else
    if bytes_eq w (codes "finish") then finish_form ts else None

abbrev pub max_line_number : ℕ
max_line_number = 9999

-- a line number
abbrev pub is_line_number : ℕ → Bool
is_line_number k = nat_le 1 k && nat_le k max_line_number

-- `N: instruction`, in a listing of this kind
unfoldable pub line_form : KindTag → List Token → Option Line
line_form g ts = do
  k ← number_at ts
  a ← symbol_at symbol.Colon k.1
  w ← identifier_at a
  i ← form_of_keyword g w.0 w.1
  if is_line_number k.0 then Some (record { number = k.0; instr = i }) else None
