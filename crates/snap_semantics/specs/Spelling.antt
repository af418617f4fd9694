-- How a listing is spelled, token by token: one spelling for each form. A
-- text is read as the listing whose spelling its lines with tokens have.
use Rattle.std.specs.Prelude.{ℕ, List, [], ◌∷◌, ◌++◌, Option, Some, None, map, codes}
use Rattle.snap_words.specs.declared.kind.KindTag.{KindTag}
use Rattle.snap_words.specs.declared.kind.KindTag.TheVariants as kind
use Rattle.snap_words.specs.declared.kind.Field.{Field}
use Rattle.snap_words.specs.declared.kind.Field.TheVariants as field
use Rattle.snap_semantics.specs.declared.instr.BitBank.{BitBank}
use Rattle.snap_semantics.specs.declared.instr.BitBank.TheVariants as bits
use Rattle.snap_semantics.specs.declared.instr.Comparison.{Comparison}
use Rattle.snap_semantics.specs.declared.instr.Condition.{Condition}
use Rattle.snap_semantics.specs.declared.instr.Condition.TheVariants.{One, Two, Three, Four}
use Rattle.snap_semantics.specs.declared.instr.Expr.{Expr}
use Rattle.snap_semantics.specs.declared.instr.Expr.TheVariants as expr
use Rattle.snap_semantics.specs.declared.instr.Index.{Index}
use Rattle.snap_semantics.specs.declared.instr.Index.TheVariants as index
use Rattle.snap_semantics.specs.declared.instr.Instr.{Instr}
use Rattle.snap_semantics.specs.declared.instr.Instr.TheVariants.{Let, LetPlace, Get, Bit, Look, Put, PutBit, PutView}
use Rattle.snap_semantics.specs.declared.instr.Instr.TheVariants.{ViewData, ViewOf, Each, First, Next, If, IfAll}
use Rattle.snap_semantics.specs.declared.instr.Instr.TheVariants.{Goto, Call, Return, Finish}
use Rattle.snap_semantics.specs.declared.instr.Line.{Line}
use Rattle.snap_semantics.specs.declared.instr.Range.{Range}
use Rattle.snap_semantics.specs.declared.instr.Range.TheVariants as range
use Rattle.snap_semantics.specs.declared.instr.Relation.{Relation}
use Rattle.snap_semantics.specs.declared.instr.Relation.TheVariants as relation
use Rattle.snap_semantics.specs.declared.instr.Term.{Term}
use Rattle.snap_semantics.specs.declared.instr.Term.TheVariants as term
use Rattle.snap_semantics.specs.declared.instr.Tuple.{Tuple}
use Rattle.snap_semantics.specs.declared.instr.Tuple.TheVariants as tuple
use Rattle.snap_semantics.specs.declared.text.Symbol.TheVariants as symbol
use Rattle.snap_semantics.specs.ListingForms.{join_keyword}
use Rattle.snap_semantics.specs.Source.{Name, Source}
use Rattle.snap_semantics.specs.Token.{Token, Identifier, Number, Sign}

-- tokens in round and in square brackets
abbrev pub in_parentheses : List Token → List Token
in_parentheses ts = Sign symbol.OpenParenthesis ∷ (ts ++ Sign symbol.CloseParenthesis ∷ [])

abbrev pub in_brackets : List Token → List Token
in_brackets ts = Sign symbol.OpenBracket ∷ (ts ++ Sign symbol.CloseBracket ∷ [])

abbrev pub spelled_index : Index → List Token
spelled_index (index.Number k) = Number k ∷ []
spelled_index index.Processes = Identifier (codes "n") ∷ []
spelled_index index.Words = Identifier (codes "w") ∷ []
spelled_index index.Me = Identifier (codes "me") ∷ []
spelled_index index.Word = Identifier (codes "word") ∷ []
spelled_index index.Place = Sign symbol.At ∷ []
spelled_index (index.Scalar x) = Identifier x ∷ []

-- a local and a place of it
abbrev pub spelled_place : Name → Index → List Token
spelled_place x i = Identifier x ∷ in_brackets (spelled_index i)

abbrev pub field_keyword : Field → List ℕ
field_keyword field.Datum = codes "data"
field_keyword field.Seq = codes "seq"
field_keyword field.Id = codes "id"
field_keyword field.Toggle = codes "toggle"

abbrev pub spelled_term : Term → List Token
spelled_term (term.Index i) = spelled_index i
spelled_term term.Arg = Identifier (codes "arg") ∷ []
spelled_term (term.Row x i) = spelled_place x i
spelled_term (term.Field f x i) = Identifier (field_keyword f) ∷ in_parentheses (spelled_place x i)
spelled_term (term.Handshake x i j) =
    Identifier (codes "hand") ∷ in_parentheses (spelled_place x i ++ Sign symbol.Comma ∷ spelled_index j)

abbrev pub spelled_expr : Expr → List Token
spelled_expr (expr.Term t) = spelled_term t
spelled_expr (expr.Sum t u) = spelled_term t ++ Sign symbol.Plus ∷ spelled_term u
spelled_expr (expr.Not t) = Identifier (codes "not") ∷ spelled_term t

abbrev pub spelled_relation : Relation → Token
spelled_relation relation.Equal = Sign symbol.Equal
spelled_relation relation.Different = Sign symbol.Different
spelled_relation relation.Less = Sign symbol.Less

abbrev pub spelled_comparison : Comparison → List Token
spelled_comparison k = spelled_term k.left ++ spelled_relation k.relation ∷ spelled_term k.right

abbrev pub spelled_condition : Condition → List Token
spelled_condition (One k) = spelled_comparison k
spelled_condition (Two j k l) = spelled_comparison k ++ Identifier (join_keyword j) ∷ spelled_comparison l
spelled_condition (Three j k l m) =
    spelled_comparison k
    ++ Identifier (join_keyword j) ∷ (spelled_comparison l ++ Identifier (join_keyword j) ∷ spelled_comparison m)
spelled_condition (Four j k l m o) =
    spelled_comparison k ++ Identifier (join_keyword j) ∷ (spelled_comparison l
    ++ Identifier (join_keyword j) ∷ (spelled_comparison m ++ Identifier (join_keyword j) ∷ spelled_comparison o))

abbrev pub spelled_where : Option Condition → List Token
spelled_where None = []
spelled_where (Some k) = Identifier (codes "where") ∷ spelled_condition k

abbrev pub spelled_range : Range → Token
spelled_range range.Processes = Identifier (codes "n")
spelled_range range.Words = Identifier (codes "w")

abbrev pub spelled_target : ℕ → List Token
spelled_target k = Identifier (codes "goto") ∷ Number k ∷ []

abbrev pub spelled_tuple : Tuple → List Token
spelled_tuple (tuple.Seq d q s) =
    in_parentheses (spelled_expr d ++ Sign symbol.Comma ∷ (spelled_expr q ++ Sign symbol.Comma ∷ Identifier s ∷ []))
spelled_tuple (tuple.Bits d h t s) =
    in_parentheses (spelled_expr d ++ Sign symbol.Comma ∷ Identifier h ∷ Sign symbol.Comma
    ∷ (spelled_expr t ++ Sign symbol.Comma ∷ Identifier s ∷ []))
spelled_tuple (tuple.Multi d i t) =
    in_parentheses (spelled_expr d ++ Sign symbol.Comma ∷ (spelled_expr i ++ Sign symbol.Comma ∷ spelled_expr t))

abbrev pub bank_keyword : BitBank → List ℕ
bank_keyword bits.Q = codes "q"
bank_keyword bits.P = codes "p"

-- `[I,J]`
abbrev pub spelled_pair : Index → Index → List Token
spelled_pair i j = in_brackets (spelled_index i ++ Sign symbol.Comma ∷ spelled_index j)

abbrev pub spelled_instr : Instr → List Token
spelled_instr (Let x e) = Identifier (codes "let") ∷ Identifier x ∷ Sign symbol.Equal ∷ spelled_expr e
spelled_instr (LetPlace x i e) = Identifier (codes "let") ∷ (spelled_place x i ++ Sign symbol.Equal ∷ spelled_expr e)
spelled_instr (Get x i j) =
    Identifier (codes "get")
    ∷ (spelled_place x i ++ Sign symbol.Equal ∷ Identifier (codes "r") ∷ in_brackets (spelled_index j))
spelled_instr (Bit x b i j) =
    Identifier (codes "bit") ∷ Identifier x ∷ Sign symbol.Equal ∷ Identifier (bank_keyword b) ∷ spelled_pair i j
spelled_instr (Look x i) =
    Identifier (codes "look") ∷ Identifier x ∷ Sign symbol.Equal ∷ Identifier (codes "v")
    ∷ in_brackets (spelled_index i)
spelled_instr (Put i t) =
    Identifier (codes "put") ∷ Identifier (codes "r")
    ∷ (in_brackets (spelled_index i) ++ Sign symbol.Equal ∷ spelled_tuple t)
spelled_instr (PutBit b i j e) =
    Identifier (codes "put") ∷ Identifier (bank_keyword b) ∷ (spelled_pair i j ++ Sign symbol.Equal ∷ spelled_expr e)
spelled_instr (PutView i x) =
    Identifier (codes "put") ∷ Identifier (codes "v")
    ∷ (in_brackets (spelled_index i) ++ Sign symbol.Equal ∷ Identifier x ∷ [])
spelled_instr (ViewData x y) =
    Identifier (codes "view") ∷ Identifier x ∷ Sign symbol.Equal ∷ Identifier (codes "data")
    ∷ in_parentheses (Identifier y ∷ [])
spelled_instr (ViewOf x y i) =
    Identifier (codes "view") ∷ Identifier x ∷ Sign symbol.Equal ∷ Identifier (codes "view")
    ∷ in_parentheses (spelled_place y i)
spelled_instr (Each g x e k) =
    Identifier (codes "each") ∷ spelled_range g ∷ Sign symbol.Colon ∷ Identifier x ∷ Sign symbol.OpenBracket
    ∷ Sign symbol.At ∷ Sign symbol.CloseBracket ∷ Sign symbol.Equal
    ∷ (spelled_expr e ++ spelled_where k)
spelled_instr (First x g k target) =
    Identifier (codes "first") ∷ Identifier x ∷ spelled_range g ∷ Sign symbol.Colon
    ∷ (spelled_condition k ++ spelled_target target)
spelled_instr (Next x g target) = Identifier (codes "next") ∷ Identifier x ∷ spelled_range g ∷ spelled_target target
spelled_instr (If k target) = Identifier (codes "if") ∷ (spelled_condition k ++ spelled_target target)
spelled_instr (IfAll g k target) =
    Identifier (codes "if") ∷ Identifier (codes "all") ∷ spelled_range g ∷ Sign symbol.Colon
    ∷ (spelled_condition k ++ spelled_target target)
spelled_instr (Goto target) = Identifier (codes "goto") ∷ Number target ∷ []
spelled_instr (Call target) = Identifier (codes "call") ∷ Number target ∷ []
spelled_instr (Return x) = Identifier (codes "return") ∷ Identifier x ∷ []
spelled_instr Finish = Identifier (codes "finish") ∷ []

abbrev pub spelled_line : Line → List Token
spelled_line line = Number line.number ∷ Sign symbol.Colon ∷ spelled_instr line.instr

abbrev pub kind_keyword : KindTag → List ℕ
kind_keyword kind.Seq = codes "seq"
kind_keyword kind.Bits = codes "bit"
kind_keyword kind.Multi = codes "multi"

-- a keyword and names
abbrev pub spelled_names : List ℕ → List Name → List Token
spelled_names keyword names = Identifier keyword ∷ map (λ x. Identifier x) names

abbrev pub spelled_entry : List ℕ → ℕ → List Token
spelled_entry keyword k = Identifier keyword ∷ Number k ∷ []

-- the lines of a listing
abbrev pub spelled_source : Source → List (List Token)
spelled_source s =
    (Identifier (codes "kind") ∷ Identifier (kind_keyword s.kind) ∷ [])
    ∷ spelled_names (codes "scalar") s.scalars
    ∷ spelled_names (codes "row") s.rows
    ∷ spelled_names (codes "words") s.words
    ∷ spelled_names (codes "view") s.views
    ∷ spelled_entry (codes "scan") s.scan
    ∷ spelled_entry (codes "update") s.update
    ∷ map spelled_line s.lines
