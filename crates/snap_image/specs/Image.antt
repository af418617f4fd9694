-- The image of a listing: one string of bytes. Numbers have two or eight bytes, the highest first. A name is said by
-- its slot, its place among the names of its sort from 0; a target by its line number; a form of line by its code.
use Rattle.std.specs.Prelude.{ℕ, ◌+◌, List, ◌∷◌, bytes_eq, if◌then◌else◌, [], ◌++◌, Option, Some, None, length, codes}
use Rattle.std.specs.Prelude.{Bool, ◌&&◌, nat_le, ◌≡◌, true, map}
use Rattle.std.specs.Int.{w64, to_be_bytes, w16}
use Rattle.std.specs.List.{AllByRecursion}
use Rattle.snap_words.specs.declared.kind.Field.{Field}
use Rattle.snap_words.specs.declared.kind.Field.TheVariants as field
use Rattle.snap_semantics.specs.declared.instr.Index.{Index}
use Rattle.snap_semantics.specs.declared.instr.Index.TheVariants as index
use Rattle.snap_semantics.specs.declared.instr.Term.{Term}
use Rattle.snap_semantics.specs.declared.instr.Term.TheVariants as term
use Rattle.snap_semantics.specs.declared.instr.Expr.{Expr}
use Rattle.snap_semantics.specs.declared.instr.Expr.TheVariants as expr
use Rattle.snap_semantics.specs.declared.instr.Comparison.{Comparison}
use Rattle.snap_semantics.specs.declared.instr.Condition.{Condition}
use Rattle.snap_semantics.specs.declared.instr.Condition.TheVariants.{One, Two, Three, Four}
use Rattle.snap_semantics.specs.declared.instr.Tuple.{Tuple}
use Rattle.snap_semantics.specs.declared.instr.Tuple.TheVariants as tuple
use Rattle.snap_semantics.specs.declared.instr.BitBank.{BitBank}
use Rattle.snap_semantics.specs.declared.instr.BitBank.TheVariants as bits
use Rattle.snap_semantics.specs.declared.instr.Instr.{Instr}
use Rattle.snap_semantics.specs.declared.instr.Instr.TheVariants.{Let, LetPlace, Get, Bit, Look, Put, PutBit, PutView}
use Rattle.snap_semantics.specs.declared.instr.Instr.TheVariants.{ViewData, ViewOf, Each, First, Next, If, IfAll, Goto}
use Rattle.snap_semantics.specs.declared.instr.Instr.TheVariants.{Call, Return, Finish}
use Rattle.snap_semantics.specs.declared.instr.Line.{Line}
use Rattle.snap_semantics.specs.Source.{Name, Source}
use Rattle.snap_semantics.specs.Comments.{Comment, first_comment, other_comments, Commented, no_comment}
use Rattle.snap_semantics.specs.ListingForms.{is_line_number}
use Rattle.snap_image.specs.declared.image.TermTag.TheVariants as tag
use Rattle.snap_image.specs.declared.image.TermTag.{TermTag}
use Rattle.snap_image.specs.declared.image.ExprTag.TheVariants as exprs
use Rattle.snap_image.specs.declared.instrs.InstrTag.{InstrTag}
use Rattle.snap_image.specs.declared.instrs.InstrTag.TheVariants as form
use Rattle.snap_image.specs.declared.image.ImageVersion.{ImageVersion}
use Rattle.snap_image.specs.declared.image.ImageVersion.TheVariants as version
use Rattle.snap_image.specs.ImageCodes.{term_code, expr_code, relation_code, join_code, Codes, range_code, version_code}
use Rattle.snap_image.specs.ImageCodes.{kind_code, of_code, versions}

-- the place of a name, counted from 0; as many as there are for a name that is not among them
abbrev pub slot : List Name → Name → ℕ
slot [] x = 0
slot (n ∷ ns) x = if bytes_eq x n then 0 else slot ns x + 1

abbrev pub index_image : Source → Index → List ℕ
index_image s (index.Number k) = term_code tag.Number ∷ to_be_bytes w64 k
index_image s index.Processes = term_code tag.Processes ∷ []
index_image s index.Words = term_code tag.Words ∷ []
index_image s index.Me = term_code tag.Me ∷ []
index_image s index.Word = term_code tag.Word ∷ []
index_image s index.Place = term_code tag.Place ∷ []
index_image s (index.Scalar x) = term_code tag.Scalar ∷ slot s.scalars x ∷ []

abbrev pub field_tag : Field → TermTag
field_tag field.Seq = tag.Seq
field_tag field.Datum = tag.Datum
field_tag field.Toggle = tag.Toggle
field_tag field.Id = tag.Id

abbrev pub term_image : Source → Term → List ℕ
term_image s (term.Index i) = index_image s i
term_image s term.Arg = term_code tag.Arg ∷ []
term_image s (term.Row x i) = term_code tag.Row ∷ slot s.rows x ∷ index_image s i
term_image s (term.Field f x i) = term_code (field_tag f) ∷ slot s.words x ∷ index_image s i
term_image s (term.Handshake x i j) = term_code tag.Handshake ∷ slot s.words x ∷ (index_image s i ++ index_image s j)

abbrev pub expr_image : Source → Expr → List ℕ
expr_image s (expr.Term t) = expr_code exprs.Term ∷ term_image s t
expr_image s (expr.Sum t u) = expr_code exprs.Sum ∷ (term_image s t ++ term_image s u)
expr_image s (expr.Not t) = expr_code exprs.Not ∷ term_image s t

abbrev pub comparison_image : Source → Comparison → List ℕ
comparison_image s k = relation_code k.relation ∷ (term_image s k.left ++ term_image s k.right)

-- how many comparisons, how they are joined, and each of them; one alone has the join `and`
abbrev pub condition_image : Source → Condition → List ℕ
condition_image s (One k) = 1 ∷ 0 ∷ comparison_image s k
condition_image s (Two j k l) = 2 ∷ join_code j ∷ (comparison_image s k ++ comparison_image s l)
condition_image s (Three j k l m) =
    3 ∷ join_code j ∷ (comparison_image s k ++ (comparison_image s l ++ comparison_image s m))
condition_image s (Four j k l m o) =
    4 ∷ join_code j ∷ (comparison_image s k ++ (comparison_image s l ++ (comparison_image s m ++ comparison_image s o)))

abbrev pub where_image : Source → Option Condition → List ℕ
where_image s None = 0 ∷ []
where_image s (Some k) = 1 ∷ condition_image s k

abbrev pub tuple_image : Source → Tuple → List ℕ
tuple_image s (tuple.Seq d q v) = expr_image s d ++ (expr_image s q ++ slot s.views v ∷ [])
tuple_image s (tuple.Bits d h t v) = expr_image s d ++ slot s.rows h ∷ (expr_image s t ++ slot s.views v ∷ [])
tuple_image s (tuple.Multi d i t) = expr_image s d ++ (expr_image s i ++ expr_image s t)

abbrev pub instr_code : InstrTag → ℕ
instr_code form.Let = 1
instr_code form.LetPlace = 2
instr_code form.Get = 3
instr_code form.BitQ = 4
instr_code form.BitP = 5
instr_code form.Look = 6
instr_code form.PutSeq = 7
instr_code form.PutBits = 8
instr_code form.PutMulti = 9
instr_code form.PutQ = 10
instr_code form.PutP = 11
instr_code form.PutView = 12
instr_code form.ViewData = 13
instr_code form.ViewOf = 14
instr_code form.Each = 15
instr_code form.First = 16
instr_code form.Next = 17
instr_code form.If = 18
instr_code form.IfAll = 19
instr_code form.Goto = 20
instr_code form.Call = 21
instr_code form.Return = 22
instr_code form.Finish = 23

abbrev pub instr_tags : Codes InstrTag
instr_tags = record {
  all =
      form.Let ∷ form.LetPlace ∷ form.Get ∷ form.BitQ ∷ form.BitP ∷ form.Look ∷ form.PutSeq
      ∷ form.PutBits ∷ form.PutMulti ∷ form.PutQ
      ∷ form.PutP ∷ form.PutView ∷ form.ViewData ∷ form.ViewOf ∷ form.Each ∷ form.First ∷ form.Next
      ∷ form.If ∷ form.IfAll ∷ form.Goto
      ∷ form.Call ∷ form.Return ∷ form.Finish ∷ [];
  code = instr_code;
}

abbrev pub tuple_tag : Tuple → InstrTag
tuple_tag (tuple.Seq d q v) = form.PutSeq
tuple_tag (tuple.Bits d h t v) = form.PutBits
tuple_tag (tuple.Multi d i t) = form.PutMulti

abbrev pub bit_tag : BitBank → InstrTag
bit_tag bits.Q = form.BitQ
bit_tag bits.P = form.BitP

abbrev pub put_bit_tag : BitBank → InstrTag
put_bit_tag bits.Q = form.PutQ
put_bit_tag bits.P = form.PutP

-- the tag of an instruction
abbrev pub instr_tag : Instr → InstrTag
instr_tag (Let x e) = form.Let
instr_tag (LetPlace x i e) = form.LetPlace
instr_tag (Get x i j) = form.Get
instr_tag (Bit x b i j) = bit_tag b
instr_tag (Look x i) = form.Look
instr_tag (Put i t) = tuple_tag t
instr_tag (PutBit b i j e) = put_bit_tag b
instr_tag (PutView i x) = form.PutView
instr_tag (ViewData x y) = form.ViewData
instr_tag (ViewOf x y i) = form.ViewOf
instr_tag (Each g x e k) = form.Each
instr_tag (First x g k target) = form.First
instr_tag (Next x g target) = form.Next
instr_tag (If k target) = form.If
instr_tag (IfAll g k target) = form.IfAll
instr_tag (Goto target) = form.Goto
instr_tag (Call target) = form.Call
instr_tag (Return x) = form.Return
instr_tag Finish = form.Finish

-- what stands behind its code
abbrev pub operands_image : Source → Instr → List ℕ
operands_image s (Let x e) = slot s.scalars x ∷ expr_image s e
operands_image s (LetPlace x i e) = slot s.rows x ∷ (index_image s i ++ expr_image s e)
operands_image s (Get x i j) = slot s.words x ∷ (index_image s i ++ index_image s j)
operands_image s (Bit x b i j) = slot s.scalars x ∷ (index_image s i ++ index_image s j)
operands_image s (Look x i) = slot s.views x ∷ index_image s i
operands_image s (Put i t) = index_image s i ++ tuple_image s t
operands_image s (PutBit b i j e) = index_image s i ++ (index_image s j ++ expr_image s e)
operands_image s (PutView i x) = index_image s i ++ slot s.views x ∷ []
operands_image s (ViewData x y) = slot s.views x ∷ slot s.words y ∷ []
operands_image s (ViewOf x y i) = slot s.views x ∷ slot s.words y ∷ index_image s i
operands_image s (Each g x e k) = range_code g ∷ slot s.rows x ∷ (expr_image s e ++ where_image s k)
operands_image s (First x g k target) =
    slot s.scalars x ∷ range_code g ∷ (condition_image s k ++ to_be_bytes w16 target)
operands_image s (Next x g target) = slot s.scalars x ∷ range_code g ∷ to_be_bytes w16 target
operands_image s (If k target) = condition_image s k ++ to_be_bytes w16 target
operands_image s (IfAll g k target) = range_code g ∷ (condition_image s k ++ to_be_bytes w16 target)
operands_image s (Goto target) = to_be_bytes w16 target
operands_image s (Call target) = to_be_bytes w16 target
operands_image s (Return x) = slot s.views x ∷ []
operands_image s Finish = []

abbrev pub line_image : Source → Line → List ℕ
line_image s line = to_be_bytes w16 line.number ++ instr_code (instr_tag line.instr) ∷ operands_image s line.instr

-- 0 for none; or 1, how many bytes the comment has, and these bytes
abbrev pub comment_image : Comment → List ℕ
comment_image None = 0 ∷ []
comment_image (Some bytes) = 1 ∷ (to_be_bytes w16 (length bytes) ++ bytes)

-- what stands behind a line: in the second version its comment
abbrev pub behind_line : ImageVersion → Comment → List ℕ
behind_line version.First c = []
behind_line version.Second c = comment_image c

abbrev pub lines_image : ImageVersion → Source → List Line → List Comment → List ℕ
lines_image v s [] cs = []
lines_image v s (line ∷ lines) cs =
    line_image s line ++ (behind_line v (first_comment cs) ++ lines_image v s lines (other_comments cs))

-- each name behind its length
abbrev pub names_image : List Name → List ℕ
names_image [] = []
names_image (x ∷ xs) = length x ∷ (x ++ names_image xs)

-- the names of a sort, behind their count
abbrev pub table_image : List Name → List ℕ
table_image xs = length xs ∷ names_image xs

-- the first four bytes of an image
abbrev pub signature : List ℕ
signature = codes "SNAP"

-- the bytes before the first line
abbrev pub head_image : ImageVersion → Source → List ℕ
head_image v s =
    signature ++ version_code v ∷ kind_code s.kind
    ∷ (table_image s.scalars ++ (table_image s.rows ++ (table_image s.words ++ (table_image s.views
    ++ (to_be_bytes w16 s.scan ++ (to_be_bytes w16 s.update ++ to_be_bytes w16 (length s.lines)))))))

-- the image of a version
abbrev pub image_in : ImageVersion → Commented → List ℕ
image_in v c = head_image v c.source ++ lines_image v c.source c.source.lines c.comments

-- the image of a listing, in the version that is written
abbrev pub image_of : Commented → List ℕ
image_of c = image_in version.Second c

-- the largest line number that the first version has
abbrev pub max_first_number : ℕ
max_first_number = 999

-- a line number of a version
abbrev pub is_number_in : ImageVersion → ℕ → Bool
is_number_in version.First k = nat_le 1 k && nat_le k max_first_number
is_number_in version.Second k = is_line_number k

-- what a version can say: the first has no comments, and fewer line numbers
abbrev pub CanSay : ImageVersion → Commented → Type 0
CanSay version.First c =
    (c.comments ≡ map no_comment c.source.lines)
    × AllByRecursion (λ (line : Line). is_number_in version.First line.number ≡ true) c.source.lines
CanSay version.Second c = Unit {0}

-- the bytes are an image of this listing
abbrev pub IsImageOf : List ℕ → Commented → Type 0
IsImageOf bytes c = (v : ImageVersion) × CanSay v c × (bytes ≡ image_in v c)

-- the bytes begin with the signature of an image, but no version has the byte behind it
abbrev pub HasUnknownVersion : List ℕ → Type 0
HasUnknownVersion bytes =
    (b : ℕ) × (rest : List ℕ) × (bytes ≡ signature ++ b ∷ rest) × (of_code versions b ≡ None)
