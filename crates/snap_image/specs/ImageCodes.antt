-- The codes of an image, as definitions: a table (`Codes`) for each type, in which the value of a byte is looked up.
use Rattle.std.specs.Prelude.{ℕ, List, ◌∷◌, Option, Some, None, nat_eq, if◌then◌else◌, []}
use Rattle.snap_words.specs.declared.kind.KindTag.{KindTag}
use Rattle.snap_words.specs.declared.kind.KindTag.TheVariants as kind
use Rattle.snap_semantics.specs.declared.instr.Relation.{Relation}
use Rattle.snap_semantics.specs.declared.instr.Relation.TheVariants as relation
use Rattle.snap_semantics.specs.declared.instr.Join.{Join}
use Rattle.snap_semantics.specs.declared.instr.Join.TheVariants as join
use Rattle.snap_semantics.specs.declared.instr.Range.{Range}
use Rattle.snap_semantics.specs.declared.instr.Range.TheVariants as range
use Rattle.snap_image.specs.declared.image.ImageVersion.{ImageVersion}
use Rattle.snap_image.specs.declared.image.ImageVersion.TheVariants as version
use Rattle.snap_image.specs.declared.image.TermTag.{TermTag}
use Rattle.snap_image.specs.declared.image.TermTag.TheVariants as term
use Rattle.snap_image.specs.declared.image.ExprTag.{ExprTag}
use Rattle.snap_image.specs.declared.image.ExprTag.TheVariants as expr

-- a table of codes: what has one, and which
pub record Codes (A : Type 0) : Type 0 where
  pub all : List A
  pub code : A → ℕ

-- the first of these with this code
abbrev pub coded : {A : Type 0} → (A → ℕ) → List A → ℕ → Option A
coded code [] b = None
coded code (x ∷ xs) b = if nat_eq (code x) b then Some x else coded code xs b

-- what a byte is the code of
abbrev pub of_code : {A : Type 0} → Codes A → ℕ → Option A
of_code codes b = coded codes.code codes.all b

abbrev pub version_code : ImageVersion → ℕ
version_code version.First = 1
version_code version.Second = 2

abbrev pub versions : Codes ImageVersion
versions = record { all = version.First ∷ version.Second ∷ []; code = version_code }

abbrev pub kind_code : KindTag → ℕ
kind_code kind.Seq = 0
kind_code kind.Bits = 1
kind_code kind.Multi = 2

abbrev pub kinds : Codes KindTag
kinds = record { all = kind.Seq ∷ kind.Bits ∷ kind.Multi ∷ []; code = kind_code }

abbrev pub term_code : TermTag → ℕ
term_code term.Number = 0
term_code term.Processes = 1
term_code term.Words = 2
term_code term.Me = 3
term_code term.Word = 4
term_code term.Arg = 5
term_code term.Place = 6
term_code term.Scalar = 7
term_code term.Row = 8
term_code term.Seq = 9
term_code term.Datum = 10
term_code term.Handshake = 11
term_code term.Toggle = 12
term_code term.Id = 13

abbrev pub terms : Codes TermTag
terms = record {
  all =
      term.Number ∷ term.Processes ∷ term.Words ∷ term.Me ∷ term.Word ∷ term.Arg ∷ term.Place
      ∷ term.Scalar ∷ term.Row ∷ term.Seq
      ∷ term.Datum ∷ term.Handshake ∷ term.Toggle ∷ term.Id ∷ [];
  code = term_code;
}

abbrev pub expr_code : ExprTag → ℕ
expr_code expr.Term = 0
expr_code expr.Sum = 1
expr_code expr.Not = 2

abbrev pub exprs : Codes ExprTag
exprs = record { all = expr.Term ∷ expr.Sum ∷ expr.Not ∷ []; code = expr_code }

abbrev pub relation_code : Relation → ℕ
relation_code relation.Equal = 0
relation_code relation.Different = 1
relation_code relation.Less = 2

abbrev pub relations : Codes Relation
relations = record { all = relation.Equal ∷ relation.Different ∷ relation.Less ∷ []; code = relation_code }

abbrev pub join_code : Join → ℕ
join_code join.And = 0
join_code join.Or = 1

abbrev pub joins : Codes Join
joins = record { all = join.And ∷ join.Or ∷ []; code = join_code }

abbrev pub range_code : Range → ℕ
range_code range.Processes = 0
range_code range.Words = 1

abbrev pub ranges : Codes Range
ranges = record { all = range.Processes ∷ range.Words ∷ []; code = range_code }
