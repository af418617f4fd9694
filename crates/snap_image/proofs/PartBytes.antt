-- The images of terms, expressions, conditions and tuples are lists of bytes, all below 256.
use Rattle.std.proofs.Common.{ℕ, ◌<◌, List, ◌++◌, arith, Option, Some, None}
use Rattle.std.specs.Int.{w16, to_be_bytes, w64}
use Rattle.snap_words.specs.declared.kind.Field.{Field}
use Rattle.snap_words.specs.declared.kind.Field.TheVariants as field
use Rattle.snap_semantics.specs.declared.instr.Relation.{Relation}
use Rattle.snap_semantics.specs.declared.instr.Relation.TheVariants as relation
use Rattle.snap_semantics.specs.declared.instr.Join.{Join}
use Rattle.snap_semantics.specs.declared.instr.Join.TheVariants as join
use Rattle.snap_semantics.specs.declared.instr.Range.{Range}
use Rattle.snap_semantics.specs.declared.instr.Range.TheVariants as range
use Rattle.snap_semantics.specs.declared.instr.Index.{Index}
use Rattle.snap_semantics.specs.declared.instr.Index.TheVariants as index
use Rattle.snap_semantics.specs.declared.instr.Term.{Term}
use Rattle.snap_semantics.specs.declared.instr.Term.TheVariants as term
use Rattle.snap_semantics.specs.declared.instr.Expr.{Expr}
use Rattle.snap_semantics.specs.declared.instr.Expr.TheVariants as expr
use Rattle.snap_semantics.specs.declared.instr.Comparison.{Comparison}
use Rattle.snap_semantics.specs.declared.instr.Condition.{Condition}
use Rattle.snap_semantics.specs.declared.instr.Condition.TheVariants.{One}
use Rattle.snap_semantics.specs.declared.instr.Tuple.{Tuple}
use Rattle.snap_semantics.specs.declared.instr.Tuple.TheVariants as tuple
use Rattle.snap_semantics.specs.Source.{Name, Source}
use Rattle.snap_listing.proofs.Alls.{all_both}
use Rattle.snap_image.specs.Laws.{AreBytes}
use Rattle.snap_image.specs.Image.{slot, field_tag, index_image, term_image, expr_image, comparison_image}
use Rattle.snap_image.specs.Image.{condition_image, where_image, tuple_image}
use Rattle.snap_image.specs.Widths.{IsTable}
use Rattle.snap_image.specs.ImageCodes.{relation_code, join_code, range_code, term_code}
use Rattle.snap_image.proofs.Slots.{slot_within}
use Rattle.snap_image.proofs.Tables.{Tables}

abbrev pub IsByte : ℕ → Type 0
IsByte b = b < 256

pub appended : (x y : List ℕ) → AreBytes x → AreBytes y → AreBytes (x ++ y)
appended x y g h = all_both IsByte x y g h

pub short_bytes : (k : ℕ) → AreBytes (to_be_bytes w16 k)
short_bytes k = search arith

long_bytes : (k : ℕ) → AreBytes (to_be_bytes w64 k)
long_bytes k = search arith parts 8

pub slot_is_byte : (names : List Name) (x : Name) → IsTable names → IsByte (slot names x)
slot_is_byte names x tables = let within = slot_within names x in omega (arith, within, tables.0)

relation_is_byte : (k : Relation) → IsByte (relation_code k)
relation_is_byte relation.Equal = omega arith
relation_is_byte _ = omega arith

join_is_byte : (j : Join) → IsByte (join_code j)
join_is_byte join.And = omega arith
join_is_byte join.Or = omega arith

pub range_is_byte : (over : Range) → IsByte (range_code over)
range_is_byte range.Processes = omega arith
range_is_byte range.Words = omega arith

field_is_byte : (f : Field) → IsByte (term_code (field_tag f))
field_is_byte field.Seq = omega arith
field_is_byte _ = omega arith

ruleset parts_are_bytes = (appended, slot_is_byte, long_bytes, relation_is_byte, join_is_byte, field_is_byte, arith)

pub index_bytes : (g : Source) → Tables g → (i : Index) → AreBytes (index_image g i)
index_bytes g tables (index.Number k) = (omega arith, long_bytes k)
index_bytes g tables _ = search parts_are_bytes

term_bytes : (g : Source) → Tables g → (t : Term) → AreBytes (term_image g t)
term_bytes g tables (term.Index i) = index_bytes g tables i
term_bytes g tables _ = search (index_bytes, parts_are_bytes)

pub expr_bytes : (g : Source) → Tables g → (x : Expr) → AreBytes (expr_image g x)
expr_bytes g tables (expr.Term t) = (omega arith, term_bytes g tables t)
expr_bytes g tables _ = search (term_bytes, parts_are_bytes)

comparison_bytes : (g : Source) → Tables g → (k : Comparison) → AreBytes (comparison_image g k)
comparison_bytes g tables k = search (term_bytes, parts_are_bytes)

pub condition_bytes : (g : Source) → Tables g → (k : Condition) → AreBytes (condition_image g k)
condition_bytes g tables (One k) = (omega arith, (omega arith, comparison_bytes g tables k))
condition_bytes g tables _ = search (comparison_bytes, parts_are_bytes)

pub where_bytes : (g : Source) → Tables g → (k : Option Condition) → AreBytes (where_image g k)
where_bytes g tables None = (omega arith, tt)
where_bytes g tables (Some k) = (omega arith, condition_bytes g tables k)

pub tuple_bytes : (g : Source) → Tables g → (t : Tuple) → AreBytes (tuple_image g t)
tuple_bytes g tables (tuple.Multi m n o) = search (expr_bytes, appended)
tuple_bytes g tables _ = search (expr_bytes, parts_are_bytes) depth 9
