-- The image of a listing is a list of bytes, all below 256, where its comments are.
use Rattle.std.proofs.Common.{arith, length, Some, None, ◌∷◌, List, ◌≡◌, ℕ, true, []}
use Rattle.std.specs.List.{AllByRecursion, list_all}
use Rattle.std.proofs.lemmas.Bool.{and_parts}
use Rattle.snap_words.specs.declared.kind.KindTag.{KindTag}
use Rattle.snap_words.specs.declared.kind.KindTag.TheVariants as kind
use Rattle.snap_semantics.specs.declared.instr.Line.{Line}
use Rattle.snap_semantics.specs.Comments.{Comment}
use Rattle.snap_semantics.specs.Source.{Source, Name}
use Rattle.snap_semantics.specs.Token.{is_letter}
use Rattle.snap_semantics.specs.IsListing.{IsName}
use Rattle.snap_image.specs.declared.instrs.InstrTag.{InstrTag}
use Rattle.snap_image.specs.declared.instrs.InstrTag.TheVariants as tag
use Rattle.snap_image.specs.declared.image.ImageVersion.{ImageVersion}
use Rattle.snap_image.specs.declared.image.ImageVersion.TheVariants as version
use Rattle.snap_image.specs.ImageCodes.{kind_code, version_code}
use Rattle.snap_image.specs.Image.{instr_code, comment_image, behind_line, line_image, lines_image, names_image}
use Rattle.snap_image.specs.Image.{table_image, head_image}
use Rattle.snap_image.specs.Laws.{AreBytes, HasBytes, ImagesAreBytes}
use Rattle.snap_image.specs.Widths.{IsTable}
use Rattle.snap_image.proofs.PartBytes.{IsByte, appended, short_bytes}
use Rattle.snap_image.proofs.Tables.{Tables, short_name, tables_of}
use Rattle.snap_image.proofs.InstrLaws.{operands_bytes}

kind_is_byte : (k : KindTag) → IsByte (kind_code k)
kind_is_byte kind.Seq = omega arith
kind_is_byte _ = omega arith

form_is_byte : (f : InstrTag) → IsByte (instr_code f)
form_is_byte tag.Let = omega arith
form_is_byte _ = omega arith

comment_bytes : (c : Comment) → HasBytes c → AreBytes (comment_image c)
comment_bytes None h = (omega arith, tt)
comment_bytes (Some xs) h = (omega arith, search (appended, short_bytes))

behind_line_bytes : (v : ImageVersion) (c : Comment) → HasBytes c → AreBytes (behind_line v c)
behind_line_bytes version.First c h = tt
behind_line_bytes version.Second c h = comment_bytes c h

line_bytes : (g : Source) → Tables g → (x : Line) → AreBytes (line_image g x)
line_bytes g tables x = search (appended, short_bytes, form_is_byte, operands_bytes)

-- where the comments are used up there is none
lines_bytes : (v : ImageVersion) (g : Source) → Tables g → (xs : List Line) (cs : List Comment) →
    AllByRecursion HasBytes cs → AreBytes (lines_image v g xs cs)
lines_bytes v g tables [] cs h = tt
lines_bytes v g tables (x ∷ xs) [] h =
    let others = lines_bytes v g tables xs [] tt in search (appended, line_bytes, behind_line_bytes)
lines_bytes v g tables (x ∷ xs) (c ∷ cs) h =
    let others = lines_bytes v g tables xs cs h.1 in search (appended, line_bytes, behind_line_bytes)

letter_is_byte : (b : ℕ) → is_letter b ≡ true → IsByte b
letter_is_byte b e = grind (arith, e)

letters_are_bytes : (x : Name) → list_all is_letter x ≡ true → AreBytes x
letters_are_bytes [] e = tt
letters_are_bytes (b ∷ x) e =
    let letters = and_parts (is_letter b) (list_all is_letter x) e in
    (letter_is_byte b letters.0, letters_are_bytes x letters.1)

length_is_byte : (x : Name) → IsName x → IsByte (length x)
length_is_byte x h = let short = short_name x h in omega (arith, short)

names_bytes : (xs : List Name) → AllByRecursion IsName xs → AreBytes (names_image xs)
names_bytes [] h = tt
names_bytes (x ∷ xs) h =
    (length_is_byte x h.0, appended x (names_image xs) (letters_are_bytes x h.0.0.1) (names_bytes xs h.1))

table_bytes : (xs : List Name) → IsTable xs → AreBytes (table_image xs)
table_bytes xs h = (omega (arith, h.0), names_bytes xs h.1)

version_is_byte : (v : ImageVersion) → IsByte (version_code v)
version_is_byte version.First = omega arith
version_is_byte version.Second = omega arith

head_bytes : (v : ImageVersion) (s : Source) → Tables s → AreBytes (head_image v s)
head_bytes v s tables = search (appended, short_bytes, table_bytes, version_is_byte, kind_is_byte, arith) depth 12

pub images_are_bytes : ImagesAreBytes
images_are_bytes v c h bytes =
    let tables = tables_of c.source h.listing in search (appended, head_bytes, lines_bytes)
