-- The steps of the reader of listings, as definitions: the next header line, one name more, one numbered line more.
use Rattle.std.specs.Prelude.{ℕ, Bool, true, false, List, [], ◌∷◌, ◌++◌, length, Result, Ok, Err, nat_le, if◌then◌else◌}
use Rattle.snap_semantics.specs.declared.instr.Line.{Line}
use Rattle.snap_semantics.specs.declared.refusal.ListingRefusal.{ListingRefusal}
use Rattle.snap_semantics.specs.declared.refusal.ListingRefusal.TheVariants as refusal
use Rattle.snap_semantics.specs.Answers.{◌>>=◌}
use Rattle.snap_semantics.specs.Rules.{form_or}
use Rattle.snap_semantics.specs.Listing.{is_bad_name, checked_line}
use Rattle.snap_semantics.specs.ListingForms.{line_form}
use Rattle.snap_semantics.specs.Source.{Name, Source}
use Rattle.snap_semantics.specs.Token.{TextLine}
use Rattle.snap_semantics.specs.Uses.{is_among}
use Rattle.snap_text.specs.declared.lexer.Token.{Token}
use Rattle.snap_text.specs.declared.lexer.Token.TheVariants as given

-- the next line, which has to be there, and the lines behind it
abbrev pub next_header : ℕ → List TextLine → Result (TextLine × List TextLine) ListingRefusal
next_header after [] = Err (refusal.BadHeader after)
next_header after (line ∷ lines) = Ok (line, lines)

abbrev pub is_identifier : Token → Bool
is_identifier (given.Identifier w) = true
is_identifier (given.Number k) = false
is_identifier (given.Sign m) = false

-- the letters of an identifier; other tokens have none
abbrev pub letters_of : Token → List ℕ
letters_of (given.Identifier w) = w.now
letters_of (given.Number k) = []
letters_of (given.Sign m) = []

-- the name that an identifier declares, behind those that are declared already
abbrev pub new_name : ℕ → List Name → List ℕ → Result Name ListingRefusal
new_name line known w =
    if is_bad_name w then Err (refusal.BadName line) else
    if is_among w known then Err (refusal.NameTwice line) else
    if nat_le 32 (length known) then Err (refusal.TooMany line) else Ok w

-- what was found before, and what is found behind it
abbrev pub onto : {A E : Type 0} → List A → Result (List A) E → Result (List A) E
onto xs (Ok ys) = Ok (xs ++ ys)
onto xs (Err e) = Err e

-- the numbered line that a text line is, behind line number `last`, with so many lines before it
abbrev pub numbered_line : Source → ℕ → ℕ → TextLine → Result Line ListingRefusal
numbered_line s last count text =
    form_or (refusal.BadLine text.number) (line_form s.kind) text.tokens >>= λ line.
    checked_line s text.number last count line

-- the number of the next line, and the lines with it
abbrev pub added_line : Source → ℕ → List Line → TextLine → Result (ℕ × List Line) ListingRefusal
added_line s last lines text = numbered_line s last (length lines) text >>= λ line. Ok (line.number, lines ++ line ∷ [])
