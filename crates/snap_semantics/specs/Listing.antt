-- The grammar of listings: seven header lines and then numbered lines; and why a text is refused, the first reason
-- first.
use Rattle.std.specs.Prelude.{ℕ, ◌+◌, Bool, ◌||◌, List, [], ◌∷◌, ◌++◌, length, Option, Result, Ok, Err, nat_eq}
use Rattle.std.specs.Prelude.{nat_lt, nat_le, codes, if◌then◌else◌}
use Rattle.std.specs.List.{list_any}
use Rattle.snap_semantics.specs.declared.instr.Instr.{Instr}
use Rattle.snap_semantics.specs.declared.instr.Instr.TheVariants.{Let, LetPlace, Get, Bit, Look, Put, PutBit, PutView}
use Rattle.snap_semantics.specs.declared.instr.Instr.TheVariants.{ViewData, ViewOf, Each, First, Next, If, IfAll}
use Rattle.snap_semantics.specs.declared.instr.Instr.TheVariants.{Goto, Call, Return, Finish}
use Rattle.snap_semantics.specs.declared.instr.Line.{Line}
use Rattle.snap_semantics.specs.declared.refusal.ListingRefusal.{ListingRefusal}
use Rattle.snap_semantics.specs.declared.refusal.ListingRefusal.TheVariants as refusal
use Rattle.snap_semantics.specs.Answers.{◌>>=◌}
use Rattle.snap_semantics.specs.Rules.{form_or}
use Rattle.snap_semantics.specs.HeaderForms.{kind_form, names_form, entry_form}
use Rattle.snap_semantics.specs.ListingForms.{is_reserved, line_form}
use Rattle.snap_semantics.specs.Source.{Name, Source}
use Rattle.snap_semantics.specs.Token.{Token, TextLine, text_lines, lines_of}
use Rattle.snap_semantics.specs.Uses.{instr_uses, checked_uses, is_among}

-- What a header line says, and the lines behind it. Where the lines are used up, the line
-- that is missing is line `after`.
abbrev pub header_line : {A : Type 0} → ℕ → (List Token → Option A) → List TextLine →
    Result (A × ℕ × List TextLine) ListingRefusal
header_line after rule [] = Err (refusal.BadHeader after)
header_line after rule (line ∷ lines) =
    form_or (refusal.BadHeader line.number) rule line.tokens >>= λ x. Ok (x, line.number, lines)

-- a name that may not be declared: more than eight letters, or a reserved word
abbrev pub is_bad_name : List ℕ → Bool
is_bad_name w = nat_lt 8 (length w) || is_reserved w

-- the names of a header line, behind those that are declared already
abbrev pub new_names : ℕ → List Name → List (List ℕ) → Result (List Name) ListingRefusal
new_names line known [] = Ok []
new_names line known (w ∷ ws) =
    if is_bad_name w then Err (refusal.BadName line) else
    if is_among w known then Err (refusal.NameTwice line) else
    if nat_le 32 (length known) then Err (refusal.TooMany line) else
    new_names line (known ++ w ∷ []) ws >>= λ names. Ok (w ∷ names)

-- the line of a sort of locals, and the lines behind it
abbrev pub names_line : ℕ → List ℕ → List Name → List TextLine → Result (List Name × List TextLine) ListingRefusal
names_line after keyword known lines =
    header_line after (names_form keyword) lines >>= λ x. new_names x.1 known x.0 >>= λ names. Ok (names, x.2)

-- a numbered line behind line number `last`, with so many lines before it
abbrev pub checked_line : Source → ℕ → ℕ → ℕ → Line → Result Line ListingRefusal
checked_line s at last count line =
    if nat_le line.number last then Err (refusal.NumberNotRising at) else
    if nat_le 200 count then Err (refusal.TooMany at) else
    checked_uses s at (instr_uses line.instr) >>= λ done. Ok line

-- the numbered lines; the source has the names, and its lines are not looked at
abbrev pub numbered_lines : Source → ℕ → ℕ → List TextLine → Result (List Line) ListingRefusal
numbered_lines s last count [] = Ok []
numbered_lines s last count (text ∷ texts) =
    form_or (refusal.BadLine text.number) (line_form s.kind) text.tokens >>= λ form.
    checked_line s text.number last count form >>= λ line.
    numbered_lines s line.number (count + 1) texts >>= λ lines. Ok (line ∷ lines)

abbrev pub instr_targets : Instr → List ℕ
instr_targets (Let x e) = []
instr_targets (LetPlace x i e) = []
instr_targets (Get x i j) = []
instr_targets (Bit x b i j) = []
instr_targets (Look x i) = []
instr_targets (Put i t) = []
instr_targets (PutBit b i j e) = []
instr_targets (PutView i x) = []
instr_targets (ViewData x y) = []
instr_targets (ViewOf x y i) = []
instr_targets (Each g x e k) = []
instr_targets (First x g k target) = target ∷ []
instr_targets (Next x g target) = target ∷ []
instr_targets (If k target) = target ∷ []
instr_targets (IfAll g k target) = target ∷ []
instr_targets (Goto target) = target ∷ []
instr_targets (Call target) = target ∷ []
instr_targets (Return x) = []
instr_targets Finish = []

abbrev pub line_targets : List Line → List ℕ
line_targets [] = []
line_targets (line ∷ lines) = instr_targets line.instr ++ line_targets lines

abbrev pub has_line : List Line → ℕ → Bool
has_line lines k = list_any (λ (line : Line). nat_eq line.number k) lines

-- each target is a line, or the first that is none
abbrev pub checked_targets : List Line → List ℕ → Result (Unit {0}) ListingRefusal
checked_targets lines [] = Ok tt
checked_targets lines (k ∷ ks) = if has_line lines k then checked_targets lines ks else Err (refusal.NoSuchLine k)

-- the names of all sorts, in order of declaration
abbrev pub all_names : Source → List Name
all_names s = s.scalars ++ (s.rows ++ (s.words ++ s.views))

-- the header, with no lines yet, and the lines behind it
unfoldable pub header_of : ℕ → List TextLine → Result (Source × List TextLine) ListingRefusal
header_of after lines = do
  k ← header_line after kind_form lines
  scalars ← names_line after (codes "scalar") [] k.2
  rows ← names_line after (codes "row") scalars.0 scalars.1
  words ← names_line after (codes "words") (scalars.0 ++ rows.0) rows.1
  views ← names_line after (codes "view") (scalars.0 ++ (rows.0 ++ words.0)) words.1
  scan ← header_line after (entry_form (codes "scan")) views.1
  update ← header_line after (entry_form (codes "update")) scan.2
  Ok (
    record {
      kind = k.0;
      scalars = scalars.0;
      rows = rows.0;
      words = words.0;
      views = views.0;
      scan = scan.0;
      update = update.0;
      lines = [];
    },
    update.2,
  )

abbrev pub with_lines : List Line → Source → Source
with_lines lines s = record {
  kind = s.kind;
  scalars = s.scalars;
  rows = s.rows;
  words = s.words;
  views = s.views;
  scan = s.scan;
  update = s.update;
  lines = lines;
}

-- the listing that the lines are, where the line behind them is line `after`
unfoldable pub listing_of_lines : ℕ → List TextLine → Result Source ListingRefusal
listing_of_lines after texts = do
  header ← header_of after texts
  lines ← numbered_lines header.0 0 0 header.1
  done ← checked_targets lines (header.0.scan ∷ header.0.update ∷ line_targets lines)
  Ok (with_lines lines header.0)

-- the most bytes of a listing's text
abbrev pub max_text : ℕ
max_text = 65536

-- the listing that a text is, or the first reason why it is none
unfoldable pub listing_of : List ℕ → Result Source ListingRefusal
listing_of text =
    if nat_lt max_text (length text) then Err refusal.TooLong
    else listing_of_lines (length (lines_of text) + 1) (text_lines text)
