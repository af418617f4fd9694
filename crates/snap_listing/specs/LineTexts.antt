-- The lines of a listing, each as text: its number and its instruction as in the canonical text of the listing,
-- without the comment.
use Rattle.std.specs.Prelude.{ℕ, List, [], ◌∷◌, map, Option, Some, None, nat_eq, if◌then◌else◌}
use Rattle.snap_semantics.specs.declared.instr.Line.{Line}
use Rattle.snap_semantics.specs.Layout.{line_to}
use Rattle.snap_semantics.specs.Source.{Source}
use Rattle.snap_semantics.specs.Spelling.{spelled_line}
use Rattle.snap_semantics.specs.Token.{TextLine, Token}
use Rattle.snap_listing.specs.declared.line_texts.LineText.{LineText}

-- a text, with the number of its line
pub record NumberedText : Type 0 where
  pub number : ℕ
  pub text : List ℕ

-- a line as its number and its canonical text
abbrev pub written : Line → NumberedText
written line = record { number = line.number; text = line_to [] (spelled_line line) }

-- the text that has this number
abbrev pub text_with : List NumberedText → ℕ → Option (List ℕ)
text_with [] k = None
text_with (t ∷ ts) k = if nat_eq t.number k then Some t.text else text_with ts k

-- the text of the line of a listing with this number
abbrev pub line_text_at : Source → ℕ → Option (List ℕ)
line_text_at s k = text_with (map written s.lines) k

-- the text of a line as the program keeps it
abbrev pub seen_line : LineText → NumberedText
seen_line line = record { number = line.number; text = line.text.items }

-- the tokens that were found, none where there are none
abbrev pub tokens_in : Option (List Token) → List Token
tokens_in None = []
tokens_in (Some ts) = ts

-- the tokens of the first of these lines
abbrev pub first_tokens : List TextLine → List Token
first_tokens [] = []
first_tokens (line ∷ lines) = tokens_in line.tokens

-- the lines behind the first one
abbrev pub behind : List TextLine → List TextLine
behind [] = []
behind (line ∷ lines) = lines

-- the numbers of lines, with what stands for them in a text
abbrev pub texts_from : List Line → List TextLine → List NumberedText
texts_from [] rest = []
texts_from (line ∷ lines) rest =
    let text : NumberedText = record { number = line.number; text = line_to [] (first_tokens rest) } in
    text ∷ texts_from lines (behind rest)
