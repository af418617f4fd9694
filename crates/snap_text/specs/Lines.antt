-- The code's `TokenLine` as a line of the definitions, and the tokens of lines.
use Rattle.std.specs.Prelude.{◌≡◌, List, [], ◌∷◌, map, Option, Some, None, option_map}
use Rattle.snap_semantics.specs.Token.{Token, TextLine}
use Rattle.snap_text.specs.declared.lines.TokenLine.{TokenLine}
use Rattle.snap_text.specs.Tokens.{view_tokens}

abbrev pub view_line : TokenLine → TextLine
view_line line = record { number = line.number; tokens = option_map (λ ts. view_tokens ts.items) line.tokens }

-- the next of the lines, and those behind it; none where there are none
abbrev pub IsNext : Option TokenLine → List TextLine → List TextLine → Type 0
IsNext None old new = (old ≡ []) × (new ≡ [])
IsNext (Some line) old new = old ≡ view_line line ∷ new

-- what lines have in tokens
abbrev pub line_tokens : List TextLine → List (Option (List Token))
line_tokens lines = map (λ (line : TextLine). line.tokens) lines

-- tokens, line by line, as they are found in a text
abbrev pub found_lines : List (List Token) → List (Option (List Token))
found_lines lines = map (λ (ts : List Token). let line : Option (List Token) = Some ts in line) lines
