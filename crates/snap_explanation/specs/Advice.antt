-- `advice`: what the explanation of a refused input advises at the token where a line is lost.
use Rattle.std.specs.Prelude.{ℕ, Bool, false, ◌&&◌, ◌||◌, List, [], ◌∷◌, length, nat_eq, nat_lt}
use Rattle.std.specs.Prelude.{if◌then◌else◌}
use Rattle.std.specs.List.{list_all}
use Rattle.snap_semantics.specs.declared.text.Symbol.TheVariants as symbol
use Rattle.snap_semantics.specs.Token.{Token, is_digit, is_lexeme_byte}
use Rattle.snap_explanation.specs.declared.line_sorts.LineSort.{LineSort}
use Rattle.snap_explanation.specs.declared.line_sorts.LineSort.TheVariants as line
use Rattle.snap_explanation.specs.declared.parts.Part.{Part}
use Rattle.snap_explanation.specs.declared.parts.Part.TheVariants as part
use Rattle.snap_explanation.specs.Grammar.{may_pass}
use Rattle.snap_explanation.specs.Pieces.{PlacedToken}
use Rattle.snap_explanation.specs.Tests.{is_symbol, is_identifier, is_name, is_line}
use Rattle.snap_explanation.specs.declared.wording.TheConstants.{END_HINTS, INDEX_HINTS, SUM_HINTS, JOIN_HINTS}
use Rattle.snap_explanation.specs.declared.wording.TheConstants.{NAME_HINTS, PROCESS_HINTS, RANGE_HINTS, NO_RANGES}
use Rattle.snap_explanation.specs.declared.wording.TheConstants.{NO_SEMICOLONS, NO_SIGNS}
use Rattle.snap_explanation.specs.declared.wording.TheConstants.{VALUE_HINTS, INSTRUCTION_HINTS, HEADERS, RESERVED}
use Rattle.snap_explanation.specs.declared.wording.TheConstants.{VALUES, LOCAL, COMMANDS, REGISTERS, NUMBERED, SHAPE}
use Rattle.snap_explanation.specs.declared.wording.TheConstants.{ITEM, RETURN}
use Rattle.snap_explanation.specs.declared.wording.TheConstants.{COMPARISON_HINTS, NAMES, TARGET}
use Rattle.snap_explanation.specs.declared.wording.TheConstants.{SCRIPT, COMMAND_FORMS, INSTRUCTION_FORMS}
use Rattle.snap_explanation.specs.declared.wording.TheConstants.{INSTRUCTIONS}
use Rattle.snap_explanation.specs.declared.wording.TheConstants.{WRONG_NUMBER, LEXEME_HINTS, BYTE_HINTS}
use Rattle.snap_explanation.specs.Names.{letters_of}
use Rattle.snap_explanation.specs.Said.{rows, ranges, by_word, by_byte}

-- whether advice is of what stands behind this: where names may follow, it is of names, and in a schedule none is
abbrev pub passes : Part → Bool
passes part.Names = false
passes part.Act = false
passes p = may_pass p

-- the first that has to stand there
abbrev pub firm : List Part → Part
firm [] = part.End
firm (p ∷ ps) = if passes p then firm ps else p

-- the table of what is advised at a piece, where this has to stand
abbrev pub hints : Part → List (List ℕ × List ℕ)
hints part.End = rows END_HINTS.now
hints part.CloseBracket = rows INDEX_HINTS.now
hints part.Equal = rows SUM_HINTS.now
hints part.Goto = rows JOIN_HINTS.now
hints part.Process = rows PROCESS_HINTS.now
hints part.Range = rows RANGE_HINTS.now
hints part.Name = rows NAME_HINTS.now
hints part.Index = rows NAME_HINTS.now
hints part.Term = rows VALUE_HINTS.now
hints part.Expr = rows VALUE_HINTS.now
hints part.SecondPart = rows VALUE_HINTS.now
hints part.Condition = rows COMPARISON_HINTS.now
hints part.Test = rows COMPARISON_HINTS.now
hints part.Instruction = rows INSTRUCTION_HINTS.now
hints _ = []

-- what is advised at a word of which that table says nothing
abbrev pub word_advice : Part → List ℕ
word_advice part.Name = RESERVED.now
word_advice part.Index = RESERVED.now
word_advice part.Term = VALUES.now
word_advice part.Expr = VALUES.now
word_advice part.Condition = VALUES.now
word_advice part.SecondPart = VALUES.now
word_advice part.Test = VALUES.now
word_advice part.LineNumber = TARGET.now
word_advice part.Target = TARGET.now
word_advice _ = []

-- what is advised at a token of which it says nothing
abbrev pub otherwise : Part → Token → List ℕ
otherwise part.Kind t = HEADERS.now
otherwise part.Scalar t = HEADERS.now
otherwise part.Row t = HEADERS.now
otherwise part.Words t = HEADERS.now
otherwise part.View t = HEADERS.now
otherwise part.Scan t = HEADERS.now
otherwise part.Update t = HEADERS.now
otherwise part.Names t = NAMES.now
otherwise part.Command t = COMMANDS.now
otherwise part.Register t = REGISTERS.now
otherwise part.Shown t = REGISTERS.now
otherwise part.Instruction t = if is_name t then LOCAL.now else []
otherwise p t = if is_identifier t then word_advice p else []

-- what is advised at a token that does not go on with what is wanted, and at the piece that it is
abbrev pub advice : List Part → Token → List ℕ → List ℕ
advice ps t piece = by_word (hints (firm ps)) (otherwise (firm ps) t) piece

-- whether a line has a carriage return before another byte
abbrev pub has_return : List ℕ → Bool
has_return [] = false
has_return (b ∷ bs) = (nat_eq b 13 && nat_lt 0 (length bs)) || has_return bs

-- what is advised of a line with a carriage return inside
abbrev pub return_advice : List ℕ → List ℕ
return_advice line = if has_return line then RETURN.now else []

-- the first token, where it is a word; else nothing
abbrev pub first_word : List PlacedToken → List ℕ
first_word [] = []
first_word (t ∷ ts) = letters_of t.token

-- what is advised of the form of a numbered line: of that of its instruction, where its number and a colon stand
-- before it
abbrev pub numbered_advice : List PlacedToken → List ℕ
numbered_advice [] = NUMBERED.now
numbered_advice (t ∷ []) = NUMBERED.now
numbered_advice (t ∷ c ∷ ts) =
    if is_symbol symbol.Colon c.token
    then (if is_line t.token then by_word (rows INSTRUCTION_FORMS.now) INSTRUCTIONS.now (first_word ts) else [])
    else NUMBERED.now

-- what is advised of the form of a line of a sort, by its tokens
abbrev pub form_advice : LineSort → List PlacedToken → List ℕ
form_advice (line.Header h) ts = []
form_advice line.Numbered ts = numbered_advice ts
form_advice line.Shape ts = SHAPE.now
form_advice line.Item ts = ITEM.now
form_advice line.Script ts = SCRIPT.now
form_advice line.Command ts = by_word (rows COMMAND_FORMS.now) [] (first_word ts)

-- what is advised of letters and digits that are no token
abbrev pub lexeme_advice : List ℕ → ℕ → List ℕ
lexeme_advice piece b = if list_all is_digit piece then WRONG_NUMBER.now else by_byte (ranges LEXEME_HINTS.now) b

-- whether a byte is `-` or a point
abbrev pub is_sign : ℕ → Bool
is_sign b = nat_eq b 45 || nat_eq b 46

-- whether a byte is `!`, `&`, `>` or `|`
abbrev pub is_of_conditions : ℕ → Bool
is_of_conditions b = nat_eq b 33 || nat_eq b 38 || nat_eq b 62 || nat_eq b 124

-- what is advised of a byte that begins no token in a line without expressions, where this is advised of a sign
abbrev pub plain_advice : List ℕ → ℕ → List ℕ
plain_advice signs b =
    if is_sign b then signs
    else (if nat_eq b 59 then NO_SEMICOLONS.now
    else (if is_of_conditions b then [] else by_byte (ranges BYTE_HINTS.now) b))

-- what is advised of a byte that begins no token, in a line of this sort
abbrev pub byte_advice : LineSort → ℕ → List ℕ
byte_advice (line.Header h) b = by_byte (ranges BYTE_HINTS.now) b
byte_advice line.Numbered b = by_byte (ranges BYTE_HINTS.now) b
byte_advice line.Item b = plain_advice NO_RANGES.now b
byte_advice line.Shape b = plain_advice NO_SIGNS.now b
byte_advice line.Script b = plain_advice NO_SIGNS.now b
byte_advice line.Command b = plain_advice NO_SIGNS.now b

-- what is advised of a piece that is no token, in a line of this sort
abbrev pub stray_advice : LineSort → List ℕ → List ℕ
stray_advice sort [] = []
stray_advice sort (b ∷ bs) = if is_lexeme_byte b then lexeme_advice (b ∷ bs) b else byte_advice sort b
