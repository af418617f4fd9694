-- `expected_line`: what was expected at a place of a refused input, in words, and what was found there.
use Rattle.std.specs.Prelude.{ℕ, Bool, ◌&&◌, List, [], ◌∷◌, ◌++◌, map, if◌then◌else◌}
use Rattle.snap_explanation.specs.declared.parts.Part.{Part}
use Rattle.snap_explanation.specs.declared.parts.Part.TheVariants as part
use Rattle.snap_explanation.specs.declared.wording.TheConstants.{PART_WORDS, EXPECTED, OR, FOUND, END_OF_LINE}
use Rattle.snap_explanation.specs.declared.wording.TheConstants.{INDEX_OR_PLACE, LINE_END, QUOTE, QUOTE_END}
use Rattle.snap_explanation.specs.Grammar.{Single, same_part, may_pass}
use Rattle.snap_explanation.specs.Lost.{Wanted}
use Rattle.snap_explanation.specs.Said.{said_cut}

unfoldable pub part_words : List Single
part_words = map (λ r. record { part = r.0; text = r.1.now }) PART_WORDS.now

-- the words for a part in a table
abbrev pub words_in : Part → List Single → List ℕ
words_in p [] = []
words_in p (r ∷ rs) = if same_part r.part p then r.text else words_in p rs

-- the words for a part, where `@` is an index or not
abbrev pub words_of : Bool → Part → List ℕ
words_of q p = if q && same_part p part.Index then INDEX_OR_PLACE.now else words_in p part_words

-- all that may stand next
abbrev pub expected_words : Bool → List Part → List ℕ
expected_words q [] = END_OF_LINE.now
expected_words q (p ∷ ps) = if may_pass p then words_of q p ++ OR.now ++ expected_words q ps else words_of q p

-- what stands at a place: a piece, or the end of the line
abbrev pub found_words : List ℕ → List ℕ
found_words [] = FOUND.now ++ END_OF_LINE.now ++ LINE_END.now
found_words (b ∷ piece) = FOUND.now ++ QUOTE.now ++ said_cut (b ∷ piece) ++ QUOTE_END.now

unfoldable pub expected_line : Wanted → List ℕ → List ℕ
expected_line w piece = EXPECTED.now ++ expected_words w.places w.parts ++ found_words piece
