-- The lines after the header of a listing's canonical text are those of `LineTexts`: numbers and instructions,
-- without comments.
use Rattle.std.proofs.Common.{◌≡◌, ℕ, zero, suc, List, [], ◌∷◌, map, drop, Some, refl, ap, ◌∙◌}
use Rattle.snap_semantics.specs.declared.instr.Line.{Line}
use Rattle.snap_semantics.specs.CanonicalText.{canonical_text}
use Rattle.snap_semantics.specs.Comments.{uncommented}
use Rattle.snap_semantics.specs.IsListing.{IsListing}
use Rattle.snap_semantics.specs.Layout.{line_to}
use Rattle.snap_semantics.specs.Source.{Source}
use Rattle.snap_semantics.specs.Spelling.{spelled_line}
use Rattle.snap_semantics.specs.Token.{TextLine, text_lines}
use Rattle.snap_text.specs.Lines.{found_lines, line_tokens}
use Rattle.snap_listing_core.proofs.Uncommented.{uncommented_is}
use Rattle.snap_listing.proofs.Printed.{printed_spells}
use Rattle.snap_listing.specs.LineTexts.{NumberedText, behind, texts_from, tokens_in, written}

dropped : (k : ℕ) (ls : List TextLine) → line_tokens (drop k ls) ≡ drop k (line_tokens ls)
dropped zero ls = refl
dropped (suc k) [] = refl
dropped (suc k) (l ∷ ls) = dropped k ls

texts_are : (lines : List Line) (rest : List TextLine) → line_tokens rest ≡ found_lines (map spelled_line lines) →
    texts_from lines rest ≡ map written lines
texts_are [] rest e = refl
texts_are (line ∷ lines) [] e = absurd cc
texts_are (line ∷ lines) (l ∷ rest) e =
    let first : l.tokens ≡ Some (spelled_line line) = cc in
    let others : line_tokens rest ≡ found_lines (map spelled_line lines) = cc in
    ap (λ o. let text : NumberedText = record {
      number = line.number;
      text = line_to [] (tokens_in o);
    } in text ∷ texts_from lines rest) first
    ∙ ap (λ ts. written line ∷ ts) (texts_are lines rest others)

-- behind the header of the canonical text stand the lines
pub lines_written : (s : Source) → IsListing s →
    texts_from s.lines (drop 7 (text_lines (canonical_text (uncommented s)))) ≡ map written s.lines
lines_written s h =
    texts_are s.lines (drop 7 (text_lines (canonical_text (uncommented s))))
    (dropped 7 (text_lines (canonical_text (uncommented s)))
    ∙ ap (drop 7) (printed_spells (uncommented s) (uncommented_is s h)))

-- one line more is passed over
pub passed : (k : ℕ) (ls : List TextLine) → behind (drop k ls) ≡ drop (suc k) ls
passed zero [] = refl
passed zero (l ∷ ls) = refl
passed (suc k) [] = refl
passed (suc k) (l ∷ ls) = passed k ls
