-- A text that is read with its comments is read as a listing with
-- comments: one or none for each line, and each can stand in a text.
use Rattle.std.proofs.Common.{◌≡◌, ℕ, ◌+◌, ◌-◌, ◌≤◌, List, length, map, drop, Result, Ok, Err}
use Rattle.std.proofs.Common.{nat_lt, refl, ap, ◌∙◌, length-drop, arith}
use Rattle.std.proofs.lemmas.Bool.{cond_both, ltb-false}
use Rattle.std.proofs.lemmas.List.{length-map}
use Rattle.snap_semantics.specs.declared.refusal.ListingRefusal.{ListingRefusal}
use Rattle.snap_semantics.specs.declared.refusal.ListingRefusal.TheVariants as refusal
use Rattle.snap_semantics.specs.Comments.{Commented, IsComment, IsCommented, line_comments, header_lines, commented_of}
use Rattle.snap_semantics.specs.Listing.{listing_of_lines, listing_of}
use Rattle.snap_semantics.specs.Source.{Source}
use Rattle.snap_semantics.specs.Spelling.{spelled_line, spelled_source}
use Rattle.snap_semantics.specs.Token.{TextLine, lines_of, text_lines}
use Rattle.snap_text.specs.Lines.{line_tokens, found_lines}
use Rattle.snap_text.proofs.LineComments.{comments_each, comments_good}
use Rattle.snap_listing.specs.Laws.{Spells, ReadsOnlyCommented}
use Rattle.snap_listing.proofs.Alls.{all_dropped}
use Rattle.snap_listing.proofs.RightSources.{HoldsOk, holds_ok, ok_with}
use Rattle.snap_listing.proofs.SpelledHeader.{some_line}
use Rattle.snap_listing.proofs.SpelledLines.{read_is_spelled}

-- a longer text is refused
short_text : (text : List ℕ) (s : Source) → listing_of text ≡ Ok s → length text ≤ 65536
unfolding listing_of
short_text text s =
    cond_both (nat_lt 65536 (length text)) (Err refusal.TooLong)
    (listing_of_lines (length (lines_of text) + 1) (text_lines text))
    (λ (r : Result Source ListingRefusal). r ≡ Ok s → length text ≤ 65536) (λ long e. absurd cc)
    (λ short e. ltb-false 65536 (length text) short)

-- seven lines of the header, and the numbered ones
lines_spelled : (text : List ℕ) (s : Source) → Spells text s → length (text_lines text) ≡ length s.lines + 7
lines_spelled text s e =
    let found : length (line_tokens (text_lines text)) ≡ length (found_lines (spelled_source s)) = ap length e in
    let all : length (line_tokens (text_lines text)) ≡ length (text_lines text) =
    length-map (text_lines text) (λ (line : TextLine). line.tokens) in
    let behind : length (map some_line (map spelled_line s.lines)) ≡ length s.lines =
    length-map (map spelled_line s.lines) some_line ∙ length-map s.lines spelled_line in
    omega (arith, found, all, behind)

listing_read : (text : List ℕ) (s : Source) → listing_of text ≡ Ok s →
    IsCommented (record { source = s; comments = drop header_lines (line_comments (lines_of text)) })
listing_read text s e =
    let is = read_is_spelled text s e in
    let comments = line_comments (lines_of text) in
    let each : length comments ≡ length s.lines + 7 = comments_each 1 (lines_of text) ∙ lines_spelled text s is.1 in
    let behind : length (drop header_lines comments) ≡ length comments - 7 = length-drop header_lines comments in
    record {
      listing = is.0;
      each_line = omega (arith, each, behind);
      comments = all_dropped IsComment header_lines comments (comments_good text (short_text text s e));
    }

read_itself : (r : Result Source ListingRefusal) → HoldsOk (λ (s : Source). r ≡ Ok s) r
read_itself (Ok s) = refl
read_itself (Err e) = tt

-- what is read with its comments is a listing with comments
pub read_is_commented : ReadsOnlyCommented
unfolding commented_of
read_is_commented text c e =
    let P : Commented → Type 0 = λ d. IsCommented d × (listing_of text ≡ Ok d.source) in
    holds_ok P (commented_of text) c
    (ok_with (λ (s : Source). listing_of text ≡ Ok s) P (listing_of text) _ (read_itself (listing_of text)) (λ s h.
    (listing_read text s h, h))) e
