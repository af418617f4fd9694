-- `explanation`: what is said of a refused input after the line that refuses it: the place, what was expected and
-- found, and advice.
use Rattle.std.specs.Prelude.{ℕ, List, [], ◌∷◌, ◌++◌, drop, Option, Some, None, nat_lt, decimal}
use Rattle.std.specs.Prelude.{if◌then◌else◌}
use Rattle.snap_words.specs.declared.kind.KindTag.{KindTag}
use Rattle.snap_semantics.specs.declared.refusal.CommandRefusal.{CommandRefusal}
use Rattle.snap_semantics.specs.declared.refusal.CommandRefusal.TheVariants as command
use Rattle.snap_semantics.specs.declared.refusal.ImageRefusal.{ImageRefusal}
use Rattle.snap_semantics.specs.declared.refusal.ImageRefusal.TheVariants as image
use Rattle.snap_semantics.specs.declared.refusal.ListingRefusal.{ListingRefusal}
use Rattle.snap_semantics.specs.declared.refusal.ListingRefusal.TheVariants as listing
use Rattle.snap_semantics.specs.declared.refusal.Refusal.{Refusal}
use Rattle.snap_semantics.specs.declared.refusal.Refusal.TheVariants as refusal
use Rattle.snap_semantics.specs.declared.refusal.ScheduleRefusal.{ScheduleRefusal}
use Rattle.snap_semantics.specs.declared.refusal.ScheduleRefusal.TheVariants as schedule
use Rattle.snap_semantics.specs.Source.{Source}
use Rattle.snap_semantics.specs.Token.{TextLine, text_lines}
use Rattle.snap_explanation.specs.declared.line_sorts.Header.{Header}
use Rattle.snap_explanation.specs.declared.line_sorts.Header.TheVariants as header
use Rattle.snap_explanation.specs.declared.line_sorts.LineSort.{LineSort}
use Rattle.snap_explanation.specs.declared.line_sorts.LineSort.TheVariants as line
use Rattle.snap_explanation.specs.Lost.{Place, lost_in}
use Rattle.snap_explanation.specs.Pieces.{PlacedToken, PlacedTokens, placed_of}
use Rattle.snap_explanation.specs.declared.layout.Layout.{Layout}
use Rattle.snap_explanation.specs.declared.layout.Layout.TheVariants as layout
use Rattle.snap_explanation.specs.declared.names.Numbered.{Numbered}
use Rattle.snap_explanation.specs.declared.layout.Texts.TheVariants as texts
use Rattle.snap_explanation.specs.declared.wording.TheConstants.{BYTE, NO_CODE, IMAGE_RULE, RISING}
use Rattle.snap_explanation.specs.declared.wording.TheConstants.{SECOND_CRASH, QUOTE, NO_TOKEN, WRONG}
use Rattle.snap_explanation.specs.declared.wording.TheConstants.{DECLARED_BEFORE, DECLARED_IN}
use Rattle.snap_explanation.specs.declared.wording.TheConstants.{DECLARED_AS, QUOTE_END, NUMBERS_RISE, COMES_AFTER}
use Rattle.snap_explanation.specs.declared.wording.TheConstants.{HAS_NUMBER, LINE_END, NO_SUCH_LINE, LONG_LISTING}
use Rattle.snap_explanation.specs.declared.wording.TheConstants.{TOO_MANY, BAD_NAME, LONG_SCHEDULE, ITEMS, NO_PROCESS}
use Rattle.snap_explanation.specs.declared.wording.TheConstants.{LONG_COMMANDS, NO_FIT, LONG_INPUT, AN_IMAGE}
use Rattle.snap_explanation.specs.Advice.{advice, form_advice, return_advice, stray_advice}
use Rattle.snap_explanation.specs.Inputs.{parts_explained, order_advice}
use Rattle.snap_explanation.specs.Misuse.{Misuse, wrong_in_line, misuse_text}
use Rattle.snap_explanation.specs.Names.{Declared, letters_of, tokens_of_placed, words_before, header_count}
use Rattle.snap_explanation.specs.Names.{first_such, is_bad}
use Rattle.snap_explanation.specs.Names.{first_again, declared_at, name_count, one_too_many, last_before, number_of}
use Rattle.snap_explanation.specs.Names.{leading_line, first_led, nth_token}
use Rattle.snap_explanation.specs.Part.{Part, part_place}
use Rattle.snap_explanation.specs.Said.{said_cut}
use Rattle.snap_explanation.specs.Sorts.{source_in, kind_in}
use Rattle.snap_explanation.specs.Spot.{text_of, piece_at, column_of, spot, line_spot}
use Rattle.snap_explanation.specs.Texts.{expected_line}

-- what is advised at a token, which is this piece
abbrev pub token_advice : Place → Option PlacedToken → List ℕ → List ℕ
token_advice p None piece = []
token_advice p (Some t) piece = advice p.wanted.parts t.token piece

-- what is no token, and what is advised of it
unfoldable pub stray_words : (piece advice : List ℕ) → List ℕ
stray_words piece advice = QUOTE.now ++ said_cut piece ++ NO_TOKEN.now ++ advice

abbrev pub stray_piece : LineSort → List ℕ → List ℕ
stray_piece sort piece = stray_words piece (stray_advice sort piece)

-- a byte that begins no token
unfoldable pub stray_text : Part → LineSort → (line column : ℕ) → List ℕ
stray_text p sort k column = spot p k column ++ stray_piece sort (piece_at column (text_of p k))

-- what stands at a token, which may be the end of the line
abbrev pub piece_of : List ℕ → Option PlacedToken → List ℕ
piece_of text None = []
piece_of text (Some t) = piece_at t.column text

-- a line that is lost at a place, and at a token, where there is one
abbrev pub lost_at : Part → LineSort → ℕ → List PlacedToken → Place → Option PlacedToken → List ℕ
lost_at p sort k ts at t =
    spot p k (column_of (text_of p k) t) ++ expected_line at.wanted (piece_of (text_of p k) t)
    ++ token_advice at t (piece_of (text_of p k) t) ++ return_advice (text_of p k) ++ form_advice sort ts

unfoldable pub lost_text : Part → LineSort → ℕ → List PlacedToken → Place → List ℕ
lost_text p sort k ts at = lost_at p sort k ts at (nth_token at.before ts)

-- a place at a token, where there is one, and what is said of it
abbrev pub token_spot : Part → ℕ → Option PlacedToken → List ℕ → List ℕ
token_spot p k None words = line_spot p k ++ words
token_spot p k (Some t) words = spot p k t.column ++ words

-- what is advised of a refused line of which each token is as expected
abbrev pub unlost_advice : LineSort → List ℕ
unlost_advice line.Script = SECOND_CRASH.now
unlost_advice _ = []

abbrev pub lost_or_line : Part → LineSort → ℕ → List PlacedToken → Option Place → List ℕ
lost_or_line p sort k ts None = token_spot p k None (unlost_advice sort)
lost_or_line p sort k ts (Some at) = lost_text p sort k ts at

-- a line with a byte that begins no token, or else one that is lost
abbrev pub stray_or_lost : Part → LineSort → ℕ → List PlacedToken → Option ℕ → List ℕ
stray_or_lost p sort k ts (Some column) = stray_text p sort k column
stray_or_lost p sort k ts None = lost_or_line p sort k ts (lost_in sort (tokens_of_placed ts))

abbrev pub form_text_of : Part → LineSort → ℕ → PlacedTokens → List ℕ
form_text_of p sort k placed = stray_or_lost p sort k placed.tokens placed.stray

-- a line that has not the form of its sort
unfoldable pub form_text : Part → LineSort → ℕ → List ℕ
form_text p sort k = form_text_of p sort k (placed_of (text_of p k))

abbrev pub tokens_in : PlacedTokens → List PlacedToken
tokens_in placed = placed.tokens

-- the tokens of a line of a part
unfoldable pub placed_line : Part → ℕ → List PlacedToken
placed_line p k = tokens_in (placed_of (text_of p k))

-- the header line behind this one; the last one stays
abbrev pub next_header : Header → Header
next_header header.Kind = header.Scalars
next_header header.Scalars = header.Rows
next_header header.Rows = header.Words
next_header header.Words = header.Views
next_header header.Views = header.Scan
next_header header.Scan = header.Update
next_header header.Update = header.Update

-- which header line is expected at line k, where this one is expected first
abbrev pub header_at : Header → (k : ℕ) → List TextLine → Header
header_at h k [] = h
header_at h k (l ∷ ls) = if nat_lt l.number k then header_at (next_header h) k ls else h

-- the number of the first line with tokens; 1 where there is none
abbrev pub first_number : List TextLine → ℕ
first_number [] = 1
first_number (l ∷ ls) = l.number

-- the first token that speaks of what is not right, where there is one
abbrev pub misuse_spot : Part → ℕ → Source → Option Misuse → List ℕ
misuse_spot p k s None = token_spot p k None WRONG.now
misuse_spot p k s (Some m) = spot p k m.token.column ++ misuse_text s m

-- a line of these tokens, behind these words of a header
abbrev pub words_spot : Part → ℕ → List PlacedToken → List (List ℕ) → Option KindTag → List ℕ
words_spot p k ts ws None = token_spot p k None WRONG.now
words_spot p k ts ws (Some g) = misuse_spot p k (source_in g ws) (wrong_in_line (source_in g ws) ts)

-- the words of the header lines before line k
abbrev pub header_words : Part → ℕ → List (List ℕ)
header_words p k = words_before k header_count (text_lines p.text)

-- line k, which speaks of what is not right
unfoldable pub uses_spot : Part → ℕ → List ℕ
uses_spot p k = words_spot p k (placed_line p k) (header_words p k) (kind_in (header_words p k))

-- where a name is declared
abbrev pub declared_text : List ℕ → Option Declared → List ℕ
declared_text x None = DECLARED_BEFORE.now
declared_text x (Some d) =
    QUOTE.now ++ x ++ DECLARED_IN.now ++ decimal d.line ++ DECLARED_AS.now ++ d.keyword ++ QUOTE_END.now

abbrev pub again_text : Part → Option PlacedToken → List ℕ
again_text p None = []
again_text p (Some t) = declared_text (letters_of t.token) (declared_at (letters_of t.token) (text_lines p.text))

-- a numbered line
unfoldable pub numbered_words : Numbered → List ℕ
numbered_words last = decimal last.line ++ HAS_NUMBER.now ++ decimal last.number ++ LINE_END.now

abbrev pub rising_text : ℕ → Numbered → List ℕ
rising_text k last = NUMBERS_RISE.now ++ decimal k ++ COMES_AFTER.now ++ numbered_words last

abbrev pub number_at_token : Option PlacedToken → ℕ
number_at_token None = 0
number_at_token (Some t) = number_of t.token

-- the last line before line k, and its number
abbrev pub line_before : Part → ℕ → Numbered
line_before p k = last_before k (record { line = 0; number = 0 }) (text_lines p.text)

-- the rule of listings that is broken
unfoldable pub rule : ListingRefusal → List ℕ
rule listing.TooLong = LONG_LISTING.now
rule (listing.BadHeader k) = []
rule (listing.BadLine k) = []
rule (listing.NumberNotRising k) = RISING.now
rule (listing.UnknownName k) = WRONG.now
rule (listing.NameTwice k) = DECLARED_BEFORE.now
rule (listing.WrongKind k) = WRONG.now
rule (listing.NoSuchLine k) = NO_SUCH_LINE.now
rule (listing.TooMany k) = TOO_MANY.now
rule (listing.BadName k) = BAD_NAME.now

-- the token for which a line of these tokens is refused, by the words of the header lines before it
abbrev pub refused_token : List (List ℕ) → List PlacedToken → ListingRefusal → Option PlacedToken
refused_token ws ts (listing.NumberNotRising k) = nth_token 0 ts
refused_token ws ts (listing.NameTwice k) = first_again ws ts
refused_token ws ts (listing.NoSuchLine k) = first_led k ts
refused_token ws ts (listing.TooMany k) = one_too_many (name_count ws) ts
refused_token ws ts (listing.BadName k) = first_such is_bad (drop 1 ts)
refused_token ws ts _ = None

-- why line k is refused for a token
abbrev pub reason : Part → ℕ → Option PlacedToken → ListingRefusal → List ℕ
reason p k t (listing.NumberNotRising l) = rising_text (number_at_token t) (line_before p k)
reason p k t (listing.NameTwice l) = again_text p t
reason p k t r = rule r

abbrev pub rule_spot_of : Part → ℕ → Option PlacedToken → ListingRefusal → List ℕ
rule_spot_of p k t r = token_spot p k t [] ++ reason p k t r

-- line k, which breaks a rule at a token
unfoldable pub rule_spot : Part → ℕ → ListingRefusal → List ℕ
rule_spot p k r = rule_spot_of p k (refused_token (header_words p k) (placed_line p k) r) r

-- line k, refused at token i
abbrev pub at_token : Part → (k i : ℕ) → List ℕ → List ℕ
at_token p k i words = token_spot p k (nth_token i (placed_line p k)) words

unfoldable pub listing_explained : Part → ListingRefusal → List ℕ
listing_explained p listing.TooLong = LONG_LISTING.now
listing_explained p (listing.BadHeader k) = form_text p (line.Header (header_at header.Kind k (text_lines p.text))) k
listing_explained p (listing.BadLine k) = form_text p line.Numbered k
listing_explained p (listing.UnknownName k) = uses_spot p k
listing_explained p (listing.WrongKind k) = uses_spot p k
listing_explained p (listing.NoSuchLine n) = rule_spot p (leading_line n (text_lines p.text)) (listing.NoSuchLine n)
listing_explained p (listing.NumberNotRising k) = rule_spot p k (listing.NumberNotRising k)
listing_explained p (listing.NameTwice k) = rule_spot p k (listing.NameTwice k)
listing_explained p (listing.TooMany k) = rule_spot p k (listing.TooMany k)
listing_explained p (listing.BadName k) = rule_spot p k (listing.BadName k)

-- the sort of the lines behind the shape
abbrev pub item_sort : Layout → LineSort
item_sort (layout.Parts s texts.Scripts) = line.Script
item_sort _ = line.Item

unfoldable pub schedule_explained : Layout → Part → ScheduleRefusal → List ℕ
schedule_explained l p schedule.TooLong = LONG_SCHEDULE.now
schedule_explained l p schedule.BadShape = form_text p line.Shape (first_number (text_lines p.text))
schedule_explained l p (schedule.BadItem k) = form_text p (item_sort l) k
schedule_explained l p (schedule.TooManyItems k) = at_token p k 0 ITEMS.now
schedule_explained l p (schedule.NoSuchProcess k) = at_token p k 0 NO_PROCESS.now

abbrev pub commands_explained : Part → CommandRefusal → List ℕ
commands_explained p (command.BadCommand k) = form_text p line.Command k
commands_explained p command.TooLong = LONG_COMMANDS.now
commands_explained p _ = []

-- what is said of a refused part; a shape that does not fit the kind is refused at its second number
unfoldable pub part_explained : Layout → Part → Refusal → List ℕ
part_explained l p (refusal.Listing r) = listing_explained p r
part_explained l p (refusal.Schedule r) = schedule_explained l p r
part_explained l p (refusal.Words f) = at_token p (first_number (text_lines p.text)) 2 NO_FIT.now
part_explained l p (refusal.Commands r) = commands_explained p r
part_explained l p _ = []

-- bytes that are no image of a listing
abbrev pub image_explained : ImageRefusal → List ℕ
image_explained (image.BadCode place) = BYTE.now ++ decimal place ++ NO_CODE.now ++ AN_IMAGE.now
image_explained (image.Invalid r) = IMAGE_RULE.now ++ rule r
image_explained _ = AN_IMAGE.now

-- what is said behind the line of a refusal
unfoldable pub explanation : Layout → List ℕ → Refusal → List ℕ
explanation l input refusal.InputTooLong = LONG_INPUT.now
explanation l input (refusal.WrongParts found) =
    parts_explained l input ++ order_advice l input (refusal.WrongParts found)
explanation l input (refusal.Image r) = image_explained r
explanation l input r = part_explained l (part_place l input r) r ++ order_advice l input r
