-- What is said of the parts of an input: of their number, and of one that stands in another one's place.
use Rattle.std.specs.Prelude.{ℕ, ◌-◌, Bool, false, ◌||◌, List, [], ◌∷◌, ◌++◌, length, take, Option, Some, None}
use Rattle.std.specs.Prelude.{◌+◌, ◌&&◌, not, nat_eq, nat_lt, decimal, codes, if◌then◌else◌}
use Rattle.snap_semantics.specs.Report.{numbers_text}
use Rattle.snap_semantics.specs.declared.refusal.ListingRefusal.{ListingRefusal}
use Rattle.snap_semantics.specs.declared.refusal.ListingRefusal.TheVariants as listing
use Rattle.snap_semantics.specs.declared.refusal.Refusal.{Refusal}
use Rattle.snap_semantics.specs.declared.refusal.Refusal.TheVariants as refusal
use Rattle.snap_semantics.specs.Token.{Token, TextLine, begins_with, lines_of, text_lines}
use Rattle.snap_input.specs.Parts.{ends_part, part, parts_of}
use Rattle.snap_tasks.specs.declared.subject.Subject.TheVariants as subject
use Rattle.snap_explanation.specs.Tests.{is_word}
use Rattle.snap_explanation.specs.declared.inputs.Fronts.{Fronts}
use Rattle.snap_explanation.specs.declared.layout.Layout.{Layout}
use Rattle.snap_explanation.specs.declared.layout.Layout.TheVariants as layout
use Rattle.snap_explanation.specs.declared.layout.Texts.TheVariants as texts
use Rattle.snap_explanation.specs.declared.wording.TheConstants.{FILES_SWAPPED}
use Rattle.snap_explanation.specs.declared.wording.TheConstants.{LINE, NEAR}
use Rattle.snap_explanation.specs.declared.wording.TheConstants.{LISTING_AND_SCHEDULE, LISTING_AND_COMMANDS}
use Rattle.snap_explanation.specs.declared.wording.TheConstants.{LISTING_AND_SCHEDULES, LISTING_AND_SCRIPTS}
use Rattle.snap_explanation.specs.declared.wording.TheConstants.{SCHEDULE_ALONE, COMMANDS_ALONE, SCHEDULES_ALONE}
use Rattle.snap_explanation.specs.declared.wording.TheConstants.{SCRIPTS_ALONE, WHOLE_INPUT, NO_SEPARATOR, SEPARATORS}
use Rattle.snap_explanation.specs.declared.wording.TheConstants.{LINE_END, ALONE, SWAPPED, SHIPPED, NO_LISTING}
use Rattle.snap_explanation.specs.Part.{lines_through}
use Rattle.snap_explanation.specs.Spot.{nth_line}

-- the parts that an input has
abbrev pub parts_words : Layout → List ℕ
parts_words (layout.Parts subject.FirstPart texts.Schedule) = LISTING_AND_SCHEDULE.now
parts_words (layout.Parts subject.FirstPart texts.ScheduleAndCommands) = LISTING_AND_COMMANDS.now
parts_words (layout.Parts subject.FirstPart texts.Schedules) = LISTING_AND_SCHEDULES.now
parts_words (layout.Parts subject.FirstPart texts.Scripts) = LISTING_AND_SCRIPTS.now
parts_words (layout.Parts (subject.Shipped g) texts.Schedule) = SCHEDULE_ALONE.now
parts_words (layout.Parts (subject.Shipped g) texts.ScheduleAndCommands) = COMMANDS_ALONE.now
parts_words (layout.Parts (subject.Shipped g) texts.Schedules) = SCHEDULES_ALONE.now
parts_words (layout.Parts (subject.Shipped g) texts.Scripts) = SCRIPTS_ALONE.now
parts_words _ = WHOLE_INPUT.now

-- the lines behind parts, which are the lines `%` of an input but for the last one
abbrev pub lines_behind : (before : ℕ) → List (List ℕ) → List ℕ
lines_behind before [] = []
lines_behind before (p ∷ ps) = lines_through before p ∷ lines_behind (lines_through before p) ps

-- the lines `%` of an input
abbrev pub separators : List (List ℕ) → List ℕ
separators parts = take (length (lines_behind 0 parts) - 1) (lines_behind 0 parts)

-- the words of where the lines `%` are: the first eight
unfoldable pub separator_words : List ℕ → List ℕ
separator_words ks =
    if nat_eq (length ks) 0 then NO_SEPARATOR.now else SEPARATORS.now ++ numbers_text (take 8 ks) ++ LINE_END.now

-- the number of the first line that begins with `%` and has more, where the first one has number k; 0 where there is
-- none
abbrev pub near_separator : (k : ℕ) → List (List ℕ) → ℕ
near_separator k [] = 0
near_separator k (l ∷ ls) = if begins_with 37 l && not (ends_part l) then k else near_separator (k + 1) ls

abbrev pub near_words : ℕ → List ℕ
near_words k = if nat_lt 0 k then LINE.now ++ decimal k ++ NEAR.now else []

abbrev pub first_is : List ℕ → Option (List Token) → Bool
first_is w None = false
first_is w (Some []) = false
first_is w (Some (t ∷ ts)) = is_word w t

-- whether the first line with tokens begins with a word
abbrev pub is_front : List ℕ → List TextLine → Bool
is_front w [] = false
is_front w (l ∷ ls) = first_is w l.tokens

-- how an input begins
abbrev pub fronts_of : List ℕ → Fronts
fronts_of input = record {
  schedule = is_front (codes "shape") (text_lines input);
  listing = is_front (codes "kind") (text_lines input);
  listing_behind = is_front (codes "kind") (text_lines (part 1 (parts_of input)));
}

-- the text line that has not its form
abbrev pub formless_line : ListingRefusal → List (List ℕ) → List ℕ
formless_line (listing.BadHeader k) lines = nth_line k lines
formless_line (listing.BadLine k) lines = nth_line k lines
formless_line _ lines = []

-- the whole input is no listing, but has parts
abbrev pub has_parts : Fronts → ListingRefusal → List (List ℕ) → Bool
has_parts f r lines = f.schedule || begins_with 37 (formless_line r lines)

-- a listing that stands behind a schedule, or none
abbrev pub swapped_parts : Fronts → List ℕ
swapped_parts f = if f.schedule then (if f.listing_behind then SWAPPED.now else SHIPPED.now) else []

abbrev pub order_advice_of : Layout → List ℕ → Refusal → Fronts → List ℕ
order_advice_of layout.Listing input (refusal.Listing r) f = if has_parts f r (lines_of input) then ALONE.now else []
order_advice_of layout.NamedListing input (refusal.Listing r) f = if f.schedule then FILES_SWAPPED.now else []
order_advice_of layout.NamedSchedule input (refusal.Schedule r) f = if f.listing then FILES_SWAPPED.now else []
order_advice_of (layout.Parts subject.FirstPart t) input (refusal.Listing r) f = swapped_parts f
order_advice_of (layout.Parts subject.FirstPart t) input (refusal.WrongParts k) f = swapped_parts f
order_advice_of (layout.Parts (subject.Shipped g) t) input (refusal.Schedule r) f =
    if f.listing then NO_LISTING.now else []
order_advice_of _ input _ f = []

-- what is said of a part that stands in another one's place
unfoldable pub order_advice : Layout → List ℕ → Refusal → List ℕ
order_advice l input r = order_advice_of l input r (fronts_of input)

unfoldable pub parts_explained : Layout → List ℕ → List ℕ
parts_explained l input =
    parts_words l ++ separator_words (separators (parts_of input)) ++ near_words (near_separator 1 (lines_of input))
