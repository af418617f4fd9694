-- `spot`: a place of a refused input as it is shown: where it is, its line, and a mark under its column.
use Rattle.std.specs.Prelude.{ℕ, ◌+◌, ◌-◌, ◌^◌, List, [], ◌∷◌, ◌++◌, take, drop, replicate, Option, Some}
use Rattle.std.specs.Prelude.{None, nat_eq, nat_le, decimal, if◌then◌else◌}
use Rattle.snap_semantics.specs.Token.{lines_of}
use Rattle.snap_explanation.specs.Pieces.{PlacedToken, piece_len}
use Rattle.snap_explanation.specs.declared.part.PartName.{PartName}
use Rattle.snap_explanation.specs.declared.part.PartName.TheVariants as name
use Rattle.snap_explanation.specs.declared.wording.TheConstants.{LINE, OF_THE_INPUT, OF, COLUMN, PLACE_END, MARGIN}
use Rattle.snap_explanation.specs.declared.wording.TheConstants.{MARK}
use Rattle.snap_explanation.specs.declared.wording.TheConstants.{LINE_END, THE_LISTING, THE_SCHEDULE, NTH_SCHEDULE}
use Rattle.snap_explanation.specs.declared.wording.TheConstants.{THE_SCRIPTS, THE_COMMANDS, THE_HISTORY}
use Rattle.snap_explanation.specs.Part.{Part}
use Rattle.snap_explanation.specs.Said.{shown}

-- the line of this number, from 1; empty where there is none
abbrev pub nth_line : ℕ → List (List ℕ) → List ℕ
nth_line k [] = []
nth_line k (line ∷ lines) = if nat_le k 1 then line else nth_line (k - 1) lines

-- a line of a part
abbrev pub text_of : Part → ℕ → List ℕ
text_of p k = nth_line k (lines_of p.text)

-- how many bytes of a line stand before its comment
abbrev pub comment_start : List ℕ → ℕ
comment_start [] = 0
comment_start (b ∷ bs) = if nat_eq b 35 then 0 else comment_start bs + 1

-- the piece in a column; none behind the line
abbrev pub piece_at : ℕ → List ℕ → List ℕ
piece_at column line = take (piece_len (drop (column - 1) line)) (drop (column - 1) line)

-- the column of token k, from 0; behind the last one that of the end of the line
abbrev pub column_of : List ℕ → Option PlacedToken → ℕ
column_of line None = comment_start line + 1
column_of line (Some t) = t.column

abbrev pub part_name_text : PartName → List ℕ
part_name_text name.Listing = THE_LISTING.now
part_name_text name.Schedule = THE_SCHEDULE.now
part_name_text (name.NthSchedule k) = NTH_SCHEDULE.now ++ decimal k
part_name_text name.Scripts = THE_SCRIPTS.now
part_name_text name.Commands = THE_COMMANDS.now
part_name_text name.History = THE_HISTORY.now

-- the number of a line of the input; of one that no input has, as it is
abbrev pub line_of_input : (before line : ℕ) → ℕ
line_of_input before line = if nat_le line (2 ^ 64 - 1 - before) then before + line else line

-- where a line of a part stands
unfoldable pub line_place : Part → ℕ → List ℕ
line_place p line =
    LINE.now ++ decimal (line_of_input p.before line) ++ OF_THE_INPUT.now ++ decimal line ++ OF.now
    ++ part_name_text p.name

-- how many bytes of a line are left out before a column
abbrev pub left_out : ℕ → ℕ
left_out column = column - 60

unfoldable pub column_words : ℕ → List ℕ
column_words column = COLUMN.now ++ decimal column ++ PLACE_END.now

-- a line of text around a column
unfoldable pub window : List ℕ → ℕ → List ℕ
window text column = MARGIN.now ++ shown (take 72 (drop (left_out column) text)) ++ LINE_END.now

-- a mark under a column
unfoldable pub mark : ℕ → List ℕ
mark column = MARGIN.now ++ replicate (column - 1 - left_out column) 32 ++ MARK.now

-- a line around a column, marked
unfoldable pub marked : List ℕ → ℕ → List ℕ
marked text column = window text column ++ mark column

-- a place: where it stands, its line, and a mark under its column
unfoldable pub spot : Part → (line column : ℕ) → List ℕ
spot p line column = line_place p line ++ column_words column ++ marked (text_of p line) column

-- a line as a place, where no column of it is one
unfoldable pub line_spot : Part → ℕ → List ℕ
line_spot p line = line_place p line ++ PLACE_END.now ++ window (text_of p line) 1
