-- The double collects of a scan: what was read for each, the gap between its two collects, its test, and the row in
-- which it is noted who has moved. A double collect ends with a line `if all`; what a process reads from the line
-- before it on, or from the beginning of the scan on, is what is read for it.
use Rattle.std.specs.Prelude.{ℕ, zero, suc, ◌+◌, ◌-◌, Bool, true, false, ◌&&◌, ◌||◌, List, [], ◌∷◌, ◌++◌, length}
use Rattle.std.specs.Prelude.{Option, Some, None, bytes_eq, get_or, nat_eq, nat_lt, if◌then◌else◌, slice_index}
use Rattle.snap_semantics.specs.Source.{Name}
use Rattle.snap_acts.specs.Loans.{step_at}
use Rattle.snap_acts.specs.declared.act.Act.{Act}
use Rattle.snap_acts.specs.declared.act.Act.TheVariants as act
use Rattle.snap_acts.specs.declared.act.TraceStep.{TraceStep}
use Rattle.snap_anatomy.specs.Notes.{note_at}
use Rattle.snap_anatomy.specs.declared.collects.Sought.{Sought}
use Rattle.snap_anatomy.specs.declared.collects.Sought.TheVariants as sought
use Rattle.snap_anatomy.specs.declared.memory.Span.{Span}
use Rattle.snap_anatomy.specs.declared.note.Note.{Note}
use Rattle.snap_anatomy.specs.declared.note.Note.TheVariants as note

abbrev pub is_read : Act → Bool
is_read (act.Read word spot) = true
is_read _ = false

abbrev pub is_test : Act → Bool
is_test (act.Test passed) = true
is_test _ = false

-- a test that passed
abbrev pub is_passed : Act → Bool
is_passed (act.Test passed) = passed
is_passed _ = false

-- whether a step of process i is what is sought
abbrev pub is_sought : Sought → ℕ → TraceStep → Bool
is_sought sought.Read i s = is_read s.act && nat_eq s.process i
is_sought sought.Test i s = is_test s.act && nat_eq s.process i

unfoldable pub place_if : Sought → List TraceStep → (i k : ℕ) → List ℕ
place_if x ss i k = if is_sought x i (step_at ss k) then k ∷ [] else []

-- the places, of so many from place a on, at which process i does what is sought
abbrev pub places_in : Sought → List TraceStep → (i a : ℕ) → ℕ → List ℕ
places_in x ss i a zero = []
places_in x ss i a (suc count) = places_in x ss i a count ++ place_if x ss i (a + count)

-- the same between two places
abbrev pub places_between : Sought → List TraceStep → (i a b : ℕ) → List ℕ
places_between x ss i a b = places_in x ss i a (b - a)

-- the place from which on is read for a double collect: the test before it, or the beginning of the scan
abbrev pub start_of : ℕ → (tests : List ℕ) → ℕ → ℕ
start_of a ts zero = a
start_of a ts (suc j) = slice_index ts j

-- the local into which a word is read
abbrev pub local_read : Act → Option Name
local_read (act.Read word spot) = Some spot.words
local_read _ = None

-- a word is read into this local
abbrev pub reads_local : Name → Act → Bool
reads_local x (act.Read word spot) = bytes_eq spot.words x
reads_local x _ = false

-- the last of the first j reads that is into another local
abbrev pub last_other : List TraceStep → Name → (reads : List ℕ) → ℕ → Option ℕ
last_other ss x ks zero = None
last_other ss x ks (suc j) =
    if reads_local x (step_at ss (slice_index ks j)).act then last_other ss x ks j else Some (slice_index ks j)

-- the first of these reads that is into the local
abbrev pub first_same : List TraceStep → Name → (reads : List ℕ) → Option ℕ
first_same ss x [] = None
first_same ss x (k ∷ ks) = if reads_local x (step_at ss k).act then Some k else first_same ss x ks

-- from the item at one place to that at another one behind it
abbrev pub items_between : List TraceStep → Option ℕ → Option ℕ → Option Span
items_between ss (Some a) (Some b) =
    if nat_lt a b then Some (record { from = (step_at ss a).item; to = (step_at ss b).item }) else None
items_between ss _ _ = None

abbrev pub gap_into : List TraceStep → (reads : List ℕ) → Option Name → Option Span
gap_into ss ks None = None
gap_into ss ks (Some x) = items_between ss (last_other ss x ks (length ks)) (first_same ss x ks)

-- The gap of a double collect for which was read at these places: from the last read of the first collect to the first
-- read of the second one. The second collect reads into the local into which was read last, the first one into another.
unfoldable pub gap_of : List TraceStep → (reads : List ℕ) → Option Span
gap_of ss ks =
    if nat_eq (length ks) 0
    then None
    else gap_into ss ks (local_read (step_at ss (slice_index ks (length ks - 1))).act)

-- a row was set
abbrev pub is_row : Note → Bool
is_row (note.Row x values) = true
is_row _ = false

-- process i sets a row, or goes on to the next double collect
abbrev pub is_mark : ℕ → TraceStep → Note → Bool
is_mark i s n = (is_sought sought.Read i s || is_sought sought.Test i s) || (is_row n && nat_eq s.process i)

-- the first of so many places from place k on at which process i sets a row, or goes on to the next double collect
abbrev pub first_mark : List TraceStep → List Note → (i k : ℕ) → ℕ → Option ℕ
first_mark ss ns i k zero = None
first_mark ss ns i k (suc count) =
    if is_mark i (step_at ss k) (note_at ns k) then Some k else first_mark ss ns i (k + 1) count

-- where process i sets a row, or goes on to the next double collect, behind place t and before place e
abbrev pub mark_behind : List TraceStep → List Note → (i t e : ℕ) → Option ℕ
mark_behind ss ns i t e = if nat_lt t e then first_mark ss ns i (t + 1) (e - (t + 1)) else None
