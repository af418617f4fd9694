-- The scans of a run with their double collects, and where their answers come from, as JSON.
use Rattle.std.specs.Prelude.{ℕ, zero, suc, ◌+◌, ◌-◌, Bool, true, false, List, [], ◌∷◌, ◌++◌, length, codes, decimal}
use Rattle.std.specs.Prelude.{Option, Some, None, get_or, nat_eq, if◌then◌else◌, slice_index}
use Rattle.snap_acts.specs.Loans.{step_at, view_taken}
use Rattle.snap_acts.specs.declared.act.Act.{Act}
use Rattle.snap_acts.specs.declared.act.Act.TheVariants as act
use Rattle.snap_acts.specs.declared.act.TraceStep.{TraceStep}
use Rattle.snap_acts.specs.declared.loans.Borrowed.{Borrowed}
use Rattle.snap_acts.specs.declared.loans.ScanPlaces.{ScanPlaces}
use Rattle.snap_anatomy.specs.Collects.{gap_of, mark_behind, places_between, start_of}
use Rattle.snap_anatomy.specs.Json.{bool_json, field, list_field, list_json, number_field, place_field, place_json}
use Rattle.snap_anatomy.specs.Json.{process_json, separator, span_json, text_field}
use Rattle.snap_anatomy.specs.Memory.{spans_to}
use Rattle.snap_anatomy.specs.Notes.{note_at}
use Rattle.snap_anatomy.specs.Scans.{call_before, end_or, scan_in, view_at}
use Rattle.snap_anatomy.specs.Sources.{last_gap, source_of}
use Rattle.snap_anatomy.specs.StepText.{act_fields}
use Rattle.snap_anatomy.specs.declared.collects.Sought.TheVariants as sought
use Rattle.snap_anatomy.specs.declared.memory.Band.{Band}
use Rattle.snap_anatomy.specs.declared.memory.Span.{Span}
use Rattle.snap_anatomy.specs.declared.note.Note.{Note}
use Rattle.snap_anatomy.specs.declared.note.Note.TheVariants as note
use Rattle.snap_anatomy.specs.declared.scans.Scan.{Scan}

-- what was done by an item, by these fields
unfoldable pub noted_json : ℕ → List ℕ → List ℕ
noted_json t fields = codes "{\"item\":" ++ decimal t ++ fields ++ codes "}"

-- what the step at a place did
abbrev pub act_json : List TraceStep → ℕ → List ℕ
act_json ss k = noted_json (step_at ss k).item (act_fields (step_at ss k).act)

-- the first j of the reads at these places
abbrev pub reads_to : List TraceStep → List ℕ → ℕ → List ℕ
reads_to ss ks zero = []
reads_to ss ks (suc j) = reads_to ss ks j ++ separator j ++ act_json ss (slice_index ks j)

abbrev pub gap_json : Option Span → List ℕ
gap_json None = codes "null"
gap_json (Some a) = span_json a

-- a row that was set by an item
abbrev pub row_json : ℕ → Note → List ℕ
row_json t (note.Row x values) = noted_json t (text_field (codes "row") x ++ list_field (codes "values") values)
row_json t _ = codes "null"

-- the row that was set at a place, if there is one
abbrev pub moved_json : List TraceStep → List Note → Option ℕ → List ℕ
moved_json ss ns None = codes "null"
moved_json ss ns (Some k) = row_json (step_at ss k).item (note_at ns k)

-- the reads of a double collect, and its gap
unfoldable pub reads_json : List TraceStep → (reads : List ℕ) → List ℕ
reads_json ss ks =
    codes "{\"reads\":[" ++ reads_to ss ks (length ks) ++ codes "]" ++ field (codes "gap") ++ gap_json (gap_of ss ks)

-- the test of a double collect at place t of a scan of process i that ends at place e, and the row that it sets then
unfoldable pub test_json : List TraceStep → List Note → (i t e : ℕ) → List ℕ
test_json ss ns i t e =
    field (codes "test") ++ act_json ss t ++ field (codes "moved") ++ moved_json ss ns (mark_behind ss ns i t e)

-- the double collect that the test at place j of these ends
unfoldable pub collect_json : List TraceStep → List Note → (i a e : ℕ) → (tests : List ℕ) → ℕ → List ℕ
collect_json ss ns i a e ts j =
    reads_json ss (places_between sought.Read ss i (start_of a ts j) (slice_index ts j))
    ++ test_json ss ns i (slice_index ts j) e ++ codes "}"

abbrev pub collects_to : List TraceStep → List Note → (i a e : ℕ) → (tests : List ℕ) → ℕ → List ℕ
collects_to ss ns i a e ts zero = []
collects_to ss ns i a e ts (suc j) =
    collects_to ss ns i a e ts j ++ separator j ++ collect_json ss ns i a e ts j

-- what was read behind the last test
unfoldable pub untested_json : List TraceStep → (tests : ℕ) → (reads : List ℕ) → List ℕ
untested_json ss j ks = separator j ++ reads_json ss ks ++ codes ",\"test\":null,\"moved\":null}"

-- the same where something was read
abbrev pub open_collect : List TraceStep → (tests : ℕ) → (reads : List ℕ) → List ℕ
open_collect ss j ks = if nat_eq (length ks) 0 then [] else untested_json ss j ks

-- the double collects of a scan of process i, between these places, whose tests these are
unfoldable pub collects_by : List TraceStep → List Note → (i a e : ℕ) → (tests : List ℕ) → List ℕ
collects_by ss ns i a e ts =
    collects_to ss ns i a e ts (length ts)
    ++ open_collect ss (length ts) (places_between sought.Read ss i (start_of a ts (length ts)) e)

unfoldable pub collects_json : List TraceStep → List Note → (i a e : ℕ) → List ℕ
collects_json ss ns i a e =
    field (codes "collects") ++ codes "["
    ++ collects_by ss ns i a e (places_between sought.Test ss i a e) ++ codes "]"

-- the first k of these spans
abbrev pub spans_json_to : List Span → ℕ → List ℕ
spans_json_to xs zero = []
spans_json_to xs (suc k) =
    spans_json_to xs k ++ separator k ++ span_json (get_or xs k (record { from = 0; to = 0 }))

unfoldable pub spans_json : List Span → List ℕ
spans_json xs = codes "[" ++ spans_json_to xs (length xs) ++ codes "]"

-- the spans within the one from a scan's beginning to its end, or outside of it, in which memory was this view
unfoldable pub held_json : (is_within : Bool) → Span → List ℕ → List ℕ → List TraceStep → List Band → List ℕ
held_json is_within within view vs ss bs = spans_json (spans_to is_within within view vs ss bs (length bs))

-- where memory was the view of a scan, from its beginning to its end and outside, if it has one
abbrev pub fits_json : Span → Option (List ℕ) → List ℕ → List TraceStep → List Band → List ℕ
fits_json within None vs ss bs = codes ",\"fits\":[],\"outside\":[]"
fits_json within (Some view) vs ss bs =
    field (codes "fits") ++ held_json true within view vs ss bs
    ++ field (codes "outside") ++ held_json false within view vs ss bs

abbrev pub view_json : Option (List ℕ) → List ℕ
view_json None = codes "null"
view_json (Some view) = list_json view

-- the place at which a scan began
abbrev pub began : Option ScanPlaces → Option ℕ
began None = None
began (Some s) = Some s.from

-- the call of the operation that wrote at a place
abbrev pub writing_call : List TraceStep → Option ℕ → Option ℕ
writing_call ss None = None
writing_call ss (Some k) = call_before ss (step_at ss k).process k

-- who wrote a view that was taken
unfoldable pub lent_json : List TraceStep → Borrowed → List ℕ
lent_json ss b =
    place_field (codes "wrote") ss b.written ++ field (codes "process") ++ process_json ss b.written
    ++ place_field (codes "update") ss (writing_call ss b.written) ++ place_field (codes "scan") ss (began b.lender)

-- the view that a scan took, if it took one
abbrev pub borrowed_json : List TraceStep → Option Borrowed → List ℕ
borrowed_json ss None = codes "null"
borrowed_json ss (Some b) = noted_json (step_at ss b.taken).item (lent_json ss b)

unfoldable pub sure_in : List TraceStep → ScanPlaces → Span → List ℕ
sure_in ss s a =
    codes "{\"scan\":" ++ decimal (step_at ss s.from).item
    ++ number_field (codes "from") a.from ++ number_field (codes "to") a.to ++ codes "}"

abbrev pub sure_by : List TraceStep → ScanPlaces → Option Span → List ℕ
sure_by ss s None = codes "null"
sure_by ss s (Some a) = sure_in ss s a

-- the gap in which a view was read, by the scan that read it
abbrev pub sure_json : List TraceStep → Option ScanPlaces → List ℕ
sure_json ss None = codes "null"
sure_json ss (Some s) = sure_by ss s (last_gap ss s)

-- where the view of a scan between these places comes from
unfoldable pub source_fields : List TraceStep → ScanPlaces → List ℕ
source_fields ss s =
    field (codes "borrowed") ++ borrowed_json ss (view_taken ss s)
    ++ field (codes "sure") ++ sure_json ss (source_of ss (Some s) (length ss))

-- where the view comes from with which a scan ended, if it has one
abbrev pub source_json : List TraceStep → ScanPlaces → Option (List ℕ) → List ℕ
source_json ss s None = codes ",\"borrowed\":null,\"sure\":null"
source_json ss s (Some view) = source_fields ss s

-- the places of a scan among so many, up to the last one where it goes on
abbrev pub places_of : ℕ → Scan → ScanPlaces
places_of count x = record { process = x.process; from = x.from; to = end_or count x.to }

-- what a scan answered, and its double collects
unfoldable pub answer_json : List TraceStep → List Note → ScanPlaces → Option (List ℕ) → List ℕ
answer_json ss ns s view =
    field (codes "answer") ++ view_json view ++ collects_json ss ns s.process s.from s.to

-- by whom, and from where to where
unfoldable pub scan_head : List TraceStep → Scan → List ℕ
scan_head ss x =
    codes "{\"process\":" ++ decimal x.process ++ place_field (codes "call") ss (Some x.from)
    ++ place_field (codes "end") ss x.to ++ place_field (codes "update") ss x.around

-- the item of the step at a place, and this where there is none
abbrev pub item_or : ℕ → List TraceStep → Option ℕ → ℕ
item_or last ss None = last
item_or last ss (Some k) = (step_at ss k).item

-- from the item that began a scan to the one that ended it, or to the end of the run
abbrev pub scan_span : List TraceStep → Scan → Span
scan_span ss x = record { from = (step_at ss x.from).item; to = item_or (length ss) ss x.to }

-- a scan with what it answered, where the values of memory were these before the first write, and these are its bands
unfoldable pub scan_json : List TraceStep → List Note → List ℕ → List Band → Scan → List ℕ
scan_json ss ns vs bs x =
    scan_head ss x ++ answer_json ss ns (places_of (length ss) x) (view_at ss ns x.to)
    ++ fits_json (scan_span ss x) (view_at ss ns x.to) vs ss bs
    ++ source_json ss (places_of (length ss) x) (view_at ss ns x.to) ++ codes "}"

-- the first k of these scans
abbrev pub scans_json_to : List TraceStep → List Note → List ℕ → List Band → List Scan → ℕ → List ℕ
scans_json_to ss ns vs bs xs zero = []
scans_json_to ss ns vs bs xs (suc k) =
    scans_json_to ss ns vs bs xs k ++ separator k ++ scan_json ss ns vs bs (scan_in xs k)
