-- The anatomy of a run (`anatomy_text`): one JSON object with the values of memory from write to write, what each item
-- did, and the scans with their double collects, the positions at which memory was their answer, and where that answer
-- comes from. Items count from 1, and position t is the state after t items.
use Rattle.std.specs.Prelude.{ℕ, zero, suc, List, [], ◌∷◌, ◌++◌, length, codes, decimal, replicate}
use Rattle.snap_words.specs.Shape.{Counts}
use Rattle.snap_words.specs.declared.kind.KindTag.{KindTag}
use Rattle.snap_words.specs.declared.kind.KindTag.TheVariants as kind
use Rattle.snap_runs.specs.Run.{Run}
use Rattle.snap_acts.specs.Trace.{trace_of}
use Rattle.snap_acts.specs.declared.act.TraceStep.{TraceStep}
use Rattle.snap_anatomy.specs.Json.{list_field, number_field, separator, text_field}
use Rattle.snap_anatomy.specs.Memory.{band_in, bands_of, values_from}
use Rattle.snap_anatomy.specs.Notes.{notes_of}
use Rattle.snap_anatomy.specs.ScanText.{scans_json_to}
use Rattle.snap_anatomy.specs.Scans.{scans_of}
use Rattle.snap_anatomy.specs.StepText.{steps_to}
use Rattle.snap_anatomy.specs.declared.memory.Band.{Band}
use Rattle.snap_anatomy.specs.declared.note.Note.{Note}

-- a kind as a listing names it
abbrev pub kind_name : KindTag → List ℕ
kind_name kind.Seq = codes "seq"
kind_name kind.Bits = codes "bit"
kind_name kind.Multi = codes "multi"

-- of how many processes, words and items
unfoldable pub head_json : KindTag → Counts → ℕ → List ℕ
head_json g shape items =
    codes "{\"kind\":\"" ++ kind_name g ++ codes "\"" ++ number_field (codes "processes") shape.n
    ++ number_field (codes "words") shape.w ++ number_field (codes "items") items

-- the values of memory from one write to the next
unfoldable pub band_json : List ℕ → List TraceStep → Band → List ℕ
band_json vs ss b =
    codes "{\"from\":" ++ decimal b.span.from ++ number_field (codes "to") b.span.to
    ++ list_field (codes "values") (values_from vs ss b.write) ++ codes "}"

-- the first k of these bands
abbrev pub bands_json_to : List ℕ → List TraceStep → List Band → ℕ → List ℕ
bands_json_to vs ss bs zero = []
bands_json_to vs ss bs (suc k) = bands_json_to vs ss bs k ++ separator k ++ band_json vs ss (band_in bs k)

unfoldable pub memory_json : List ℕ → List TraceStep → List Band → List ℕ
memory_json vs ss bs = codes ",\"memory\":[" ++ bands_json_to vs ss bs (length bs) ++ codes "]"

unfoldable pub steps_json : KindTag → List TraceStep → List Note → List ℕ
steps_json g ss ns = codes ",\"steps\":[" ++ steps_to g ss ns (length ss) ++ codes "]"

unfoldable pub scans_json : List TraceStep → List Note → List ℕ → List Band → List ℕ
scans_json ss ns vs bs =
    codes ",\"scans\":[" ++ scans_json_to ss ns vs bs (scans_of ss) (length (scans_of ss)) ++ codes "]}"

-- of a run with this trace, whose items did this besides
unfoldable pub anatomy_by : KindTag → Counts → List TraceStep → List Note → List ℕ
anatomy_by g shape ss ns =
    head_json g shape (length ss) ++ memory_json (replicate shape.w 0) ss (bands_of ss) ++ steps_json g ss ns
    ++ scans_json ss ns (replicate shape.w 0) (bands_of ss)

-- of a run
unfoldable pub anatomy_text : Run → List ℕ
anatomy_text r = anatomy_by r.source.kind r.shape (trace_of r) (notes_of r)
