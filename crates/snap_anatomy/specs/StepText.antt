-- What each item of a run did, as JSON.
use Rattle.std.specs.Prelude.{ℕ, zero, suc, List, [], ◌∷◌, ◌++◌, codes, decimal}
use Rattle.snap_words.specs.declared.any_word.AnyWord.{AnyWord}
use Rattle.snap_words.specs.declared.kind.KindTag.{KindTag}
use Rattle.snap_words.specs.declared.kind.KindTag.TheVariants as kind
use Rattle.snap_semantics.specs.declared.process.Op.{Op}
use Rattle.snap_semantics.specs.declared.process.Op.TheVariants as op
use Rattle.snap_acts.specs.Loans.{step_at}
use Rattle.snap_acts.specs.declared.act.Act.{Act}
use Rattle.snap_acts.specs.declared.act.Act.TheVariants as act
use Rattle.snap_acts.specs.declared.act.Spot.{Spot}
use Rattle.snap_acts.specs.declared.act.TraceStep.{TraceStep}
use Rattle.snap_anatomy.specs.Json.{bool_json, field, list_field, number_field, separator, text_field}
use Rattle.snap_anatomy.specs.Notes.{note_at}
use Rattle.snap_anatomy.specs.declared.note.Note.{Note}
use Rattle.snap_anatomy.specs.declared.note.Note.TheVariants as note

-- what is said of a step that the trace says no more of
abbrev pub other_name : Note → List ℕ
other_name (note.Row x values) = codes "set"
other_name _ = codes "stepped"

abbrev pub act_name : Act → Note → List ℕ
act_name (act.Call o) n = codes "called"
act_name (act.Answer view x) n = codes "answered"
act_name act.Done n = codes "finished"
act_name act.Crash n = codes "crashed"
act_name act.Trap n = codes "trapped"
act_name act.Skip n = codes "skipped"
act_name (act.Write word values x) n = codes "wrote"
act_name (act.Publish k x) n = codes "published"
act_name (act.Read word spot) n = codes "read"
act_name (act.Look k x) n = codes "looked"
act_name (act.Borrow spot x) n = codes "borrowed"
act_name (act.Collect x) n = codes "collected"
act_name (act.Test passed) n = codes "tested"
act_name act.Enter n = codes "entered"
act_name (act.Leave x) n = codes "left"
act_name act.Other n = other_name n

abbrev pub op_fields : Op → List ℕ
op_fields op.Scan = text_field (codes "op") (codes "scan")
op_fields (op.Update word value) =
    text_field (codes "op") (codes "update") ++ number_field (codes "word") word ++ number_field (codes "value") value

-- a place of a `words` local, under this name
unfoldable pub spot_fields : List ℕ → Spot → List ℕ
spot_fields name spot = text_field name spot.words ++ number_field (codes "place") spot.place

abbrev pub act_fields : Act → List ℕ
act_fields (act.Call o) = op_fields o
act_fields (act.Answer view x) = list_field (codes "view") view
act_fields (act.Write word values x) = number_field (codes "word") word ++ list_field (codes "values") values
act_fields (act.Publish k x) = number_field (codes "register") k ++ text_field (codes "from") x
act_fields (act.Read word spot) = number_field (codes "word") word ++ spot_fields (codes "into") spot
act_fields (act.Look k x) = number_field (codes "register") k ++ text_field (codes "into") x
act_fields (act.Borrow spot x) = spot_fields (codes "from") spot ++ text_field (codes "into") x
act_fields (act.Collect x) = text_field (codes "into") x
act_fields (act.Test passed) = field (codes "passed") ++ bool_json passed
act_fields (act.Leave x) = text_field (codes "returned") x
act_fields _ = []

-- what a word has behind its datum, by its kind
abbrev pub word_fields : KindTag → AnyWord → List ℕ
word_fields kind.Seq w = number_field (codes "seq") w.seq ++ list_field (codes "view") w.view
word_fields kind.Bits w =
    list_field (codes "hands") w.handshakes ++ number_field (codes "toggle") w.toggle
    ++ list_field (codes "view") w.view
word_fields kind.Multi w = number_field (codes "id") w.id ++ number_field (codes "toggle") w.toggle

unfoldable pub word_json : KindTag → AnyWord → List ℕ
word_json g w = codes "{\"datum\":" ++ decimal w.datum ++ word_fields g w ++ codes "}"

abbrev pub note_fields : KindTag → Note → List ℕ
note_fields g (note.Word w) = field (codes "has") ++ word_json g w
note_fields g (note.View v) = list_field (codes "view") v
note_fields g (note.Row x values) = text_field (codes "row") x ++ list_field (codes "values") values
note_fields g note.Nothing = []

-- where and by whom
unfoldable pub step_head : TraceStep → List ℕ
step_head s =
    codes "{\"item\":" ++ decimal s.item ++ number_field (codes "process") s.process ++ number_field (codes "line") s.line

unfoldable pub step_json : KindTag → TraceStep → Note → List ℕ
step_json g s n =
    step_head s ++ text_field (codes "does") (act_name s.act n) ++ act_fields s.act ++ note_fields g n ++ codes "}"

-- the first k steps
abbrev pub steps_to : KindTag → List TraceStep → List Note → ℕ → List ℕ
steps_to g ss ns zero = []
steps_to g ss ns (suc k) = steps_to g ss ns k ++ separator k ++ step_json g (step_at ss k) (note_at ns k)
