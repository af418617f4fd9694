-- `report_text`: the printed report of a state of a run, with its registers, its processes
-- and the events up to it. Every line ends with a line feed; numbers are decimal.
use Rattle.std.specs.Prelude.{ℕ, ◌+◌, List, [], ◌∷◌, ◌++◌, Option, Some, None, codes, decimal}
use Rattle.snap_words.specs.Word.{Word}
use Rattle.snap_words.specs.declared.kind.KindTag.{KindTag}
use Rattle.snap_words.specs.declared.kind.KindTag.TheVariants as kind
use Rattle.snap_semantics.specs.declared.event.Event.{Event}
use Rattle.snap_semantics.specs.declared.event.Happening.{Happening}
use Rattle.snap_semantics.specs.declared.event.Happening.TheVariants.{Call, Answer, Done, Crash}
use Rattle.snap_semantics.specs.declared.process.Activity.{Activity}
use Rattle.snap_semantics.specs.declared.process.Cause.{Cause}
use Rattle.snap_semantics.specs.declared.process.Cause.TheVariants as cause
use Rattle.snap_semantics.specs.declared.process.Op.{Op}
use Rattle.snap_semantics.specs.declared.process.Op.TheVariants as op
use Rattle.snap_semantics.specs.declared.process.Status.{Status}
use Rattle.snap_semantics.specs.declared.process.Status.TheVariants.{Idle, Busy, Trapped, Crashed}
use Rattle.snap_semantics.specs.Source.{Name}
use Rattle.snap_semantics.specs.State.{Locals, Memory, NameMap, Process, State, values}

-- each number behind a space
abbrev pub numbers_text : List ℕ → List ℕ
numbers_text [] = []
numbers_text (x ∷ xs) = codes " " ++ decimal x ++ numbers_text xs

abbrev pub position_line : ℕ → ℕ → List ℕ
position_line t total = codes "position " ++ decimal t ++ codes " of " ++ decimal total ++ codes "\n"

abbrev pub values_line : List ℕ → List ℕ
values_line xs = codes "values" ++ numbers_text xs ++ codes "\n"

-- a word of each kind
abbrev pub word_text : KindTag → Word → List ℕ
word_text kind.Seq x = decimal x.datum ++ codes " seq " ++ decimal x.seq ++ codes " view" ++ numbers_text x.view
word_text kind.Bits x =
    decimal x.datum ++ codes " hands" ++ numbers_text x.handshakes ++ codes " toggle " ++ decimal x.toggle
    ++ codes " view" ++ numbers_text x.view
word_text kind.Multi x = decimal x.datum ++ codes " id " ++ decimal x.id ++ codes " toggle " ++ decimal x.toggle

-- the line of register r[k]
abbrev pub word_line : KindTag → ℕ → Word → List ℕ
word_line g k x = codes "r " ++ decimal k ++ codes " = " ++ word_text g x ++ codes "\n"

-- the lines of the words, the first of which is r[k]
abbrev pub word_lines : KindTag → ℕ → List Word → List ℕ
word_lines g k [] = []
word_lines g k (x ∷ xs) = word_line g k x ++ word_lines g (k + 1) xs

-- the line of bit q[i,j] or p[i,j]
abbrev pub bit_line : List ℕ → ℕ → ℕ → ℕ → List ℕ
bit_line bank i j x = bank ++ codes " " ++ decimal i ++ codes " " ++ decimal j ++ codes " = " ++ decimal x ++ codes "\n"

-- the lines of the bits of row i, the first of which is at place j
abbrev pub row_lines : List ℕ → ℕ → ℕ → List ℕ → List ℕ
row_lines bank i j [] = []
row_lines bank i j (x ∷ xs) = bit_line bank i j x ++ row_lines bank i (j + 1) xs

-- the lines of a bank of bits, the first of which is in row i
abbrev pub bank_lines : List ℕ → ℕ → List (List ℕ) → List ℕ
bank_lines bank i [] = []
bank_lines bank i (row ∷ rows) = row_lines bank i 1 row ++ bank_lines bank (i + 1) rows

-- the line of view v[i]
abbrev pub view_line : ℕ → List ℕ → List ℕ
view_line i view = codes "v " ++ decimal i ++ codes " =" ++ numbers_text view ++ codes "\n"

abbrev pub view_lines : ℕ → List (List ℕ) → List ℕ
view_lines i [] = []
view_lines i (view ∷ views) = view_line i view ++ view_lines (i + 1) views

-- the lines of the registers: words, bits and views
abbrev pub register_lines : KindTag → Memory → List ℕ
register_lines g m =
    word_lines g 1 m.words ++ bank_lines (codes "q") 1 m.q ++ bank_lines (codes "p") 1 m.p ++ view_lines 1 m.views

abbrev pub cause_text : Cause → List ℕ
cause_text cause.Index = codes "Index"
cause_text cause.Overflow = codes "Overflow"
cause_text cause.NotABit = codes "NotABit"
cause_text cause.Owner = codes "Owner"
cause_text cause.Nested = codes "Nested"
cause_text cause.BadEnd = codes "BadEnd"
cause_text cause.OffEnd = codes "OffEnd"

abbrev pub op_text : Op → List ℕ
op_text op.Scan = codes "scan"
op_text (op.Update word value) = codes "update " ++ decimal word ++ codes " " ++ decimal value

abbrev pub link_text : Option ℕ → List ℕ
link_text None = []
link_text (Some link) = codes " link " ++ decimal link

-- the line at which a process stopped, where it was busy
abbrev pub stop_text : Option Activity → List ℕ
stop_text None = []
stop_text (Some a) = codes " at " ++ decimal a.line

-- the printed status of a process
abbrev pub status_text : Status → List ℕ
status_text Idle = codes "idle"
status_text (Busy a) = op_text a.op ++ codes " at " ++ decimal a.line ++ link_text a.link
status_text (Trapped c a) = codes "trapped " ++ cause_text c ++ codes " at " ++ decimal a.line
status_text (Crashed was) = codes "crashed" ++ stop_text was

abbrev pub head_line : ℕ → Status → List ℕ
head_line i s = codes "process " ++ decimal i ++ codes " " ++ status_text s ++ codes "\n"

-- a scalar
abbrev pub number_local : Name → ℕ → List ℕ
number_local x v = codes "  " ++ x ++ codes " = " ++ decimal v ++ codes "\n"

-- a row or a view
abbrev pub list_local : Name → List ℕ → List ℕ
list_local x vs = codes "  " ++ x ++ codes " =" ++ numbers_text vs ++ codes "\n"

-- place p of a `words` local
abbrev pub word_local : KindTag → Name → ℕ → Word → List ℕ
word_local g x p v = codes "  " ++ x ++ codes " " ++ decimal p ++ codes " = " ++ word_text g v ++ codes "\n"

-- the places of a `words` local, the first of which is place p
abbrev pub words_local : KindTag → Name → ℕ → List Word → List ℕ
words_local g x p [] = []
words_local g x p (v ∷ vs) = word_local g x p v ++ words_local g x (p + 1) vs

-- the lines of all locals of a sort, in order of declaration
abbrev pub locals_lines : {A : Type 0} → (Name → A → List ℕ) → NameMap A → List ℕ
locals_lines f [] = []
locals_lines f (e ∷ es) = f e.0 e.1 ++ locals_lines f es

abbrev pub locals_text : KindTag → Locals → List ℕ
locals_text g l =
    locals_lines number_local l.scalars ++ locals_lines list_local l.rows
    ++ locals_lines (λ x vs. words_local g x 1 vs) l.words ++ locals_lines list_local l.views

-- the lines of a process: where it stands, and its locals
abbrev pub process_lines : KindTag → ℕ → Process → List ℕ
process_lines g i p = head_line i p.status ++ locals_text g p.locals

-- the lines of the processes, the first of which is process i
abbrev pub processes_lines : KindTag → ℕ → List Process → List ℕ
processes_lines g i [] = []
processes_lines g i (p ∷ ps) = process_lines g i p ++ processes_lines g (i + 1) ps

abbrev pub happening_text : Happening → List ℕ
happening_text (Call op) = op_text op
happening_text (Answer view) = codes "answer" ++ numbers_text view
happening_text Done = codes "done"
happening_text Crash = codes "crash"

abbrev pub event_line : Event → List ℕ
event_line e =
    codes "event " ++ decimal e.item ++ codes " " ++ decimal e.process ++ codes " "
    ++ happening_text e.what ++ codes "\n"

abbrev pub event_lines : List Event → List ℕ
event_lines [] = []
event_lines (e ∷ es) = event_line e ++ event_lines es

-- the report of a state after t of so many items, and of the events up to it
abbrev pub report_text : KindTag → State → List Event → ℕ → ℕ → List ℕ
report_text g s es t total =
    codes "report at " ++ decimal t ++ codes " of " ++ decimal total ++ codes "\n" ++ values_line (values s)
    ++ register_lines g s.memory ++ processes_lines g 1 s.processes ++ event_lines es
