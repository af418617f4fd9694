-- The lines of a report that speak of a `WritePlace`, where an item writes: of the registers, and of the locals of a process.
use Rattle.std.specs.Prelude.{ℕ, ◌+◌, List, [], ◌++◌, Option, Some, None, slice_get}
use Rattle.snap_words.specs.Word.{Word}
use Rattle.snap_words.specs.declared.address.Bank.{Bank}
use Rattle.snap_words.specs.declared.address.Bank.TheVariants as bank
use Rattle.snap_words.specs.declared.kind.KindTag.{KindTag}
use Rattle.snap_semantics.specs.declared.text.Sort.TheVariants as sort
use Rattle.snap_semantics.specs.Readers.{LocalValue, WordsValue, contents}
use Rattle.snap_semantics.specs.Report.{values_line, word_local}
use Rattle.snap_semantics.specs.Source.{Name}
use Rattle.snap_semantics.specs.State.{Locals, State, values}
use Rattle.snap_machine.specs.SeenContents.{local_at}
use Rattle.snap_machine.specs.declared.undo.WritePlace.{WritePlace}
use Rattle.snap_machine.specs.declared.undo.WritePlace.TheVariants as written
use Rattle.snap_report.specs.ReportLines.{local_lines, register_line}

-- the line of the values, which a register of the words changes
abbrev pub values_of : Bank → State → List ℕ
values_of bank.R S = values_line (values S)
values_of _ S = []

-- what stands of a write place before the processes: its register, and the values where it is a word
abbrev pub written_shared : KindTag → State → WritePlace → List ℕ
written_shared g S (written.Register a) =
    values_of a.bank S ++ register_line g a.bank a.i a.j (contents S.memory a.bank a.i a.j)
written_shared g S _ = []

-- the lines of a local, where there is one
abbrev pub named_lines : KindTag → Option (Name × LocalValue) → List ℕ
named_lines g None = []
named_lines g (Some e) = local_lines g e.0 e.1

abbrev pub word_there : KindTag → Name → ℕ → Option Word → List ℕ
word_there g x p None = []
word_there g x p (Some w) = word_local g x (p + 1) w

-- the line of a place of a `words` local, where there is one
abbrev pub place_line : KindTag → ℕ → Option (Name × LocalValue) → List ℕ
place_line g p (Some (x, WordsValue ws)) = word_there g x p (slice_get ws p)
place_line g p _ = []

-- what stands of a write place among the locals of its process
abbrev pub written_local : KindTag → Locals → WritePlace → List ℕ
written_local g l (written.Local sort k) = named_lines g (local_at l sort k)
written_local g l (written.WordsPlace k p) = place_line g p (local_at l sort.Words k)
written_local g l _ = []
