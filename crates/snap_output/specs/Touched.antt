-- What a trace says of the lines of a report that an item changes, each of which says of whom it speaks.
use Rattle.std.specs.Prelude.{ℕ, ◌+◌, List, [], ◌∷◌, ◌++◌, bytes_eq, codes, decimal, if◌then◌else◌}
use Rattle.snap_words.specs.declared.kind.KindTag.{KindTag}
use Rattle.snap_semantics.specs.declared.event.Event.{Event}
use Rattle.snap_semantics.specs.Report.{event_line, head_line}
use Rattle.snap_semantics.specs.State.{Process, State, process_at}
use Rattle.snap_semantics.specs.Token.{lines_of}
use Rattle.snap_text.specs.Changes.{text_between}
use Rattle.snap_machine.specs.declared.undo.WritePlace.{WritePlace}
use Rattle.snap_report.specs.WrittenLines.{written_local, written_shared}

-- the line of a local, with its process in place of its first space
abbrev pub of_process : ℕ → List ℕ → List ℕ
of_process i [] = []
of_process i (b ∷ bs) = codes "process " ++ decimal i ++ bs

-- the first lines of processes, the first of which is process i
abbrev pub head_texts : ℕ → List Process → List (List ℕ)
head_texts i [] = []
head_texts i (p ∷ ps) = head_line i p.status ∷ head_texts (i + 1) ps

-- a line and the one that stands in its place, each with its line feed; nothing where they are the same
abbrev pub changed_line : List ℕ → List ℕ → List ℕ
changed_line x y = if bytes_eq x y then [] else codes "- " ++ x ++ codes "+ " ++ y

-- the same of a line of a local of process i
abbrev pub changed_local : ℕ → List ℕ → List ℕ → List ℕ
changed_local i x y = if bytes_eq x y then [] else codes "- " ++ of_process i x ++ codes "+ " ++ of_process i y

-- events that came
abbrev pub came_text : List Event → List ℕ
came_text [] = []
came_text (e ∷ es) = codes "+ " ++ event_line e ++ came_text es

-- what changed from these lines to those: of the registers, of the first line of process i, and of a local of it
abbrev pub changes_text : ℕ → (registers registers' head head' local local' : List ℕ) → List ℕ
changes_text i registers registers' head head' local local' =
    text_between (lines_of registers) (lines_of registers') ++ changed_line head head' ++ changed_local i local local'

-- What an item of process i changed: the register where it writes, with the values where it is a word; how its process
-- stands, and the local that it writes; and events that came.
abbrev pub touched_text : KindTag → ℕ → WritePlace → State → State → List Event → List ℕ
touched_text g i written S S' new =
    changes_text i (written_shared g S written) (written_shared g S' written)
    (head_line i (process_at S i).status) (head_line i (process_at S' i).status)
    (written_local g (process_at S i).locals written) (written_local g (process_at S' i).locals written)
    ++ came_text new
