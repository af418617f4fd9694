-- The laws of reading and printing histories.
use Rattle.std.specs.Prelude.{◌≡◌, ℕ, ◌<◌, ◌≤◌, ◌^◌, ⊤, List, length, Ok}
use Rattle.std.specs.List.{AllByRecursion}
use Rattle.snap_words.specs.Shape.{IsShape}
use Rattle.snap_semantics.specs.declared.event.Event.{Event}
use Rattle.snap_semantics.specs.declared.event.Happening.{Happening}
use Rattle.snap_semantics.specs.declared.event.Happening.TheVariants as what
use Rattle.snap_semantics.specs.ScheduleText.{FitsWords}
use Rattle.snap_judge.specs.History.{History, IsHistory}
use Rattle.snap_history_text.specs.HistoryText.{history_of, history_text, max_bytes}

-- what is read is a history
abbrev pub ReadsHistories : Type 0
ReadsHistories = (text : List ℕ) (h : History) → history_of text ≡ Ok h → IsHistory h

-- the numbers of what a process comes to have 64 bits
abbrev pub FitsHappening : Happening → Type 0
FitsHappening (what.Call o) = FitsWords o
FitsHappening (what.Answer view) = AllByRecursion (λ x. x < 2 ^ 64) view
FitsHappening what.Done = ⊤
FitsHappening what.Crash = ⊤

-- all numbers of an event have 64 bits, and its own is at least 1
abbrev pub FitsEvent : Event → Type 0
FitsEvent e = (0 < e.item) × (e.item < 2 ^ 64) × FitsHappening e.what

-- what is printed of a history is read as that history
abbrev pub PrintsAgain : Type 0
PrintsAgain =
    (h : History) → IsShape h.shape.n h.shape.w → IsHistory h → AllByRecursion FitsEvent h.events →
    length (history_text h) ≤ max_bytes → history_of (history_text h) ≡ Ok h
