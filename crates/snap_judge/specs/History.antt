-- A history: what the callers of a snapshot object saw of it, in order. Nothing is said of what answered them.
use Rattle.std.specs.Prelude.{◌≡◌, ℕ, ◌<◌, List, [], ◌∷◌, length, ◌==◌, if◌then◌else◌}
use Rattle.std.specs.List.{AllPairs}
use Rattle.snap_words.specs.Shape.{Counts, IsOneOf}
use Rattle.snap_semantics.specs.declared.event.Event.{Event}
use Rattle.snap_semantics.specs.declared.event.Happening.{Happening}
use Rattle.snap_semantics.specs.declared.event.Happening.TheVariants as what
use Rattle.snap_semantics.specs.declared.process.Op.{Op}
use Rattle.snap_semantics.specs.declared.process.Op.TheVariants as op

-- How many processes call an object of how many words; and the calls, answers, ends and crashes, each with its number.
pub record History : Type 0 where
  pub shape : Counts
  pub events : List Event

-- What a process is at: nothing, an operation that it called, or it has crashed.
pub data Caller : Type 0 where
  Free : Caller
  Busy : Op → Caller
  Gone : Caller

-- what it is at after one of its events
abbrev pub caller_after : Happening → Caller
caller_after (what.Call o) = Busy o
caller_after (what.Answer view) = Free
caller_after what.Done = Free
caller_after what.Crash = Gone

-- The next event of a process may be this one: it calls if it is free, and what it called ends as it has to.
abbrev pub MayCome : Counts → Caller → Happening → Type 0
MayCome shape Free (what.Call op.Scan) = Unit {0}
MayCome shape Free (what.Call (op.Update word value)) = IsOneOf shape.w word
MayCome shape (Busy op.Scan) (what.Answer view) = length view ≡ shape.w
MayCome shape (Busy (op.Update word value)) what.Done = Unit {0}
MayCome shape Free what.Crash = Unit {0}
MayCome shape (Busy o) what.Crash = Unit {0}
MayCome shape caller happening = ⊥

-- what the processes are at, process i at `callers i`, after one of them has come to this
abbrev pub with_caller : (ℕ → Caller) → ℕ → Caller → ℕ → Caller
with_caller callers i caller j = if j == i then caller else callers j

-- Events may come one after another, from what the processes are at.
abbrev pub MayFollow : Counts → (ℕ → Caller) → List Event → Type 0
MayFollow shape callers [] = Unit {0}
MayFollow shape callers (e ∷ es) =
    IsOneOf shape.n e.process × MayCome shape (callers e.process) e.what
    × MayFollow shape (with_caller callers e.process (caller_after e.what)) es

-- The events are a history: each process calls, then what it called ends, then it calls again, until it crashes;
-- and their numbers rise.
pub record IsHistory (h : History) : Type 0 where
  pub rising : AllPairs (λ (a b : Event). a.item < b.item) h.events
  pub follow : MayFollow h.shape (λ i. Free) h.events
