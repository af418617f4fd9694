-- `found_collects`: how many double collects a scan takes, by a search in the events of a run.
use Rattle.std.specs.Prelude.{ℕ, ◌-◌, Bool, true, false, ◌&&◌, List, [], ◌∷◌, length, Option}
use Rattle.std.specs.Prelude.{Some, None, option_map, nat_eq, if◌then◌else◌}
use Rattle.snap_semantics.specs.declared.event.Event.{Event}
use Rattle.snap_semantics.specs.declared.event.Happening.{Happening}
use Rattle.snap_semantics.specs.declared.event.Happening.TheVariants.{Call, Answer}
use Rattle.snap_semantics.specs.declared.process.Op.TheVariants.{Scan}
use Rattle.snap_runs.specs.Run.{Run}
use Rattle.snap_runs.specs.Scan.{double_collects}
use Rattle.snap_record.specs.History.{collects_at}

-- an answer
abbrev pub is_answer : Happening → Bool
is_answer (Answer view) = true
is_answer _ = false

-- an answer of process i
abbrev pub is_answer_of : ℕ → Event → Bool
is_answer_of i e = nat_eq e.process i && is_answer e.what

-- the double collects of process i up to its first answer among these events, and up to the end where there is none
abbrev pub collects_until : Run → ℕ → List Event → ℕ
collects_until r i [] = double_collects r i 0 (length r.items)
collects_until r i (e ∷ es) = if is_answer_of i e then collects_at r e else collects_until r i es

-- the process whose scan is called
abbrev pub scans : ℕ → Happening → Option ℕ
scans i (Call Scan) = Some i
scans i _ = None

-- the double collects of the scan that this event calls, where it calls one and these events follow
abbrev pub scan_collects : Run → Event → List Event → Option ℕ
scan_collects r e es = option_map (λ i. collects_until r i es - collects_at r e) (scans e.process e.what)

-- the double collects of the scan that item c calls, by these events
abbrev pub found_collects : Run → ℕ → List Event → Option ℕ
found_collects r c [] = None
found_collects r c (e ∷ es) = if nat_eq e.item c then scan_collects r e es else found_collects r c es
