-- What one turn of a schedule made by chance may be, by the numbers drawn for it: steps of one process, before which
-- it may call an operation.
use Rattle.std.specs.Prelude.{ℕ, Bool, ◌+◌, ◌*◌, ◌/◌, ◌%◌, ◌^◌, ◌&&◌, List, [], ◌∷◌, ◌++◌, Option, Some, None, min}
use Rattle.std.specs.Prelude.{nat_eq, nat_lt, replicate, if◌then◌else◌}
use Rattle.snap_semantics.specs.declared.process.Item.{Item}
use Rattle.snap_semantics.specs.declared.process.Item.TheVariants.{Step, Call}
use Rattle.snap_semantics.specs.declared.process.Op.{Op}
use Rattle.snap_semantics.specs.declared.process.Op.TheVariants.{Scan, Update}
use Rattle.snap_chance.specs.Plan.{Plan}
use Rattle.snap_chance.specs.declared.draws.Draws.{Draws}
use Rattle.snap_chance.specs.declared.turns.Turn.{Turn}

-- the process that is drawn for a turn
abbrev pub process_of : Plan → Draws → ℕ
process_of p d = d.process % p.shape.n + 1

-- how many steps a burst is: 1 to 128, short bursts as often as long ones
abbrev pub burst_of : Draws → ℕ
burst_of d = d.length % 2 ^ (d.scale % 8) + 1

-- the word that an update of process i sets
abbrev pub word_of : Plan → ℕ → Draws → ℕ
word_of p i d = if p.owns then i else d.word % p.shape.w + 1

-- whether the values of run k repeat: those of half of the runs, where the plan says so
abbrev pub repeats : Plan → (k : ℕ) → Bool
repeats p k = nat_lt 0 p.repeated && nat_eq (k / 2 % 2) 1

-- the value that the update of turn t of run k sets: t, or, where values repeat, one of a few
abbrev pub value_of : Plan → (k t : ℕ) → Draws → ℕ
value_of p k t d = if repeats p k then d.value % (p.repeated + 1) else t

abbrev pub update_of : Plan → (k t i : ℕ) → Draws → Op
update_of p k t i d = Update (word_of p i d) (value_of p k t d)

-- a scan as often as an update
abbrev pub operation_of : Plan → (k t i : ℕ) → Draws → Op
operation_of p k t i d = if nat_eq (d.scan % 2) 0 then Scan else update_of p k t i d

-- one step, before which one turn in eight calls an operation
abbrev pub coin_turn : Plan → (k t : ℕ) → Draws → Turn
coin_turn p k t d = record {
  process = process_of p d;
  call = if nat_eq (d.call % 8) 0 then Some (operation_of p k t (process_of p d) d) else None;
  steps = 1;
}

-- a burst of steps, before which one turn in two calls an operation
abbrev pub burst_turn : Plan → (k t : ℕ) → Draws → Turn
burst_turn p k t d = record {
  process = process_of p d;
  call = if nat_eq (d.call % 2) 0 then Some (operation_of p k t (process_of p d) d) else None;
  steps = burst_of d;
}

-- the process whose scans are interrupted in run k
abbrev pub interrupted_process : Plan → ℕ → ℕ
interrupted_process p k = k / 2 % p.shape.n + 1

-- a few steps of the process that scans
abbrev pub scanning_turn : Plan → (k : ℕ) → Draws → Turn
scanning_turn p k d = record {
  process = interrupted_process p k;
  call = if nat_eq (d.call % 4) 0 then Some Scan else None;
  steps = d.length % 8 + 1;
}

-- how many steps make an update whole, where nothing comes between them and the processes are few
abbrev pub whole_update : Plan → ℕ
whole_update p = min (24 * p.shape.n) 128

-- an update, whole or its first part
abbrev pub updating_turn : Plan → (k t : ℕ) → Draws → Turn
updating_turn p k t d = record {
  process = process_of p d;
  call = Some (update_of p k t (process_of p d) d);
  steps = if nat_eq (d.call % 4) 0 then d.length % whole_update p + 1 else whole_update p;
}

-- a turn of the process that scans, or one that interrupts it
abbrev pub interrupted_turn : Plan → (k t : ℕ) → Draws → Turn
interrupted_turn p k t d = if nat_eq (d.scale % 2) 0 then scanning_turn p k d else updating_turn p k t d

-- the processes of the rounds of run k: number 0 scans, 1 and 2 update
abbrev pub round_process : Plan → (k number : ℕ) → ℕ
round_process p k number = (k / 8 + number) % p.shape.n + 1

-- the value that an update of a round sets: t, or, where values repeat, one that the updates of a round share; the
-- next round has the next
abbrev pub round_value : Plan → (k t : ℕ) → ℕ
round_value p k t = if repeats p k then t / 3 % (p.repeated + 1) else t

-- a scan, where none is going on, and a few of its steps
abbrev pub round_scan : Plan → (k : ℕ) → Draws → Turn
round_scan p k d = record { process = round_process p k 0; call = Some Scan; steps = d.length % 4 + 1 }

-- a whole update of one of two processes
abbrev pub round_update : Plan → (k t : ℕ) → Draws → Turn
round_update p k t d =
    let process = round_process p k (d.process % 2 + 1) in
    record { process = process; call = Some (Update (word_of p process d) (round_value p k t)); steps = whole_update p }

-- a turn of a round, which has three: the last is of the process that scans
abbrev pub round_turn : Plan → (k t : ℕ) → Draws → Turn
round_turn p k t d = if nat_eq (t % 3) 0 then round_scan p k d else round_update p k t d

-- what process i is asked for
abbrev pub call_items : ℕ → Option Op → List Item
call_items i None = []
call_items i (Some op) = Call i op ∷ []

-- what a process is asked for, and its steps
abbrev pub asked_items : Turn → List Item
asked_items a = call_items a.process a.call ++ replicate a.steps (Step a.process)
