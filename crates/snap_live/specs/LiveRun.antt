-- `IsLive`: what a live run gives, a record in which each process plays its script; and `MayFault`, when it may give
-- a fault. What its gate may answer to a process at a turn is `may`.
use Rattle.std.specs.Prelude.{◌≡◌, ℕ, ◌+◌, ◌-◌, ◌*◌, ◌<◌, ◌≤◌, ◌⊎◌, List, [], ◌∷◌, length}
use Rattle.std.specs.Prelude.{map, slice_index_or, Bool, Option, Some, None}
use Rattle.snap_words.specs.Shape.{IsOneOf, max_items}
use Rattle.snap_semantics.specs.declared.process.Item.{Item}
use Rattle.snap_semantics.specs.declared.fault.Fault.{Fault}
use Rattle.snap_semantics.specs.declared.fault.Fault.TheVariants as fault
use Rattle.snap_runs.specs.Run.{Run, IsValidRun}
use Rattle.snap_live.specs.declared.seat_state.Setting.{Setting}
use Rattle.snap_live.specs.declared.seat.Turn.{Turn}
use Rattle.snap_live.specs.declared.worker.Stop.{Stop}
use Rattle.snap_live.specs.declared.worker.Stop.TheVariants as stop
use Rattle.snap_semantics.specs.declared.refusal.LiveRefusal.{LiveRefusal}
use Rattle.snap_semantics.specs.declared.refusal.LiveRefusal.TheVariants.{Full, TurnLimit, SeatMissing}
use Rattle.snap_live.specs.Turns.{run_of, setting_of, turns_of}
use Rattle.snap_sched.specs.ScriptText.{Script}
use Rattle.snap_live.specs.Script.{script_at}
use Rattle.snap_live.specs.Play.{IsPlay, IsBegun}
use Rattle.snap_live.specs.Shown.{DeskView}
use Rattle.snap_live.specs.Worker.{shown, IsLetOn, MayGoOn, MayNotGoOn, WorkedView, IsWorked}

-- the turns of process k + 1
abbrev pub turns_at : List (List Turn) → ℕ → List Turn
turns_at turns k = slice_index_or turns k []

-- The turns of a process in the record, which are a play of its script, each after the gate.
pub record Played (may : ℕ → ℕ → Bool → Type 0) (base : Setting) (items : List Item) (process : ℕ) (script : Script)
    (limit : ℕ) (turns : List Turn) : Type 0 where
  pub told : turns ≡ map shown (turns_of base process items)
  pub plays : IsPlay script (turns_of base process items)
  pub few : length (turns_of base process items) ≤ limit
  pub let_on : IsLetOn may process (length (turns_of base process items))

-- the record is of the listing and the shape, and has the turns of each process, which are a play of its script
pub record IsLive (may : ℕ → ℕ → Bool → Type 0) (base : Setting) (scripts : List Script) (limit : ℕ) (kept : Run)
    (turns : List (List Turn)) : Type 0 where
  pub of_base : setting_of kept ≡ base
  pub each_process : length turns ≡ base.shape.n
  pub played : (k : ℕ) → k < base.shape.n →
      Played may base kept.items (k + 1) (script_at scripts k) limit (turns_at turns k)

-- the part of a process in a record that was given up: a whole or a begun play of its script, of at most so many
-- turns, each after the gate
pub record IsPart (may : ℕ → ℕ → Bool → Type 0) (base : Setting) (items : List Item) (process : ℕ)
    (script : Script) (limit : ℕ) : Type 0 where
  pub plays : IsPlay script (turns_of base process items) ⊎ IsBegun script (turns_of base process items)
  pub few : length (turns_of base process items) ≤ limit
  pub let_on : IsLetOn may process (length (turns_of base process items))

-- A run was given up with these items in its record, at this process. The record fits, and has a part of each
-- process. The process is the least that did not come to the end of its script: its part is begun, and those of the
-- processes below it are whole.
pub record GivesUp (may : ℕ → ℕ → Bool → Type 0) (base : Setting) (scripts : List Script) (limit process : ℕ)
    (items : List Item) : Type 0 where
  pub fits : IsValidRun (run_of base items)
  pub short : length items ≤ max_items
  pub parts : (k : ℕ) → k < base.shape.n → IsPart may base items (k + 1) (script_at scripts k) limit
  pub one : IsOneOf base.shape.n process
  pub begun : IsBegun (script_at scripts (process - 1)) (turns_of base process items)
  pub whole : (k : ℕ) → k + 1 < process → IsPlay (script_at scripts k) (turns_of base (k + 1) items)

-- V1: a run was given up with a full record, at a process that could have gone on
pub record IsFull (may : ℕ → ℕ → Bool → Type 0) (base : Setting) (scripts : List Script) (limit : ℕ) : Type 0 where
  pub items : List Item
  pub process : ℕ
  pub given_up : GivesUp may base scripts limit process items
  pub full : length items ≡ max_items
  pub goes_on : MayGoOn may process (length (turns_of base process items)) limit
  pub many : max_items < base.shape.n * limit

-- V2: a run was given up at this process, which may not have gone on
pub record IsLimited (may : ℕ → ℕ → Bool → Type 0) (base : Setting) (scripts : List Script)
    (limit process : ℕ) : Type 0 where
  pub items : List Item
  pub given_up : GivesUp may base scripts limit process items
  pub no_further : MayNotGoOn may process (length (turns_of base process items)) limit

-- when each refusal may come
abbrev pub MayFault : (may : ℕ → ℕ → Bool → Type 0) → Setting → List Script → ℕ → Fault LiveRefusal → Type 0
MayFault may base scripts limit fault.Memory = Unit {0}
MayFault may base scripts limit (fault.Refused (Full n)) = (n ≡ max_items) × IsFull may base scripts limit
MayFault may base scripts limit (fault.Refused (TurnLimit i)) = IsLimited may base scripts limit i
MayFault may base scripts limit (fault.Refused (SeatMissing i)) = ⊥

-- the first of these to stop before its end, with its process
abbrev pub or_first : ℕ → Option Stop → Option (ℕ × Stop) → Option (ℕ × Stop)
or_first p None later = later
or_first p (Some s) later = Some (p, s)

abbrev pub first_stop : List WorkedView → Option (ℕ × Stop)
first_stop [] = None
first_stop (w ∷ ws) = or_first w.seat.process w.stop (first_stop ws)

-- the fault of the whole run
abbrev pub fault_of : ℕ → Stop → Fault LiveRefusal
fault_of p stop.Memory = fault.Memory
fault_of p stop.Full = fault.Refused (Full max_items)
fault_of p stop.TurnLimit = fault.Refused (TurnLimit p)

-- the first that was found, or this one
abbrev pub then_first : Option (ℕ × Stop) → ℕ → Option Stop → Option (ℕ × Stop)
then_first (Some s) p later = Some s
then_first None p later = or_first p later None

-- the workers of processes 1, 2, .. in order
pub record AllWorked (may : ℕ → ℕ → Bool → Type 0) (desk : DeskView) (scripts : List Script) (limit : ℕ)
    (ws : List WorkedView) : Type 0 where
  pub each_process : length ws ≡ length scripts
  pub worked : (k : ℕ) (w : WorkedView) → k < length scripts →
      IsWorked may desk (k + 1) (script_at scripts k) limit (slice_index_or ws k w)
