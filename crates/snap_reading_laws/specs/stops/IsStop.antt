-- What a stop is, and that `run` goes to the first one after a position, and `rrun` back to the last one before it.
use Rattle.std.specs.Prelude.{◌≡◌, ◌≢◌, ℕ, ◌<◌, ◌≤◌, ◌⊎◌, length, Ok}
use Rattle.std.specs.List.{Any}
use Rattle.snap_words.specs.declared.address.Address.{Address}
use Rattle.snap_semantics.specs.declared.process.Status.{Status}
use Rattle.snap_semantics.specs.declared.process.Status.TheVariants.{Busy}
use Rattle.snap_semantics.specs.State.{process_at}
use Rattle.snap_semantics.specs.Table.{who}
use Rattle.snap_runs.specs.Run.{Run, state, before, item}
use Rattle.snap_debug_commands.specs.declared.command.Breakpoint.{Breakpoint}
use Rattle.snap_debug_commands.specs.declared.command.Command.TheVariants as command
use Rattle.snap_debug.specs.Marks.{Marks, contents_at}
use Rattle.snap_debug.specs.Session.{Session, at_position, commanded, total}

-- busy at the line with this number
abbrev pub IsBusyAt : ℕ → Status → Type 0
IsBusyAt line (Busy a) = a.line ≡ line
IsBusyAt line _ = ⊥

-- Item t is of the process of a breakpoint, and leaves it busy at the breakpoint's line.
abbrev pub Reaches : Run → ℕ → Breakpoint → Type 0
Reaches r t b = (who (item r t) ≡ b.process) × IsBusyAt b.line (process_at (state r t) (who (item r t))).status

-- Item t leaves a register with other contents than before.
abbrev pub Changes : Run → ℕ → Address → Type 0
Changes r t a = contents_at (before r t) a ≢ contents_at (state r t) a

-- Item t is a stop: it reaches one of the breakpoints, or changes one of the watched registers.
abbrev pub IsStop : Run → Marks → ℕ → Type 0
IsStop r m t = Any (Reaches r t) m.breaks ⊎ Any (Changes r t) m.watches

-- Position t is the first stop after position p, and the end of the run where there is none before it.
pub record IsFirstStop (r : Run) (m : Marks) (p t : ℕ) : Type 0 where
  pub order : p ≤ t
  pub within : t ≤ length r.items
  pub goes_on : p < length r.items → p < t
  pub none_between : (u : ℕ) → p < u → u < t → IsStop r m u → ⊥
  pub is_stop : t < length r.items → IsStop r m t

-- Position t is the last stop before position p, and 0 where there is none after it.
pub record IsLastStop (r : Run) (m : Marks) (p t : ℕ) : Type 0 where
  pub order : t ≤ p
  pub goes_back : 0 < p → t < p
  pub none_between : (u : ℕ) → t < u → u < p → IsStop r m u → ⊥
  pub is_stop : 0 < t → IsStop r m t

-- `run` goes to the first stop after the position of a session, and leaves its run and its marks.
abbrev pub RunGoesToTheFirstStop : Type 0
RunGoesToTheFirstStop = (s : Session) → s.position ≤ total s →
    (t : ℕ) × (commanded s command.Run ≡ Ok (at_position t s)) × IsFirstStop s.run s.marks s.position t

-- `rrun` goes back to the last stop before it, and leaves them too.
abbrev pub ReverseRunGoesToTheLastStop : Type 0
ReverseRunGoesToTheLastStop = (s : Session) →
    (t : ℕ) × (commanded s command.ReverseRun ≡ Ok (at_position t s)) × IsLastStop s.run s.marks s.position t
