-- `Marks`, the breakpoints and watched registers of a debugger session, and the positions at which they stop a run:
-- `is_stop`, `next_stop`, `last_stop`.
use Rattle.std.specs.Prelude.{ℕ, zero, suc, ◌+◌, Bool, true, false, not, ◌&&◌, ◌||◌, List, [], length, Option, Some}
use Rattle.std.specs.Prelude.{None, bytes_eq, nat_eq, if◌then◌else◌}
use Rattle.std.specs.List.{list_any}
use Rattle.snap_words.specs.Word.{Word}
use Rattle.snap_words.specs.declared.address.Address.{Address}
use Rattle.snap_words.specs.declared.address.Bank.{Bank}
use Rattle.snap_words.specs.declared.address.Bank.TheVariants.{R, Q, P, V}
use Rattle.snap_semantics.specs.Readers.{Contents, WordContents, BitContents, ViewContents, contents}
use Rattle.snap_semantics.specs.State.{State, process_at}
use Rattle.snap_semantics.specs.Table.{who}
use Rattle.snap_runs.specs.Run.{Run, state, before, item}
use Rattle.snap_runs.specs.Update.{is_at}
use Rattle.snap_debug_commands.specs.declared.command.Breakpoint.{Breakpoint}

-- breakpoints and watched registers, each in the order in which they were set
pub record Marks : Type 0 where
  pub breaks : List Breakpoint
  pub watches : List Address

abbrev pub no_marks : Marks
no_marks = record { breaks = []; watches = [] }

-- how many marks there are
abbrev pub mark_count : Marks → ℕ
mark_count m = length m.breaks + length m.watches

abbrev pub same_breakpoint : Breakpoint → Breakpoint → Bool
same_breakpoint a b = nat_eq a.process b.process && nat_eq a.line b.line

abbrev pub same_bank : Bank → Bank → Bool
same_bank R R = true
same_bank Q Q = true
same_bank P P = true
same_bank V V = true
same_bank _ _ = false

abbrev pub same_address : Address → Address → Bool
same_address a b = same_bank a.bank b.bank && (nat_eq a.i b.i && nat_eq a.j b.j)

-- whether two words have the same fields
abbrev pub same_word : Word → Word → Bool
same_word x y =
    nat_eq x.datum y.datum && (nat_eq x.seq y.seq && (nat_eq x.id y.id && (nat_eq x.toggle y.toggle
    && (bytes_eq x.handshakes y.handshakes && bytes_eq x.view y.view))))

abbrev pub same_contents : Option Contents → Option Contents → Bool
same_contents (Some (WordContents x)) (Some (WordContents y)) = same_word x y
same_contents (Some (BitContents x)) (Some (BitContents y)) = nat_eq x y
same_contents (Some (ViewContents x)) (Some (ViewContents y)) = bytes_eq x y
same_contents None None = true
same_contents _ _ = false

-- what a register has in a state
abbrev pub contents_at : State → Address → Option Contents
contents_at s a = contents s.memory a.bank a.i a.j

-- whether item t leaves its process busy at the line of a breakpoint for it
abbrev pub reaches : Run → ℕ → Breakpoint → Bool
reaches r t b = nat_eq (who (item r t)) b.process && is_at b.line (process_at (state r t) (who (item r t))).status

-- whether item t leaves a register with other contents than before
abbrev pub changes : Run → ℕ → Address → Bool
changes r t a = not (same_contents (contents_at (before r t) a) (contents_at (state r t) a))

-- whether marks stop a run at position t
abbrev pub is_stop : Run → Marks → ℕ → Bool
is_stop r m t = list_any (reaches r t) m.breaks || list_any (changes r t) m.watches

-- the least stop of so many positions after position t, and the last of them where there is none
abbrev pub next_stop : Run → Marks → ℕ → ℕ → ℕ
next_stop r m t zero = t
next_stop r m t (suc more) = if is_stop r m (suc t) then suc t else next_stop r m (suc t) more

-- the greatest stop before position t, and 0 where there is none
abbrev pub last_stop : Run → Marks → ℕ → ℕ
last_stop r m zero = 0
last_stop r m (suc t) = if is_stop r m t then t else last_stop r m t
