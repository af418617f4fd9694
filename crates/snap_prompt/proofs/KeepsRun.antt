-- A debugger command typed at snapdb's prompt leaves the session's run as it is.
use Rattle.std.proofs.Common.{◌≡◌, ℕ, List, Result, Ok, Err, arith}
use Rattle.snap_semantics.specs.declared.fault.Fault.{Fault}
use Rattle.snap_semantics.specs.declared.fault.Fault.TheVariants as fault
use Rattle.snap_semantics.specs.declared.refusal.CommandRefusal.{CommandRefusal}
use Rattle.snap_debug.specs.Session.{Obeys, Session, commanded}
use Rattle.snap_debug_commands.specs.declared.command.Command.{Command}
use Rattle.snap_debug_commands.specs.declared.command.Command.TheVariants as command

keeps : (s t : Session) (c : Command) → commanded s c ≡ Ok t → t.run ≡ s.run
keeps s t (command.Goto k) e = grind arith
keeps s t (command.Break b) e = grind arith
keeps s t (command.Clear b) e = grind arith
keeps s t (command.Watch a) e = grind arith
keeps s t (command.Unwatch a) e = grind arith
keeps s t (command.ShowRegister a) e = grind arith
keeps s t (command.ShowProcess i) e = grind arith
keeps s t _ e = cc

pub keeps_run : {X : Type 0} (view : X → List ℕ) (r : Result X (Fault CommandRefusal)) (s t : Session) (c : Command) →
    Obeys view r s c t → t.run ≡ s.run
keeps_run view (Ok reply) s t c obeys = keeps s t c obeys.0
keeps_run view (Err fault.Memory) s t c obeys = cc
keeps_run view (Err (fault.Refused r)) s t c obeys = cc
