-- `new_roles` of snap_record (src/roles.rt): what holds at the head of each of its loops.
use Rattle.std.proofs.Common.{◌≡◌, length}
use Rattle.snap_record.proofs.LineRoles.{AreFirstRoles}
use Rattle.snap_record.proofs.roles.new_roles.Given as goal

-- the numbers so far have their roles
abbrev pub invariant-loop-number : goal.invariant-loop-number
invariant-loop-number l = (l.number ≡ length l.roles.items) × AreFirstRoles l.program l.roles.items
