-- `silent_lines` of snap_audit (src/watch.rt): what holds at the head of each of its loops.
use Rattle.std.proofs.Common.{◌≡◌, map, take}
use Rattle.snap_audit.specs.Watch.{is_silent}
use Rattle.snap_audit.proofs.watch.silent_lines.Given as goal

-- those of the lines so far
abbrev pub invariant-loop-role : goal.invariant-loop-role
invariant-loop-role l = l.silent.items ≡ map is_silent (take l.role-index l.roles)
