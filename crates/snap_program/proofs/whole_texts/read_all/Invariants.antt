-- `read_all` of snap_program (src/whole_texts.rt): what holds at the head of each of its loops.
use Rattle.std.proofs.Common.{◌+◌, ◌-◌, ◌≡◌, ◌≤◌, false, vec_len}
use Rattle.std.specs.Io.KnownBytes.{Consumes}
use Rattle.snap_input.specs.Parts.{max_input}
use Rattle.snap_program.proofs.whole_texts.read_all.Given as goal

-- the input so far is what was taken
abbrev pub invariant-loop-buffer : goal.invariant-loop-buffer
invariant-loop-buffer g l =
    (vec_len l.input ≤ max_input + 1) × ((g.R.ByteSource.state l.source).failed ≡ false)
    × Consumes (g.R.ByteSource.state l.initial.source).left (g.R.ByteSource.state l.source).left l.input.items

abbrev pub decreases-loop-buffer : goal.decreases-loop-buffer
decreases-loop-buffer g l = max_input + 1 - vec_len l.input
