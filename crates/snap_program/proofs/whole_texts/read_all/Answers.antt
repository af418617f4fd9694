-- `read_all` of snap_program (src/whole_texts.rt): the proof of what its contract says.
use Rattle.std.proofs.Common.{◌++◌, length-append, take, inl, refl, arith}
use Rattle.std.proofs.KnownBytes.{Consumes-trans}
use Rattle.std.proofs.lemmas.List.{length-take}
use Rattle.snap_faults.specs.declared.fault.ProgramFault.TheVariants.{Memory}
use Rattle.snap_program.specs.WholeRun.{Reads}
use Rattle.snap_program.proofs.Runs.{passed}
use Rattle.snap_program.proofs.whole_texts.read_all.Goals as goal

pub returns-in_err-extend_from_slice-in-Ok : goal.returns-in_err-extend_from_slice-in-Ok
returns-in_err-extend_from_slice-in-Ok g c =
    let input = c.loop-buffer.input in
    let before = input.items in
    let more = take c.in-Ok.count c.read.new.buffer in
    let h = c.loop-buffer.invariant in
    let source = g.R.ByteSource.state c.args.source.now in
    let between = g.R.ByteSource.state c.loop-buffer.source in
    let source_after = g.R.ByteSource.state c.read.new.self in
    let taken =
    Consumes-trans source.left between.left source_after.left before more h.2 c.in-Ok.ensures.bytes.0 in
    let all = length-append before more in
    let some = length-take c.in-Ok.count c.read.new.buffer in
    let offered = length-take c.min-room.result c.loop-buffer.buffer in
    let bound = c.in-Ok.ensures.bound in
    let room = c.min-room.ensures in
    let len = c.len-in-loop-buffer.ensures in
    passed (λ x. Reads x source source_after) c.from_residual.result Memory c.from_residual.ensures
    (before ++ more, (taken, omega (arith, all, some, offered, bound, room, len, h.0, input.ok)), inl refl)
