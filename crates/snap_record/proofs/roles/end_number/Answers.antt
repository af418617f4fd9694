-- `end_number` of snap_record (src/roles.rt): the proof of what its contract says.
use Rattle.std.proofs.Common.{List, ◌∙◌, ◌+◌, ◌-◌, ap, length, slice_get, subst}
use Rattle.snap_semantics.specs.declared.instr.Line.{Line}
use Rattle.snap_semantics.specs.Source.{Source}
use Rattle.snap_record.specs.Roles.{NoneBeyond}
use Rattle.snap_record.proofs.LastLine.{none_beyond}
use Rattle.snap_record.proofs.roles.end_number.Goals as goal

pub returns-in-Some : goal.returns-in-Some
returns-in-Some c =
    let line = c.in-Some.line.now in
    let last = c.in-Some.ensures.value ∙ ap (λ (lines : List Line). slice_get lines (length lines - 1)) c.lines.ensures.lines in
    subst (λ (s : Source). NoneBeyond s (line.number + 1)) c.listing.ensures
    (none_beyond c.listing.result.now line c.lines.ensures.rules last)
