-- `are_lines` of snap_refutation (src/lines.rt): what its loop keeps.
use Rattle.std.proofs.Common.{◌≡◌, ℕ, ◌<◌, length, slice_index_or, take}
use Rattle.snap_refutation.specs.declared.refutation.Line.{Line}
use Rattle.snap_refutation.specs.Operations.{kept}
use Rattle.snap_refutation.specs.Refutations.{IsLine}
use Rattle.snap_refutation.proofs.lines.are_lines.Given as goal

abbrev pub invariant-loop-place : goal.invariant-loop-place
invariant-loop-place l = record {
  end : l.place-end ≡ length l.lines;
  each : (i : ℕ) → i < l.place → (line : Line) → slice_index_or l.lines i line ≡ line →
      IsLine (kept l.operations) l.cases (take i l.lines) line;
}
