-- `putting_line` of snap_certify (src/line.rt): what holds at the head of each of its loops.
use Rattle.std.proofs.Common.{◌≡◌, drop}
use Rattle.snap_certify.specs.Certification.{putting_line}
use Rattle.snap_certify.proofs.line.putting_line.Given as goal

-- none of the lines so far writes a word
abbrev pub invariant-loop-line : goal.invariant-loop-line
invariant-loop-line l = putting_line (drop l.line-index l.lines) ≡ putting_line l.lines
