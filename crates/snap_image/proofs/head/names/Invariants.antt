-- `names` of snap_image (src/head.rt): what holds at the head of each of its loops.
use Rattle.std.proofs.Common.{◌≡◌, ◌-◌, ◌++◌, length}
use Rattle.snap_image.specs.ImageListing.{names_in}
use Rattle.snap_image.specs.Head.{known_names}
use Rattle.snap_image.specs.DecoderSteps.{onto}
use Rattle.snap_image.proofs.head.names.Given as goal

-- the names that are left follow those that were read
abbrev pub invariant-loop-known : goal.invariant-loop-known
invariant-loop-known l =
    onto l.names.items (names_in (l.count - length l.names.items) (known_names l.known ++ l.names.items) l.cursor)
    ≡ names_in l.count (known_names l.known) l.fn.cursor

abbrev pub decreases-loop-known : goal.decreases-loop-known
decreases-loop-known l = l.count - length l.names.items
