-- `copy_views` of snap_words (src/copies.rt): what holds at the head of each of its loops.
use Rattle.std.proofs.Common.{◌≡◌, take}
use Rattle.snap_words.proofs.copies.copy_views.Given as goal

abbrev pub invariant-loop-view : goal.invariant-loop-view
invariant-loop-view l = l.copies.items ≡ take l.view-index l.views
