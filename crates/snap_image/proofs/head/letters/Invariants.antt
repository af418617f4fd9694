-- `letters` of snap_image (src/head.rt): what holds at the head of each of its loops.
use Rattle.std.proofs.Common.{◌≡◌, ◌-◌, length, take}
use Rattle.snap_image.specs.ImageListing.{letters_in}
use Rattle.snap_image.specs.DecoderSteps.{onto}
use Rattle.snap_image.proofs.head.letters.Given as goal

-- the letters that are left follow those that were read
abbrev pub invariant-loop-place : goal.invariant-loop-place
invariant-loop-place l = record {
  full : length l.letters ≡ 9;
  found : onto (take l.place l.letters) (letters_in (l.count - l.place) l.cursor) ≡ letters_in l.count l.fn.cursor;
}
