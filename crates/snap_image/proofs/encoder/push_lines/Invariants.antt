-- `push_lines` of snap_image (src/encoder.rt): what holds at the head of each of its loops.
use Rattle.std.proofs.Common.{◌≡◌, ◌++◌, drop, length, map}
use Rattle.std.specs.List.{AllByRecursion}
use Rattle.std.specs.Prelude.{false}
use Rattle.snap_semantics.specs.Comments.{IsComment}
use Rattle.snap_image.specs.Image.{lines_image}
use Rattle.snap_image.specs.declared.image.ImageVersion.TheVariants.{Second}
use Rattle.snap_listing_core.specs.Fields.{seen_comment}
use Rattle.snap_image.specs.Widths.{HasShortNumbers}
use Rattle.snap_image.proofs.encoder.push_lines.Given as goal

-- the lines that are left, with their comments, follow those that were added
abbrev pub invariant-loop-place : goal.invariant-loop-place
invariant-loop-place l = record {
  pushed :
      l.out.failed ≡ false →
      (l.fn.out.failed ≡ false)
      × (l.out.text ++ lines_image Second l.listing (drop l.place l.lines)
      (map seen_comment (drop l.place l.comments))
      ≡ l.fn.out.text ++ lines_image Second l.listing l.lines (map seen_comment l.comments));
  short : AllByRecursion HasShortNumbers (drop l.place l.lines);
  comments : AllByRecursion IsComment (map seen_comment (drop l.place l.comments));
  each_line : length (drop l.place l.comments) ≡ length (drop l.place l.lines);
}
