-- `push_names` of snap_image (src/encoder.rt): what holds at the head of each of its loops.
use Rattle.std.proofs.Common.{◌≡◌, ◌++◌, drop}
use Rattle.std.specs.List.{AllByRecursion}
use Rattle.std.specs.Prelude.{false}
use Rattle.snap_image.specs.Image.{names_image}
use Rattle.snap_semantics.specs.IsListing.{IsName}
use Rattle.snap_image.proofs.encoder.push_names.Given as goal

abbrev pub invariant-loop-name : goal.invariant-loop-name
invariant-loop-name l = record {
  pushed :
      l.out.failed ≡ false →
      (l.fn.out.failed ≡ false)
      × (l.out.text ++ names_image (drop l.name-index l.names)
      ≡ l.fn.out.text ++ names_image l.names);
  named : AllByRecursion IsName (drop l.name-index l.names);
}
