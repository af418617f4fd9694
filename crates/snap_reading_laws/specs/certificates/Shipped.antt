-- The listings that come with the program have only certified runs.
use Rattle.std.specs.Prelude.{◌≡◌, List, true, IsOk}
use Rattle.snap_words.specs.Kind.{fits}
use Rattle.snap_words.specs.Shape.{Counts, IsShape}
use Rattle.snap_words.specs.declared.kind.KindTag.{KindTag}
use Rattle.snap_semantics.specs.declared.process.Item.{Item}
use Rattle.snap_runs.specs.Run.{IsValidRun, run_of_items}
use Rattle.snap_shipped.specs.Shipped.{shipped, shipped_bounds}
use Rattle.snap_shipped.specs.Kept.{NumbersSuffice}
use Rattle.snap_certify.specs.Certification.{certification_of, write_line}

-- Every run of the listing that is shipped for this kind is certified, and its updates
-- write at the line of the listing.
abbrev pub RunsAreCertified : KindTag → Type 0
RunsAreCertified g =
    (s : Counts) (items : List Item) → IsShape s.n s.w → fits (shipped g).kind s ≡ true → NumbersSuffice g items →
    (let r = run_of_items (shipped g) s items in
    IsValidRun r → (write_line r ≡ (shipped_bounds g s).writes) × IsOk (certification_of r))
