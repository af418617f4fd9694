-- `shipped` and `shipped_bounds`: the shipped listing of each kind of registers (U, B or M), and the bounds of its
-- runs.
use Rattle.snap_words.specs.Shape.{Counts}
use Rattle.snap_words.specs.declared.kind.KindTag.{KindTag}
use Rattle.snap_words.specs.declared.kind.KindTag.TheVariants as kind
use Rattle.snap_semantics.specs.Source.{Source}
use Rattle.snap_runs.specs.Snapshot.{Bounds}
use Rattle.snap_runs_of_u.specs.ListingU.{listing_u}
use Rattle.snap_runs_of_b.specs.ListingB.{listing_b}
use Rattle.snap_runs_of_m.specs.ListingM.{listing_m}
use Rattle.snap_runs_of_u.specs.Promises as u
use Rattle.snap_runs_of_b.specs.Promises as b
use Rattle.snap_runs_of_m.specs.Promises as m

-- the listing that is shipped for a kind
abbrev pub shipped : KindTag → Source
shipped kind.Seq = listing_u
shipped kind.Bits = listing_b
shipped kind.Multi = listing_m

-- the bounds of the listing that is shipped for a kind
abbrev pub shipped_bounds : KindTag → Counts → Bounds
shipped_bounds kind.Seq = u.bounds
shipped_bounds kind.Bits = b.bounds
shipped_bounds kind.Multi = m.bounds
