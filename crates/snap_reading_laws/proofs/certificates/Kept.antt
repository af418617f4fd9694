-- Runs that keep the promises of their listing are certified.
use Rattle.std.specs.Prelude.{◌≡◌, None, refl}
use Rattle.snap_words.specs.Shape.{Counts}
use Rattle.snap_words.specs.declared.kind.KindTag.{KindTag}
use Rattle.snap_words.specs.declared.kind.KindTag.TheVariants as kind
use Rattle.snap_runs.specs.LinearizationPoints.{HasLinearizationPoints}
use Rattle.snap_runs.specs.Run.{Run, run_of_items}
use Rattle.snap_runs.specs.Snapshot.{Bounds, IsSnapshotRun}
use Rattle.snap_shipped.specs.Shipped.{shipped, shipped_bounds}
use Rattle.snap_shipped.specs.Kept.{RunsKeepPromises}
use Rattle.snap_certify.specs.Certification.{PointsCertify, putting_line}
use Rattle.snap_reading_laws.specs.certificates.Shipped.{RunsAreCertified}

-- the first line that writes a word is the one at which updates write
puts_there : (g : KindTag) (s : Counts) → putting_line (shipped g).lines ≡ (shipped_bounds g s).writes
puts_there kind.Seq s = refl
puts_there _ s = refl

-- the operations of a snapshot's run have linearization points
points_of : (b : Bounds) (r : Run) → IsSnapshotRun b r → HasLinearizationPoints b.writes r
points_of b r h = record {
  changes_only_at = h.changes_only_at;
  writes_its_update = h.writes_its_update;
  writes_once = h.writes_once;
  answers_have_points = λ fits i c e view f. h.have_points fits i None c e view f;
}

pub of_promises : PointsCertify → ((g : KindTag) → RunsKeepPromises g) → (g : KindTag) → RunsAreCertified g
of_promises certify kept g s items shape fit suffice valid =
    let r = run_of_items (shipped g) s items in
    let b = shipped_bounds g s in
    certify b.writes r valid (puts_there g s) (points_of b r (kept g s items shape fit suffice).snapshot)
