-- `IsSilent`: the lint warns of nothing in a listing. It is stated of the shipped listings U, B and M.
use Rattle.std.specs.Prelude.{◌≡◌, []}
use Rattle.snap_runs_of_u.specs.ListingU.{listing_u}
use Rattle.snap_runs_of_b.specs.ListingB.{listing_b}
use Rattle.snap_runs_of_m.specs.ListingM.{listing_m}
use Rattle.snap_semantics.specs.Source.{Source}
use Rattle.snap_lint.specs.Warnings.{warnings}

-- nothing is warned of in a listing
abbrev pub IsSilent : Source → Type 0
IsSilent l = warnings l ≡ []

abbrev pub UIsSilent : Type 0
UIsSilent = IsSilent listing_u

abbrev pub BIsSilent : Type 0
BIsSilent = IsSilent listing_b

abbrev pub MIsSilent : Type 0
MIsSilent = IsSilent listing_m
