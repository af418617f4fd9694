-- What fits the bytes of an image: at most 32 names of a sort, of
-- at most eight letters, and line numbers and targets of two bytes.
use Rattle.std.specs.Prelude.{ℕ, ◌<◌, ◌≤◌, ◌^◌, List, length}
use Rattle.std.specs.List.{AllByRecursion}
use Rattle.snap_semantics.specs.declared.instr.Instr.{Instr}
use Rattle.snap_semantics.specs.declared.instr.Line.{Line}
use Rattle.snap_semantics.specs.IsListing.{IsName}
use Rattle.snap_semantics.specs.Listing.{instr_targets}
use Rattle.snap_semantics.specs.Source.{Name}

-- the names of a sort: at most 32, of at most eight letters
abbrev pub IsTable : List Name → Type 0
IsTable names = (length names ≤ 32) × AllByRecursion IsName names

-- a number of two bytes
abbrev pub IsShort : ℕ → Type 0
IsShort k = k < 2 ^ 16

abbrev pub HasShortTargets : Instr → Type 0
HasShortTargets i = AllByRecursion IsShort (instr_targets i)

abbrev pub HasShortNumbers : Line → Type 0
HasShortNumbers line = IsShort line.number × HasShortTargets line.instr
