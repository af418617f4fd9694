-- The target of an instruction, and `checked_target`: the listing has a line with that number.
use Rattle.std.specs.Prelude.{ℕ, List, [], ◌∷◌, Option, Some, None, Result, Ok, Err, if◌then◌else◌}
use Rattle.snap_semantics.specs.declared.instr.Line.{Line}
use Rattle.snap_semantics.specs.declared.refusal.ListingRefusal.{ListingRefusal}
use Rattle.snap_semantics.specs.declared.refusal.ListingRefusal.TheVariants as refusal
use Rattle.snap_semantics.specs.Listing.{has_line}

-- the line to which an instruction may lead, as a list
abbrev pub target_list : Option ℕ → List ℕ
target_list None = []
target_list (Some k) = k ∷ []

abbrev pub checked_target : List Line → ℕ → Result (Unit {0}) ListingRefusal
checked_target lines k = if has_line lines k then Ok tt else Err (refusal.NoSuchLine k)
