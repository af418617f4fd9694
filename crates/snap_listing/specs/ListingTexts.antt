-- `IsListingText`: a text that is read as a listing, and not refused.
use Rattle.std.specs.Prelude.{ℕ, List, MatchResult}
use Rattle.snap_semantics.specs.Listing.{listing_of}

abbrev pub IsListingText : List ℕ → Type 0
IsListingText text = MatchResult (listing_of text) (λ s. Unit {0}) (λ r. ⊥)
