-- `HaveOneListing` and `HasListing`: an image and a canonical text are of one listing, and an image is of a given
-- listing.
use Rattle.std.specs.Prelude.{◌≡◌, ℕ, List}
use Rattle.snap_semantics.specs.CanonicalText.{canonical_text}
use Rattle.snap_semantics.specs.Comments.{Commented, IsCommented}
use Rattle.snap_image.specs.Image.{IsImageOf}
use Rattle.snap_semantics.specs.Source.{Source}

-- a listing has this image, and this canonical text
abbrev pub HaveOneListing : List ℕ → List ℕ → Type 0
HaveOneListing image text = (c : Commented) × IsCommented c × IsImageOf image c × (text ≡ canonical_text c)

-- a listing of this source has this image
abbrev pub HasListing : List ℕ → Source → Type 0
HasListing image s = (c : Commented) × IsCommented c × IsImageOf image c × (c.source ≡ s)
