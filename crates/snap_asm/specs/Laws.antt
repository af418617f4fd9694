-- The laws of assembling texts to images, listing images as texts, loading images as programs and upgrading images.
use Rattle.std.specs.Prelude.{◌≡◌, ℕ, ◌≤◌, List, length, Ok}
use Rattle.snap_image.specs.declared.image.ImageVersion.{ImageVersion}
use Rattle.snap_image.specs.Assembly.{assembled, listed, upgraded}
use Rattle.snap_semantics.specs.CanonicalText.{canonical_text}
use Rattle.snap_semantics.specs.Comments.{Commented, IsCommented, commented_of}
use Rattle.snap_semantics.specs.Listing.{max_text}
use Rattle.snap_image.specs.Image.{CanSay, image_in, image_of}
use Rattle.snap_image.specs.ImageListing.{commented_in}

-- what is assembled lists back as the canonical text of the text's listing, decodes to that listing, and is upgraded to
-- itself
abbrev pub ListsBack : Type 0
ListsBack =
    (text image : List ℕ) (c : Commented) → commented_of text ≡ Ok c → assembled text ≡ Ok image →
    (listed image ≡ Ok (canonical_text c)) × (commented_in image ≡ Ok c) × (upgraded image ≡ Ok image)

-- a canonical text of at most `max_text` bytes lists back as itself
abbrev pub KeepsCanonical : Type 0
KeepsCanonical =
    (c : Commented) → IsCommented c → length (canonical_text c) ≤ max_text →
    (assembled (canonical_text c) ≡ Ok (image_of c)) × (listed (image_of c) ≡ Ok (canonical_text c))

-- an image of either version is upgraded to the image of the same listing in the second version
abbrev pub Upgrades : Type 0
Upgrades = (v : ImageVersion) (c : Commented) → IsCommented c → CanSay v c → upgraded (image_in v c) ≡ Ok (image_of c)
