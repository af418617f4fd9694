-- The laws of images: what is decoded has these bytes as its image,
-- each image of a listing is decoded, and none begins another.
use Rattle.std.specs.Prelude.{◌≡◌, ℕ, ◌<◌, List, ◌∷◌, ◌++◌, Some, None, Ok, Err}
use Rattle.std.specs.List.{AllByRecursion}
use Rattle.snap_image.specs.declared.image.ImageVersion.{ImageVersion}
use Rattle.snap_semantics.specs.declared.refusal.ImageRefusal.TheVariants.{Extra}
use Rattle.snap_semantics.specs.Comments.{Comment, Commented, IsCommented}
use Rattle.snap_image.specs.Image.{image_in, CanSay, IsImageOf}
use Rattle.snap_image.specs.ImageListing.{commented_in}

abbrev pub AreBytes : List ℕ → Type 0
AreBytes bytes = AllByRecursion (λ b. b < 256) bytes

-- what is decoded is a listing with comments, and the bytes are its image in some version
abbrev pub DecodesOnlyImages : Type 0
DecodesOnlyImages =
    (bytes : List ℕ) (c : Commented) → AreBytes bytes → commented_in bytes ≡ Ok c → IsCommented c × IsImageOf bytes c

-- each image of every listing is decoded as that listing; so no two listings have one image
abbrev pub DecodesAllImages : Type 0
DecodesAllImages = (v : ImageVersion) (c : Commented) → IsCommented c → CanSay v c → commented_in (image_in v c) ≡ Ok c

-- more bytes than an image are none: no image begins another
abbrev pub RefusesMore : Type 0
RefusesMore =
    (v : ImageVersion) (c : Commented) (b : ℕ) (bytes : List ℕ) → IsCommented c → CanSay v c →
    commented_in (image_in v c ++ b ∷ bytes) ≡ Err Extra

-- the bytes of a comment are bytes
abbrev pub HasBytes : Comment → Type 0
HasBytes None = Unit {0}
HasBytes (Some bytes) = AreBytes bytes

-- an image is bytes, where its comments are
abbrev pub ImagesAreBytes : Type 0
ImagesAreBytes =
    (v : ImageVersion) (c : Commented) → IsCommented c → AllByRecursion HasBytes c.comments → AreBytes (image_in v c)
