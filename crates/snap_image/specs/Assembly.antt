-- The definitions of `assembled`, a text's listing as an image, `listed`, an image's
-- listing as its canonical text, and `upgraded`, an image in the version that is written.
use Rattle.std.specs.Prelude.{ℕ, List, Result, Ok}
use Rattle.snap_semantics.specs.declared.refusal.ImageRefusal.{ImageRefusal}
use Rattle.snap_semantics.specs.declared.refusal.ListingRefusal.{ListingRefusal}
use Rattle.snap_semantics.specs.Answers.{◌>>=◌}
use Rattle.snap_semantics.specs.CanonicalText.{canonical_text}
use Rattle.snap_semantics.specs.Comments.{commented_of}
use Rattle.snap_image.specs.Image.{image_of}
use Rattle.snap_image.specs.ImageListing.{commented_in}

-- the image of the listing that a text is, or the first reason why it is none
unfoldable pub assembled : List ℕ → Result (List ℕ) ListingRefusal
assembled text = do
  l ← commented_of text
  Ok (image_of l)

-- the canonical text of the listing whose image these bytes are, or the first reason why they are none
unfoldable pub listed : List ℕ → Result (List ℕ) ImageRefusal
listed bytes = do
  l ← commented_in bytes
  Ok (canonical_text l)

-- the image, in the version that is written, of the listing whose image these bytes are, or the
-- first reason why they are none
unfoldable pub upgraded : List ℕ → Result (List ℕ) ImageRefusal
upgraded bytes = do
  l ← commented_in bytes
  Ok (image_of l)
