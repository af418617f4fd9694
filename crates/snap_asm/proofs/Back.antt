-- An image that was assembled from a text is listed as that text's canonical form (`ListsBack`): from the laws of
-- texts and of images.
use Rattle.std.proofs.Common.{◌≡◌, ℕ, List, Ok, ap, subst}
use Rattle.std.specs.Prelude.{Result}
use Rattle.snap_image.specs.declared.image.ImageVersion.TheVariants as version
use Rattle.snap_semantics.specs.declared.refusal.ImageRefusal.{ImageRefusal}
use Rattle.snap_semantics.specs.declared.refusal.ListingRefusal.{ListingRefusal}
use Rattle.snap_semantics.specs.Answers.{◌>>=◌}
use Rattle.snap_image.specs.Assembly.{assembled, listed, upgraded}
use Rattle.snap_semantics.specs.CanonicalText.{canonical_text}
use Rattle.snap_semantics.specs.Comments.{Commented, commented_of}
use Rattle.snap_image.specs.Image.{image_in, image_of}
use Rattle.snap_image.specs.ImageListing.{commented_in}
use Rattle.snap_listing.specs.Laws.{ReadsOnlyCommented, ReadsPrinted}
use Rattle.snap_image.specs.Laws.{DecodesAllImages}
use Rattle.snap_asm.specs.Laws.{KeepsCanonical, ListsBack, Upgrades}

-- the image of a text is that of its listing
assembled_is : (text : List ℕ) (c : Commented) → commented_of text ≡ Ok c → assembled text ≡ Ok (image_of c)
unfolding assembled
assembled_is text c e = ap (λ (r : Result Commented ListingRefusal). r >>= λ l. Ok (image_of l)) e

-- the text of an image is that of its listing
listed_is : (image : List ℕ) (c : Commented) → commented_in image ≡ Ok c → listed image ≡ Ok (canonical_text c)
unfolding listed
listed_is image c e = ap (λ (r : Result Commented ImageRefusal). r >>= λ l. Ok (canonical_text l)) e

-- an image is upgraded to that of its listing
upgraded_is : (image : List ℕ) (c : Commented) → commented_in image ≡ Ok c → upgraded image ≡ Ok (image_of c)
unfolding upgraded
upgraded_is image c e = ap (λ (r : Result Commented ImageRefusal). r >>= λ l. Ok (image_of l)) e

one_image : (r : Result (List ℕ) ListingRefusal) (image other : List ℕ) → r ≡ Ok image → r ≡ Ok other → image ≡ other
one_image r image other e f = cc

pub lists_back : ReadsOnlyCommented → DecodesAllImages → ListsBack
lists_back reads decodes text image c e f =
    let is_image : image_of c ≡ image = one_image (assembled text) (image_of c) image (assembled_is text c e) f in
    let read : commented_in image ≡ Ok c =
    subst (λ (z : List ℕ). commented_in z ≡ Ok c) is_image (decodes version.Second c (reads text c e).0 tt) in
    (listed_is image c read, read, subst (λ (z : List ℕ). upgraded image ≡ Ok z) is_image (upgraded_is image c read))

pub keeps_canonical : ReadsPrinted → DecodesAllImages → KeepsCanonical
keeps_canonical reads decodes c h short =
    (assembled_is (canonical_text c) c (reads c h short), listed_is (image_of c) c (decodes version.Second c h tt))

pub upgrades : DecodesAllImages → Upgrades
upgrades decodes v c h can = upgraded_is (image_in v c) c (decodes v c h can)
