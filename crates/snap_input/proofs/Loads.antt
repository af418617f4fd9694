-- The program that is loaded from the image of a listing's text is that listing; and such an image is never refused.
use Rattle.std.proofs.Common.{◌≡◌, ℕ, List, Result, Ok, Err, drop, refl, ◌∙◌, ap, subst}
use Rattle.snap_semantics.specs.Answers.{◌>>=◌, refused_as, IsRefusal}
use Rattle.snap_image.specs.Assembly.{assembled}
use Rattle.snap_semantics.specs.Comments.{Commented, commented_of, header_lines, line_comments}
use Rattle.snap_image.specs.Image.{image_of}
use Rattle.snap_image.specs.ImageListing.{commented_in, listing_of_image}
use Rattle.snap_semantics.specs.Listing.{listing_of}
use Rattle.snap_semantics.specs.Source.{Source}
use Rattle.snap_semantics.specs.Token.{lines_of}
use Rattle.snap_image.specs.declared.image.ImageVersion.TheVariants as version
use Rattle.snap_semantics.specs.declared.refusal.ImageRefusal.{ImageRefusal}
use Rattle.snap_semantics.specs.declared.refusal.ListingRefusal.{ListingRefusal}
use Rattle.snap_semantics.specs.declared.refusal.Refusal.{Refusal}
use Rattle.snap_semantics.specs.declared.refusal.Refusal.TheVariants as refusal
use Rattle.snap_listing.specs.Laws.{ReadsOnlyCommented}
use Rattle.snap_image.specs.Laws.{DecodesAllImages}
use Rattle.snap_input.proofs.Answered.{same_answer}
use Rattle.snap_semantics.specs.declared.fault.Fault.{Fault}
use Rattle.snap_semantics.specs.declared.fault.Fault.TheVariants as fault

-- the image is that of the text
abbrev pub IsAssembled : (text image : List ℕ) → Type 0
IsAssembled text image = refused_as refusal.Listing (assembled text) ≡ Ok image

assembled_from : (answer : Result Commented ListingRefusal) (image : List ℕ)
    → refused_as refusal.Listing (answer >>= λ c. Ok (image_of c)) ≡ Ok image →
    (c : Commented) × (answer ≡ Ok c) × (image_of c ≡ image)
assembled_from (Ok c) image e = (c, refl, cc)
assembled_from (Err r) image e = absurd cc

-- an image is that of its listing without the comments
source_is : (image : List ℕ) (c : Commented) → commented_in image ≡ Ok c → listing_of_image image ≡ Ok c.source
unfolding listing_of_image
source_is image c e = ap (λ (r : Result Commented ImageRefusal). r >>= λ l. Ok l.source) e

-- a text that is assembled is a listing, and its image is decoded as that listing
decoded : ReadsOnlyCommented → DecodesAllImages → (text image : List ℕ) → IsAssembled text image
    → (s : Source) × (listing_of text ≡ Ok s) × (listing_of_image image ≡ Ok s)
unfolding assembled
decoded reads decodes text image e =
    let from = assembled_from (commented_of text) image e in
    let c = from.0 in
    let good = reads text c from.1 in (
      c.source,
      good.1,
      source_is image c (subst (λ z. commented_in z ≡ Ok c) from.2 (decodes version.Second c good.0 tt)),
    )

-- the program is the listing that the text is
pub loaded : ReadsOnlyCommented → DecodesAllImages → (text image : List ℕ) (program : Source) → IsAssembled text image
    → listing_of_image image ≡ Ok program → refused_as refusal.Listing (listing_of text) ≡ Ok program
loaded reads decodes text image program e is_program =
    let found = decoded reads decodes text image e in
    ap (λ (answer : Result Source ListingRefusal). refused_as refusal.Listing answer) found.1
    ∙ ap (λ s. let answer : Result Source Refusal = Ok s in answer)
    (same_answer (listing_of_image image) program found.0 is_program found.2)

-- a text that is not assembled is no listing, for the same reason
same_refusal : (answer : Result Source ListingRefusal) (with : Source → Commented) (found : Fault Refusal)
    → IsRefusal found (refused_as refusal.Listing ((answer >>= λ s. Ok (with s)) >>= λ c. Ok (image_of c))) →
    IsRefusal found (refused_as refusal.Listing answer)
same_refusal answer with fault.Memory e = tt
same_refusal (Ok s) with (fault.Refused r) e = absurd cc
same_refusal (Err reason) with (fault.Refused r) e = cc

pub not_assembled : (text : List ℕ) (found : Fault Refusal)
    → IsRefusal found (refused_as refusal.Listing (assembled text)) →
    IsRefusal found (refused_as refusal.Listing (listing_of text))
unfolding assembled commented_of
not_assembled text =
    same_refusal (listing_of text)
    (λ s. record { source = s; comments = drop header_lines (line_comments (lines_of text)) })

is_no_refusal : (s : Source) (r : ImageRefusal) (answer : Result Source ImageRefusal) →
    answer ≡ Ok s → answer ≡ Err r → ⊥
is_no_refusal s r answer is_s is_r = cc

-- the image is not refused
pub never_refused : ReadsOnlyCommented → DecodesAllImages →
    (text image : List ℕ) (found : Fault ImageRefusal) (r : ImageRefusal)
    → IsAssembled text image → found ≡ fault.Refused r → IsRefusal found (listing_of_image image) → ⊥
never_refused reads decodes text image found r e is_refused h =
    let read = decoded reads decodes text image e in
    is_no_refusal read.0 r (listing_of_image image) read.2
    (subst (λ f. IsRefusal f (listing_of_image image)) is_refused h)
