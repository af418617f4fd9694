-- Bytes that do not begin with the signature of an image, or have no known version after it, are refused.
use Rattle.std.proofs.Common.{◌≡◌, ◌≢◌, ℕ, Bool, true, false, List, ◌∷◌, ◌++◌, take, Option, None, Ok, Err, bytes_eq}
use Rattle.std.proofs.Common.{if◌then◌else◌, refl, ap, ◌∙◌}
use Rattle.std.proofs.lemmas.Slice.Eq.{bytes_eq-Decides}
use Rattle.snap_image.specs.declared.image.ImageVersion.{ImageVersion}
use Rattle.snap_semantics.specs.declared.refusal.ImageRefusal.TheVariants.{NotAnImage, Version}
use Rattle.snap_semantics.specs.Answers.{◌>>=◌}
use Rattle.snap_image.specs.Image.{HasUnknownVersion, signature}
use Rattle.snap_image.specs.ImageCodes.{of_code, versions}
use Rattle.snap_image.specs.ImageForms.{Rest}
use Rattle.snap_image.specs.ImageListing.{known_version, version_in}
use Rattle.snap_image.specs.Head.{opened}

not_true : (b : Bool) → (b ≡ true → ⊥) → b ≡ false
not_true true h = absurd (h refl)
not_true false h = refl

unsigned_by : (r : Rest) (b : Bool) → b ≡ false → ((if b then Ok r else Err NotAnImage) >>= version_in) ≡ Err NotAnImage
unsigned_by r true given = absurd cc
unsigned_by r false given = refl

-- the first four bytes are not the signature
pub unsigned : (bytes : List ℕ) → take 4 bytes ≢ signature → opened bytes ≡ Err NotAnImage
unsigned bytes h =
    unsigned_by _ (bytes_eq (take 4 bytes) signature)
    (not_true (bytes_eq (take 4 bytes) signature) (λ e. h ((bytes_eq-Decides (take 4 bytes) signature).0 e)))

other_by : (b : ℕ) (rest : List ℕ) → of_code versions b ≡ None → opened (signature ++ b ∷ rest) ≡ Err Version
unfolding version_in
other_by b rest h = ap (λ (v : Option ImageVersion). known_version v (record { passed = 5; bytes = rest })) h

-- the fifth is the code of no version
pub of_another_version : (bytes : List ℕ) → HasUnknownVersion bytes → opened bytes ≡ Err Version
of_another_version bytes unknown = ap opened unknown.2 ∙ other_by unknown.0 unknown.1 unknown.3
