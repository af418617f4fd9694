-- A text that `listing_of` reads as some listing is known to be a
-- listing (`IsListingText`), and no other listing is read from it.
use Rattle.std.proofs.Common.{◌≡◌, ◌∙◌, ℕ, List, Result, Ok, Err, IfOk, subst, sym}
use Rattle.std.specs.Prelude.{MatchResult}
use Rattle.snap_semantics.specs.Listing.{listing_of}
use Rattle.snap_semantics.specs.Source.{Source}
use Rattle.snap_semantics.specs.declared.refusal.ListingRefusal.{ListingRefusal}
use Rattle.snap_listing.specs.ListingTexts.{IsListingText}

abbrev Answer : Type 0
Answer = Result Source ListingRefusal

same_source : (l m : Source) → (let r : Answer = Ok l in r) ≡ Ok m → l ≡ m
same_source l m h = cc

-- a text that is read is a listing
pub is_listing_text : (text : List ℕ) (s : Source) → listing_of text ≡ Ok s → IsListingText text
is_listing_text text s is = subst (λ (r : Answer). MatchResult r (λ l. Unit {0}) (λ e. ⊥)) (sym is) tt

-- a text is read as one listing alone
pub same_listing : (text : List ℕ) (s l : Source) → listing_of text ≡ Ok s → listing_of text ≡ Ok l → l ≡ s
same_listing text s l is read = same_source l s (sym read ∙ is)

-- as a call answers it
pub if_read : {E : Type 0} (text : List ℕ) (s : Source) (r : Result Source E) → listing_of text ≡ Ok s →
    IfOk r (λ l. listing_of text ≡ Ok l) → IfOk r (λ l. l ≡ s)
if_read text s (Ok l) is read = same_listing text s l is read
if_read text s (Err e) is read = tt
