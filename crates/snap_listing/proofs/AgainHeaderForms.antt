-- The rules for the header lines of a listing read again the kind, the names and the entries that are spelled.
use Rattle.std.proofs.Common.{◌≡◌, ℕ, Bool, true, false, List, [], ◌∷◌, map, Option, Some, None, bytes_eq}
use Rattle.std.proofs.Common.{if◌then◌else◌, refl, ap, ◌∙◌}
use Rattle.std.proofs.lemmas.Slice.Eq.{bytes_eq-Decides}
use Rattle.snap_words.specs.declared.kind.KindTag.{KindTag}
use Rattle.snap_words.specs.declared.kind.KindTag.TheVariants as kind
use Rattle.snap_semantics.specs.Rules.{◌>>=◌, keyword_at}
use Rattle.snap_semantics.specs.HeaderForms.{kind_form, words_form, names_form, entry_form}
use Rattle.snap_semantics.specs.ListingForms.{is_line_number}
use Rattle.snap_semantics.specs.Source.{Name}
use Rattle.snap_semantics.specs.Spelling.{spelled_names, spelled_entry}
use Rattle.snap_semantics.specs.Token.{Token, Identifier, Number}
use Rattle.snap_listing.proofs.SpelledHeader.{spelled_kind}

then_by : {A B : Type 0} (o : Option A) (x : A) (f : A → Option B) (p : Option B) → o ≡ Some x → f x ≡ p → (o >>= f) ≡ p
then_by None x f p e h = absurd cc
then_by (Some y) x f p e h = let same : y ≡ x = cc in ap f same ∙ h

some_by : {A : Type 0} (b : Bool) (x : A) → b ≡ true → (if b then Some x else None) ≡ Some x
some_by true x e = refl
some_by false x e = absurd cc

keyword_again : (keyword : List ℕ) (ts : List Token) → keyword_at keyword (Identifier keyword ∷ ts) ≡ Some ts
keyword_again keyword ts = some_by (bytes_eq keyword keyword) ts ((bytes_eq-Decides keyword keyword).1 refl)

words_again : (ws : List (List ℕ)) → words_form (map (λ (x : List ℕ). Identifier x) ws) ≡ Some ws
words_again [] = refl
words_again (w ∷ ws) =
    then_by (words_form (map (λ (x : List ℕ). Identifier x) ws)) ws _ (Some (w ∷ ws)) (words_again ws) refl

pub kind_again : (k : KindTag) → kind_form (spelled_kind k) ≡ Some k
unfolding kind_form
kind_again kind.Seq = refl
kind_again _ = refl

pub names_again : (keyword : List ℕ) (names : List Name) → names_form keyword (spelled_names keyword names) ≡ Some names
unfolding names_form
names_again keyword names =
    let ts = map (λ (x : List ℕ). Identifier x) names in
    then_by (keyword_at keyword (Identifier keyword ∷ ts)) ts _ (Some names)
    (keyword_again keyword ts) (words_again names)

pub entry_again : (keyword : List ℕ) (k : ℕ) → is_line_number k ≡ true →
    entry_form keyword (spelled_entry keyword k) ≡ Some k
unfolding entry_form
entry_again keyword k h =
    then_by (keyword_at keyword (spelled_entry keyword k)) (Number k ∷ []) _ (Some k)
    (keyword_again keyword (Number k ∷ [])) (some_by (is_line_number k) k h)
