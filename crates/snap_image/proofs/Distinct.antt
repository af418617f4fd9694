-- The names that are read from the head of an image are distinct: none is declared twice.
use Rattle.std.proofs.Common.{◌≡◌, ℕ, zero, suc, false, List, [], ◌∷◌, ◌++◌, sym, ap, ◌∙◌, append_assoc, subst}
use Rattle.std.proofs.lemmas.List.{append-nil}
use Rattle.snap_image.specs.declared.image.ImageVersion.{ImageVersion}
use Rattle.snap_image.specs.ImageCodes.{kinds}
use Rattle.snap_image.specs.ImageForms.{Rest, byte_in, short_in, code_in}
use Rattle.snap_image.specs.ImageListing.{signature_in, version_in, letters_in, length_in, new_name, name_in}
use Rattle.snap_image.specs.ImageListing.{names_in, few_names, table_in, line_count_in, head_in}
use Rattle.snap_semantics.specs.IsListing.{AreDistinct}
use Rattle.snap_semantics.specs.Listing.{all_names}
use Rattle.snap_semantics.specs.ListingForms.{is_reserved}
use Rattle.snap_semantics.specs.Source.{Name, Source}
use Rattle.snap_semantics.specs.Uses.{is_among}
use Rattle.snap_listing.proofs.DistinctNames.{distinct_snoc}
use Rattle.snap_image.proofs.Parts.{Holds, then_with, then_any, holds_if}

abbrev IsNew : List Name → Name → Unit {0} → Type 0
IsNew known x done = is_among x known ≡ false

new_ok : (known : List Name) (x : Name) → Holds (IsNew known x) (new_name known x)
new_ok known x =
    holds_if (IsNew known x) (is_reserved x) _ _ (λ e. tt)
    (λ e. holds_if (IsNew known x) (is_among x known) _ _ (λ f. tt) (λ f. f))

name_new : (known : List Name) (r : Rest) → Holds (λ x. is_among x.0 known ≡ false) (name_in known r)
unfolding name_in
name_new known r =
    let P : (Name × Rest) → Type 0 = λ x. is_among x.0 known ≡ false in
    then_any P (length_in r) _ (λ count. then_any P (letters_in count.0 count.1) _ (λ x.
    then_with (IsNew known x.0) P (new_name known x.0) _ (new_ok known x.0) (λ done e. e)))

names_distinct : (count : ℕ) (known : List Name) (r : Rest) → AreDistinct known →
    Holds (λ x. AreDistinct (known ++ x.0)) (names_in count known r)
unfolding names_in
names_distinct zero known r d = subst AreDistinct (sym (append-nil known)) d
names_distinct (suc count) known r d =
    let P : (List Name × Rest) → Type 0 = λ x. AreDistinct (known ++ x.0) in
    then_with (λ x. is_among x.0 known ≡ false) P (name_in known r) _ (name_new known r) (λ x e.
    then_with (λ xs. AreDistinct ((known ++ x.0 ∷ []) ++ xs.0)) P (names_in count (known ++ x.0 ∷ []) x.1) _
    (names_distinct count (known ++ x.0 ∷ []) x.1 (distinct_snoc known x.0 d e))
    (λ xs h. subst AreDistinct (append_assoc known (x.0 ∷ []) xs.0) h))

table_distinct : (known : List Name) (r : Rest) → AreDistinct known →
    Holds (λ x. AreDistinct (known ++ x.0)) (table_in known r)
unfolding table_in
table_distinct known r d =
    let P : (List Name × Rest) → Type 0 = λ x. AreDistinct (known ++ x.0) in
    then_any P (byte_in r) _
    (λ count. then_any P (few_names known count.0) _ (λ few. names_distinct count.0 known count.1 d))

pub head_distinct : (bytes : List ℕ) → Holds (λ x. AreDistinct (all_names x.0.1)) (head_in bytes)
unfolding head_in
head_distinct bytes =
    let P : ((ImageVersion × Source × ℕ) × Rest) → Type 0 = λ x. AreDistinct (all_names x.0.1) in
    then_any P (signature_in bytes) _ (λ s. then_any P (version_in s) _ (λ v. then_any P (code_in kinds v.1) _ (λ k.
    then_with (λ x. AreDistinct x.0) P (table_in [] k.1) _ (table_distinct [] k.1 tt) (λ a da.
    then_with (λ x. AreDistinct (a.0 ++ x.0)) P (table_in a.0 a.1) _ (table_distinct a.0 a.1 da) (λ b db.
    then_with (λ x. AreDistinct ((a.0 ++ b.0) ++ x.0)) P (table_in (a.0 ++ b.0) b.1) _
    (table_distinct (a.0 ++ b.0) b.1 db) (λ c dc.
    then_with (λ x. AreDistinct ((a.0 ++ (b.0 ++ c.0)) ++ x.0)) P (table_in (a.0 ++ (b.0 ++ c.0)) c.1) _
    (table_distinct (a.0 ++ (b.0 ++ c.0)) c.1 (subst AreDistinct (append_assoc a.0 b.0 c.0) dc)) (λ d dd.
    then_any P (short_in d.1) _ (λ scan.
    then_any P (short_in scan.1) _ (λ update. then_any P (line_count_in update.1) _ (λ count.
    subst AreDistinct
    (append_assoc a.0 (b.0 ++ c.0) d.0 ∙ ap (λ (xs : List Name). a.0 ++ xs) (append_assoc b.0 c.0 d.0)) dd))))))))))
