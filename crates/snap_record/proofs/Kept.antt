-- The items that are stored (`AreKept`) are the same after one more call is stored.
use Rattle.std.proofs.Common.{◌≡◌, ℕ, List, [], ◌∷◌, ◌++◌, length, get_or, refl, ap, ◌∙◌}
use Rattle.std.proofs.Math.ListN.{get_or-append}
use Rattle.std.proofs.Math.Seq.{get_or-append_seam}
use Rattle.std.proofs.lemmas.List.{map-append}
use Rattle.std.specs.List.{AllByRecursion}
use Rattle.snap_semantics.specs.declared.process.Item.TheVariants as item
use Rattle.snap_record.specs.Items.{AreKept, IsThere, call_item, kept_item, kept_items, nobody}
use Rattle.snap_record.specs.declared.items.Called.{Called}
use Rattle.snap_record.specs.declared.items.StoredItem.{StoredItem}
use Rattle.snap_record.specs.declared.items.StoredItem.TheVariants as kept

-- with one call more the items are the same
same_items : (calls : List Called) (c : Called) (xs : List StoredItem) → AllByRecursion (IsThere (length calls)) xs →
    kept_items (calls ++ c ∷ []) xs ≡ kept_items calls xs
same_items calls c [] h = refl
same_items calls c (kept.Step i ∷ xs) h = ap (λ l. item.Step i ∷ l) (same_items calls c xs h.1)
same_items calls c (kept.Call k ∷ xs) h =
    ap (λ x. call_item x ∷ kept_items (calls ++ c ∷ []) xs) (get_or-append calls (c ∷ []) nobody k h.0)
    ∙ ap (λ l. call_item (get_or calls k nobody) ∷ l) (same_items calls c xs h.1)
same_items calls c (kept.Crash i ∷ xs) h = ap (λ l. item.Crash i ∷ l) (same_items calls c xs h.1)

-- a call more
pub call_kept : (calls calls' : List Called) (c : Called) (k : ℕ) (old new : List StoredItem) →
    calls' ≡ calls ++ c ∷ [] → k ≡ length calls → new ≡ old ++ kept.Call k ∷ [] → AreKept calls old →
    kept_items calls' new ≡ kept_items calls old ++ call_item c ∷ []
call_kept calls calls' c k old new more place is h =
    ap (λ l. kept_items l new) more ∙ ap (kept_items (calls ++ c ∷ [])) is
    ∙ map-append (kept_item (calls ++ c ∷ [])) old (kept.Call k ∷ [])
    ∙ ap (λ l. l ++ kept_item (calls ++ c ∷ []) (kept.Call k) ∷ []) (same_items calls c old h.there)
    ∙ ap (λ m. kept_items calls old ++ call_item (get_or (calls ++ c ∷ []) m nobody) ∷ []) place
    ∙ ap (λ d. kept_items calls old ++ call_item d ∷ []) (get_or-append_seam calls c [] nobody)
