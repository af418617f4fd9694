-- Words of a proof, which may carry a counter, and the same words as
-- the registers have them (`plain`): reads, copies and values agree.
use Rattle.std.specs.Prelude.{◌≡◌, ℕ, suc, List, [], ◌∷◌, take, map, slice_index_or, slice_set, refl}
use Rattle.std.proofs.Common.{sym, ◌∙◌, ap}
use Rattle.std.proofs.Math.ListN.{get_or-map}
use Rattle.std.proofs.lemmas.List.{map-set}
use Rattle.snap_words.specs.Word.{Word, no_word}
use Rattle.snap_runs.proofs.Held.{data_of}

module _ (plain : Word → Word) (none : plain no_word ≡ no_word) where
  pub plain_at : (ws : List Word) (k : ℕ) →
      slice_index_or (map plain ws) k no_word ≡ plain (slice_index_or ws k no_word)
  plain_at ws k = ap (slice_index_or (map plain ws) k) (sym none) ∙ get_or-map plain ws k no_word

  -- a word that is read
  pub plain_copied : (a ws : List Word) (k r : ℕ) →
      slice_set (map plain a) k (slice_index_or (map plain ws) r no_word)
      ≡ map plain (slice_set a k (slice_index_or ws r no_word))
  plain_copied a ws k r =
      ap (slice_set (map plain a) k) (plain_at ws r) ∙ sym (map-set plain a k (slice_index_or ws r no_word))

-- the values are the same
module _ (plain : Word → Word) (same : (w : Word) → (plain w).datum ≡ w.datum) where
  pub plain_data : (ws : List Word) → data_of (map plain ws) ≡ data_of ws
  plain_data [] = refl
  plain_data (w ∷ ws) = ap (λ x. x ∷ data_of (map plain ws)) (same w) ∙ ap (λ rest. w.datum ∷ rest) (plain_data ws)

  pub plain_taken : (n : ℕ) (ws : List Word) → data_of (take n (map plain ws)) ≡ data_of (take n ws)
  plain_taken (suc n) (w ∷ ws) =
      ap (λ x. x ∷ data_of (take n (map plain ws))) (same w) ∙ ap (λ rest. w.datum ∷ rest) (plain_taken n ws)
  plain_taken _ _ = refl
