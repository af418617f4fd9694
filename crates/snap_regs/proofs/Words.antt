-- Word registers: a word that is read has the sizes of the shape, and the registers keep their sizes when such a word
-- is written.
use Rattle.std.proofs.Common.{◌≡◌, ◌∙◌, ℕ, ◌-◌, ◌<◌, List, true, map, length, get_or}
use Rattle.std.proofs.Common.{slice_set, ap, sym, subst, length-set}
use Rattle.std.proofs.lemmas.List.{map-set, get_or-map, length-map}
use Rattle.std.proofs.lemmas.List.Elements.{All-set, All-get_or}
use Rattle.std.specs.List.{All}
use Rattle.snap_words.specs.Kind.{is_sized}
use Rattle.snap_words.specs.Shape.{Counts}
use Rattle.snap_words.specs.Word.{Word}
use Rattle.snap_words.specs.declared.kind.KindTag.{KindTag}
use Rattle.snap_semantics.specs.State.{Memory, with_memory_words}
use Rattle.snap_regs.specs.Store.{Store, IsOfShape, with_word}

pub IsOfShape-set_word : (k : KindTag) (s : Counts) (m : Memory) (i : ℕ) (x : Word) → IsOfShape k s m →
    is_sized k s x ≡ true → IsOfShape k s (with_memory_words (slice_set m.words i x) m)
IsOfShape-set_word k s m i x h e = record {
  word_count = length-set m.words i x ∙ h.word_count;
  words_sized = All-set (λ (y : Word). is_sized k s y ≡ true) m.words i x e h.words_sized;
  q_rows = h.q_rows;
  q_columns = h.q_columns;
  p_rows = h.p_rows;
  p_columns = h.p_columns;
  view_count = h.view_count;
  view_places = h.view_places;
}

-- a fact of all words, at the word that stands at a place
pub word_at : {W : Type 0} (as_word : W → Word) (P : Word → Type 0) (words : List W) (place : ℕ) (w : W) →
    All P (map as_word words) → place < length words → w ≡ get_or words place w → P (as_word w)
word_at as_word P words place w h lt e =
    let at = All-get_or P (map as_word words) place (as_word w) (rw (length-map words as_word) lt) h in
    subst P (get_or-map as_word words place w (as_word w) lt ∙ ap as_word (sym e)) at

-- the registers with a word put, where the words are the parts of others
pub with_word-as_word : {W : Type 0} (as_word : W → Word) (words : List W) (s : Counts) (q p views : List (List ℕ))
    (place k : ℕ) (x : W) (now : Store) → (let r : Store =
    record { shape = s; memory = record { words = map as_word words; q = q; p = p; views = views } } in r)
    ≡ now → place ≡ k - 1 → (let r : Store = record {
      shape = s;
      memory = record { words = map as_word (slice_set words place x); q = q; p = p; views = views };
    } in r) ≡ with_word k (as_word x) now
with_word-as_word as_word words s q p views place k x now e h =
    rw (map-set as_word words place x, h) (ap (with_word k (as_word x)) e)
