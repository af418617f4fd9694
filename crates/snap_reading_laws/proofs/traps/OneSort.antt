-- In each state of a run no name has two sorts among the locals of a process, if none has two in the listing.
use Rattle.std.proofs.Common.{◌≡◌, ℕ, false, List, [], ◌∷◌, ◌++◌, Option, Some, None}
use Rattle.std.proofs.Common.{option_map, ◌⊎◌, inl, inr, refl, sym, ◌∙◌, arith}
use Rattle.std.proofs.lemmas.Bool.{cases_Bool}
use Rattle.std.specs.Prelude.{bytes_eq}
use Rattle.std.proofs.Math.Logic.{⊎_map}
use Rattle.std.proofs.lemmas.Slice.Eq.{bytes_eq-Decides}
use Rattle.snap_words.specs.Shape.{Counts}
use Rattle.snap_words.specs.Word.{Word}
use Rattle.snap_semantics.specs.IsListing.{AreDistinct}
use Rattle.snap_semantics.specs.Listing.{all_names}
use Rattle.snap_semantics.specs.Readers.{LocalValue, NumberValue, RowValue, WordsValue, ViewValue, find_name}
use Rattle.snap_semantics.specs.Rules.{or_else}
use Rattle.snap_semantics.specs.Source.{Name, Source}
use Rattle.snap_semantics.specs.State.{Locals, NameMap, initial_process, process_at, value_at, with_row, with_scalar}
use Rattle.snap_semantics.specs.State.{with_words}
use Rattle.snap_semantics.specs.Uses.{is_among}
use Rattle.snap_runs.specs.Run.{Run, state}
use Rattle.snap_asm_program.proofs.Alone.{behind_distinct}
use Rattle.snap_asm_program.proofs.Distinct.{front_apart, right_false}
use Rattle.snap_record.proofs.KeptLocals.{in_each_state}
use Rattle.snap_record.proofs.Names.{not_named, set_lacks}
use Rattle.snap_why.specs.Troubles.{row_in, words_in}
use Rattle.snap_reading_laws.proofs.traps.Values.{HaveOneSort}

-- of scalars, rows and words, this name has one at most
record HasOneSort (x : Name) (l : Locals) : Type 0 where
  pub scalar_row : (find_name x l.scalars ≡ None) ⊎ (find_name x l.rows ≡ None)
  pub scalar_words : (find_name x l.scalars ≡ None) ⊎ (find_name x l.words ≡ None)
  pub row_words : (find_name x l.rows ≡ None) ⊎ (find_name x l.words ≡ None)

-- another value of a name that is there
scalar_has : (x y : Name) (v : ℕ) (l : Locals) → HasOneSort x l → HasOneSort x (with_scalar y v l)
scalar_has x y v l h = record {
  scalar_row = ⊎_map (set_lacks x y v l.scalars) (λ e. e) h.scalar_row;
  scalar_words = ⊎_map (set_lacks x y v l.scalars) (λ e. e) h.scalar_words;
  row_words = h.row_words;
}

row_has : (x y : Name) (v : List ℕ) (l : Locals) → HasOneSort x l → HasOneSort x (with_row y v l)
row_has x y v l h = record {
  scalar_row = ⊎_map (λ e. e) (set_lacks x y v l.rows) h.scalar_row;
  scalar_words = h.scalar_words;
  row_words = ⊎_map (set_lacks x y v l.rows) (λ e. e) h.row_words;
}

words_has : (x y : Name) (v : List Word) (l : Locals) → HasOneSort x l → HasOneSort x (with_words y v l)
words_has x y v l h = record {
  scalar_row = h.scalar_row;
  scalar_words = ⊎_map (λ e. e) (set_lacks x y v l.words) h.scalar_words;
  row_words = ⊎_map (λ e. e) (set_lacks x y v l.words) h.row_words;
}

-- a name among the first of distinct ones is not among the others
behind : (x : Name) (xs ys : List Name) → is_among x (xs ++ ys) ≡ false → is_among x ys ≡ false
behind x [] ys h = h
behind x (z ∷ xs) ys h = behind x xs ys (right_false (bytes_eq x z) (is_among x (xs ++ ys)) h)

apart : (x : Name) (xs ys : List Name) → AreDistinct (xs ++ ys) → (is_among x xs ≡ false) ⊎ (is_among x ys ≡ false)
apart x [] ys h = inl refl
apart x (z ∷ xs) ys h = elim (cases_Bool (bytes_eq x z)) [
  | inl is ↦ inr (rw ((bytes_eq-Decides x z).0 is) (behind z xs ys h.0))
  | inr is ↦ rw is (apart x xs ys h.1)
]

-- at first
has_at_first : (x : Name) (s : Source) (n : Counts) → AreDistinct (all_names s) →
    HasOneSort x (initial_process s n).locals
has_at_first x s n h =
    let rest = behind_distinct s.scalars (s.rows ++ (s.words ++ s.views)) h in record {
      scalar_row =
          ⊎_map (not_named x _ s.scalars) (λ e. not_named x _ s.rows (front_apart x s.rows (s.words ++ s.views) e))
          (apart x s.scalars (s.rows ++ (s.words ++ s.views)) h);
      scalar_words =
          ⊎_map (not_named x _ s.scalars)
          (λ e. not_named x _ s.words (front_apart x s.words s.views (behind x s.rows (s.words ++ s.views) e)))
          (apart x s.scalars (s.rows ++ (s.words ++ s.views)) h);
      row_words =
          ⊎_map (not_named x _ s.rows) (λ e. not_named x _ s.words (front_apart x s.words s.views e))
          (apart x s.rows (s.words ++ s.views) rest);
    }

-- what is found among the values of a sort
abbrev from : {A : Type 0} → Option (List A) → List A
from None = []
from (Some v) = v

value_from : {A : Type 0} (x : Name) (es : NameMap (List A)) → value_at x es [] ≡ from (find_name x es)
value_from x [] = refl
value_from x (e ∷ es) = elim (cases_Bool (bytes_eq x e.0)) [
  | inl is ↦ rw is refl
  | inr is ↦ rw is (value_from x es)
]

-- the first of the values that a name has
abbrev first_of : Option ℕ → Option (List ℕ) → Option (List Word) → Option (List ℕ) → Option LocalValue
first_of a b c d =
    or_else (option_map (λ v. NumberValue v) a) (or_else (option_map (λ v. RowValue v) b)
    (or_else (option_map (λ v. WordsValue v) c) (option_map (λ v. ViewValue v) d)))

row_from : (a : Option ℕ) (b : Option (List ℕ)) (c : Option (List Word)) (d : Option (List ℕ)) →
    (a ≡ None) ⊎ (b ≡ None) → row_in (first_of a b c d) ≡ from b
row_from a b c d h = grind arith

words_from : (a : Option ℕ) (b : Option (List ℕ)) (c : Option (List Word)) (d : Option (List ℕ)) →
    (a ≡ None) ⊎ (c ≡ None) → (b ≡ None) ⊎ (c ≡ None) → words_in (first_of a b c d) ≡ from c
words_from a b c d h k = grind arith

-- in each state of a run
pub one_sort : (r : Run) (t i : ℕ) → AreDistinct (all_names r.source) → HaveOneSort (process_at (state r t) i).locals
one_sort r t i distinct =
    let l = (process_at (state r t) i).locals in
    let has : (x : Name) → HasOneSort x l = λ x.
    in_each_state (HasOneSort x) (scalar_has x) (row_has x) (words_has x)
    (λ y v l h. record { scalar_row = h.scalar_row; scalar_words = h.scalar_words; row_words = h.row_words })
    (record { scalar_row = inl refl; scalar_words = inl refl; row_words = inl refl }) r t i
    (has_at_first x r.source r.shape distinct) in record {
      rows = λ x.
          row_from (find_name x l.scalars) (find_name x l.rows) (find_name x l.words) (find_name x l.views)
          (has x).scalar_row
          ∙ sym (value_from x l.rows);
      words = λ x.
          words_from (find_name x l.scalars) (find_name x l.rows) (find_name x l.words) (find_name x l.views)
          (has x).scalar_words (has x).row_words
          ∙ sym (value_from x l.words);
    }
