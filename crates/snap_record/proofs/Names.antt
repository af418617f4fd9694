-- In each state of a run, no process has a scalar, a row or a `words` local with the name of a view (`ViewsAlone`).
use Rattle.std.proofs.Common.{◌≡◌, ℕ, Bool, true, false, ◌||◌, List, [], ◌∷◌, Some, None}
use Rattle.std.proofs.Common.{if◌then◌else◌, refl, sym, ap, ◌∙◌}
use Rattle.std.specs.Prelude.{bytes_eq}
use Rattle.snap_words.specs.Shape.{Counts}
use Rattle.snap_words.specs.Word.{Word}
use Rattle.snap_semantics.specs.Readers.{find_name}
use Rattle.snap_semantics.specs.Source.{Name, Source}
use Rattle.snap_semantics.specs.State.{Locals, NameMap, all_at, initial_process, with_scalar, with_row, with_value}
use Rattle.snap_semantics.specs.State.{with_words}
use Rattle.snap_semantics.specs.Uses.{is_among, sort_of}
use Rattle.snap_semantics.specs.declared.text.Sort.TheVariants as sort
use Rattle.snap_runs.specs.Run.{Run, state}
use Rattle.snap_record.specs.Names.{Lacks, ViewsAlone}
use Rattle.snap_record.proofs.KeptLocals.{in_each_state}

-- another value of a name that is there
pub set_lacks : {A : Type 0} (x y : Name) (v : A) (es : NameMap A) → find_name x es ≡ None →
    find_name x (with_value y v es) ≡ None
set_lacks x y v [] h = refl
set_lacks x y v (e ∷ es) h = by_names (bytes_eq y e.0) (bytes_eq x e.0) refl h (set_lacks x y v es)
  where
    by_names : (b c : Bool) → bytes_eq x e.0 ≡ c → (if c then Some e.1 else find_name x es) ≡ None →
        (find_name x es ≡ None → find_name x (with_value y v es) ≡ None) →
        find_name x (if b then (e.0, v) ∷ es else e ∷ with_value y v es) ≡ None
    by_names b true is h rest = absurd cc
    by_names true false is h rest = ap (λ c. if c then Some v else find_name x es) is ∙ h
    by_names false false is h rest = ap (λ c. if c then Some e.1 else find_name x (with_value y v es)) is ∙ rest h

-- another value of a scalar
scalar_lacks : (x y : Name) (v : ℕ) (l : Locals) → Lacks x l → Lacks x (with_scalar y v l)
scalar_lacks x y v l h = record { scalars = set_lacks x y v l.scalars h.scalars; rows = h.rows; words = h.words }

-- another value of a row
row_lacks : (x y : Name) (v : List ℕ) (l : Locals) → Lacks x l → Lacks x (with_row y v l)
row_lacks x y v l h = record { scalars = h.scalars; rows = set_lacks x y v l.rows h.rows; words = h.words }

-- another value of a words local
words_lacks : (x y : Name) (v : List Word) (l : Locals) → Lacks x l → Lacks x (with_words y v l)
words_lacks x y v l h = record { scalars = h.scalars; rows = h.rows; words = set_lacks x y v l.words h.words }

module _ (x : Name) where
  -- a name that is not among these
  pub not_named : {A : Type 0} (v : A) (names : List Name) → is_among x names ≡ false → find_name x
      (all_at v names) ≡ None
  not_named v [] e = refl
  not_named v (y ∷ names) e = by_name (bytes_eq x y) refl e (not_named v names)
    where
      by_name : (b : Bool) → bytes_eq x y ≡ b → is_among x (y ∷ names) ≡ false →
          (is_among x names ≡ false → find_name x (all_at v names) ≡ None) → find_name x (all_at v (y ∷ names)) ≡ None
      by_name true is e rest = absurd (let f = sym (ap (λ b. b || is_among x names) is) ∙ e in cc)
      by_name false is e rest =
          ap (λ b. if b then Some v else find_name x (all_at v names)) is
          ∙ rest (sym (ap (λ b. b || is_among x names) is) ∙ e)

  -- the name of a view
  at_first : (s : Source) (n : Counts) → sort_of s x ≡ Some sort.View → Lacks x (initial_process s n).locals
  at_first s n view = by_sorts (is_among x s.scalars) (is_among x s.rows) (is_among x s.words) refl refl refl view
    where
      by_sorts : (a b c : Bool) → is_among x s.scalars ≡ a → is_among x s.rows ≡ b → is_among x s.words ≡ c →
          (if a then Some sort.Scalar else if b then Some sort.Row else if c then Some sort.Words
          else if is_among x s.views then Some sort.View else None)
          ≡ Some sort.View → Lacks x (initial_process s n).locals
      by_sorts false false false ea eb ec e =
          record { scalars = not_named _ s.scalars ea; rows = not_named _ s.rows eb; words = not_named _ s.words ec }
      by_sorts _ _ _ ea eb ec e = absurd cc

-- in each state of a run
pub views_alone : (r : Run) (t : ℕ) → ViewsAlone r.source (state r t)
views_alone r t =
    λ x i view. in_each_state (Lacks x) (scalar_lacks x) (row_lacks x) (words_lacks x)
    (λ y v l h. record { scalars = h.scalars; rows = h.rows; words = h.words })
    (record { scalars = refl; rows = refl; words = refl }) r t i (at_first x r.source r.shape view)
