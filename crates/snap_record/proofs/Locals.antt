-- The locals that a record answers at a position: a view of a process, looked up by its name (`local_value`), is the
-- value of that name among the views, if no other local has it.
use Rattle.std.specs.Prelude.{◌≡◌, ℕ, Bool, true, false, List, [], ◌∷◌, Option, Some, None}
use Rattle.std.specs.Prelude.{option_map, bytes_eq, if◌then◌else◌, refl}
use Rattle.std.proofs.Common.{◌∙◌}
use Rattle.snap_words.specs.Word.{Word}
use Rattle.snap_semantics.specs.Rules.{or_else}
use Rattle.snap_semantics.specs.Readers.{LocalValue, NumberValue, RowValue, WordsValue}
use Rattle.snap_semantics.specs.Readers.{ViewValue, find_name, local_value}
use Rattle.snap_semantics.specs.Source.{Name}
use Rattle.snap_semantics.specs.State.{Locals, NameMap, value_at}
use Rattle.snap_record.specs.Names.{Lacks}

-- the value that is found
found_value : (x : Name) (named : NameMap (List ℕ)) (v : List ℕ) → Some v ≡ find_name x named → value_at x named [] ≡ v
found_value x [] v h = absurd cc
found_value x (e ∷ es) v h = by_name (bytes_eq x e.0) h (found_value x es v)
  where
    by_name : (b : Bool) → Some v ≡ (if b then Some e.1 else find_name x es) →
        (Some v ≡ find_name x es → value_at x es [] ≡ v)
        → (if b then e.1 else value_at x es []) ≡ v
    by_name true found rest = cc
    by_name false found rest = rest found

-- a view is found among the views
among_views : (a : Option ℕ) (b : Option (List ℕ)) (c : Option (List Word)) (d : Option (List ℕ)) (v : List ℕ) →
    Some (ViewValue v) ≡ or_else (option_map (λ x. NumberValue x) a) (or_else (option_map (λ x. RowValue x) b)
    (or_else (option_map (λ x. WordsValue x) c) (option_map (λ x. ViewValue x) d))) → Some v ≡ d
among_views None None None (Some x) v h = cc
among_views _ _ _ _ v h = absurd cc

-- what a name of a view has
pub view_named : (l : Locals) (x : Name) (v : List ℕ) → Some (ViewValue v) ≡ local_value l x → value_at x l.views [] ≡ v
view_named l x v h =
    found_value x l.views v
    (among_views (find_name x l.scalars) (find_name x l.rows) (find_name x l.words) (find_name x l.views) v h)

-- a name that has no value
no_value : (x : Name) (named : NameMap (List ℕ)) → None ≡ find_name x named → value_at x named [] ≡ []
no_value x [] h = refl
no_value x (e ∷ es) h = by_name (bytes_eq x e.0) h (no_value x es)
  where
    by_name : (b : Bool) → None ≡ (if b then Some e.1 else find_name x es) →
        (None ≡ find_name x es → value_at x es [] ≡ []) → (if b then e.1 else value_at x es []) ≡ []
    by_name true found rest = absurd cc
    by_name false found rest = rest found

-- what a name has that no other local has
view_or_none : (l : Locals) (x : Name) (o : Option LocalValue) → Lacks x l → o ≡ local_value l x →
    ((v : List ℕ) → o ≡ Some (ViewValue v) → ⊥) → value_at x l.views [] ≡ []
view_or_none l x o alone is none =
    let among : o ≡ option_map (λ v. ViewValue v) (find_name x l.views) =
    is ∙ (λ i.
    or_else (option_map (λ v. NumberValue v) (alone.scalars i)) (or_else (option_map (λ v. RowValue v) (alone.rows i))
    (or_else (option_map (λ v. WordsValue v) (alone.words i))
    (option_map (λ v. ViewValue v) (find_name x l.views))))) in
    no_value x l.views (by_view (find_name x l.views) among)
  where
    by_view : (f : Option (List ℕ)) → o ≡ option_map (λ v. ViewValue v) f → None ≡ f
    by_view None e = refl
    by_view (Some v) e = absurd (none v e)

-- a scalar has the name
pub no_number : (l : Locals) (x : Name) (n : ℕ) → Lacks x l →
    Some (NumberValue n) ≡ local_value l x → value_at x l.views [] ≡ []
no_number l x n alone is = view_or_none l x (Some (NumberValue n)) alone is (λ v e. absurd cc)

-- a row has it
pub no_row : (l : Locals) (x : Name) (row : List ℕ) → Lacks x l →
    Some (RowValue row) ≡ local_value l x → value_at x l.views [] ≡ []
no_row l x row alone is = view_or_none l x (Some (RowValue row)) alone is (λ v e. absurd cc)

-- words have it
pub no_words : (l : Locals) (x : Name) (words : List Word) → Lacks x l →
    Some (WordsValue words) ≡ local_value l x → value_at x l.views [] ≡ []
no_words l x words alone is = view_or_none l x (Some (WordsValue words)) alone is (λ v e. absurd cc)

-- no local has it
pub none_there : (l : Locals) (x : Name) → Lacks x l → None ≡ local_value l x → value_at x l.views [] ≡ []
none_there l x alone is = view_or_none l x None alone is (λ v e. absurd cc)
