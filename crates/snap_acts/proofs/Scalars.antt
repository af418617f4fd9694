-- A scalar of a process, looked up by its name (`local_value`), is the value of that name among the scalars.
use Rattle.std.proofs.Common.{◌≡◌, ℕ, List, [], ◌∷◌, Option, Some, None, refl, sym, ap, ◌∙◌, arith}
use Rattle.snap_words.specs.Word.{Word}
use Rattle.snap_semantics.specs.Readers.{LocalValue, NumberValue, RowValue, WordsValue}
use Rattle.snap_semantics.specs.Readers.{ViewValue, find_name, local_value}
use Rattle.snap_semantics.specs.Source.{Name}
use Rattle.snap_semantics.specs.State.{Locals, NameMap, value_at}

-- a number, and 0 where there is none
abbrev pub number_in : Option LocalValue → ℕ
number_in (Some (NumberValue n)) = n
number_in _ = 0

abbrev or_zero : Option ℕ → ℕ
or_zero None = 0
or_zero (Some n) = n

found : (x : Name) (named : NameMap ℕ) → value_at x named 0 ≡ or_zero (find_name x named)
found x [] = refl
found x (e ∷ es) = grind (arith, found x es)

-- the value of a scalar is the number that is found by its name
scalar_value : (l : Locals) (x : Name) → value_at x l.scalars 0 ≡ number_in (local_value l x)
scalar_value l x = grind (arith, found x l.scalars)

-- a scalar has the name
pub scalar_there : (l : Locals) (x : Name) (n : ℕ) → Some (NumberValue n) ≡ local_value l x → value_at x l.scalars 0 ≡ n
scalar_there l x n h = scalar_value l x ∙ sym (ap number_in h)

-- a row has it
pub row_there : (l : Locals) (x : Name) (row : List ℕ) →
    Some (RowValue row) ≡ local_value l x → value_at x l.scalars 0 ≡ 0
row_there l x row h = scalar_value l x ∙ sym (ap number_in h)

-- words have it
pub words_there : (l : Locals) (x : Name) (words : List Word) →
    Some (WordsValue words) ≡ local_value l x → value_at x l.scalars 0 ≡ 0
words_there l x words h = scalar_value l x ∙ sym (ap number_in h)

-- a view has it
pub view_there : (l : Locals) (x : Name) (view : List ℕ) →
    Some (ViewValue view) ≡ local_value l x → value_at x l.scalars 0 ≡ 0
view_there l x view h = scalar_value l x ∙ sym (ap number_in h)

-- no local has it
pub none_there : (l : Locals) (x : Name) → None ≡ local_value l x → value_at x l.scalars 0 ≡ 0
none_there l x h = scalar_value l x ∙ sym (ap number_in h)
