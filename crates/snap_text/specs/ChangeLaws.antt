-- The laws of the changes between two texts: put into the old
-- lines they make the new ones, and each says what it replaced.
use Rattle.std.specs.Prelude.{◌≡◌, ◌≢◌, ℕ, List, Some, None, slice_get}
use Rattle.std.specs.List.{AllByRecursion}
use Rattle.snap_text.specs.Changes.{Change, Replaced, Added, Removed, changes_between, put_all}

-- put into the old lines, the changes make the new ones
abbrev pub MakeTheNew : Type 0
MakeTheNew = (xs ys : List (List ℕ)) → put_all (changes_between xs ys) xs ≡ ys

-- A change says what stood at its place before, and what stands there now, which is not the same.
abbrev pub IsReal : List (List ℕ) → List (List ℕ) → Change → Type 0
IsReal xs ys (Replaced k x y) = (slice_get xs k ≡ Some x) × (slice_get ys k ≡ Some y) × (x ≢ y)
IsReal xs ys (Added k y) = (slice_get xs k ≡ None) × (slice_get ys k ≡ Some y)
IsReal xs ys (Removed k x) = (slice_get xs k ≡ Some x) × (slice_get ys k ≡ None)

abbrev pub AreReal : Type 0
AreReal = (xs ys : List (List ℕ)) → AllByRecursion (IsReal xs ys) (changes_between xs ys)
