-- The names of each sort of a listing fit a table of an image: at most 32 names, of at most eight letters.
use Rattle.std.proofs.Common.{◌≡◌, ◌≤◌, List, ◌++◌, length, nat_lt, arith, false}
use Rattle.std.proofs.lemmas.Bool.{or_parts}
use Rattle.std.proofs.lemmas.List.{length-append}
use Rattle.snap_semantics.specs.IsListing.{IsName, IsListing}
use Rattle.snap_semantics.specs.ListingForms.{is_reserved}
use Rattle.snap_semantics.specs.Source.{Name, Source}
use Rattle.snap_image.specs.Widths.{IsTable}
use Rattle.snap_listing.proofs.Alls.{all_first, all_rest}

table_first : (xs ys : List Name) → IsTable (xs ++ ys) → IsTable xs
table_first xs ys h = (omega (arith, h.0, length-append {A = Name}), all_first IsName xs ys h.1)

table_rest : (xs ys : List Name) → IsTable (xs ++ ys) → IsTable ys
table_rest xs ys h = (omega (arith, h.0, length-append {A = Name}), all_rest IsName xs ys h.1)

pub scalars_table : (s : Source) → IsListing s → IsTable s.scalars
scalars_table s h = table_first s.scalars (s.rows ++ (s.words ++ s.views)) (h.few_names, h.names)

behind_scalars : (s : Source) → IsListing s → IsTable (s.rows ++ (s.words ++ s.views))
behind_scalars s h = table_rest s.scalars (s.rows ++ (s.words ++ s.views)) (h.few_names, h.names)

pub rows_table : (s : Source) → IsListing s → IsTable s.rows
rows_table s h = table_first s.rows (s.words ++ s.views) (behind_scalars s h)

behind_rows : (s : Source) → IsListing s → IsTable (s.words ++ s.views)
behind_rows s h = table_rest s.rows (s.words ++ s.views) (behind_scalars s h)

pub words_table : (s : Source) → IsListing s → IsTable s.words
words_table s h = table_first s.words s.views (behind_rows s h)

pub views_table : (s : Source) → IsListing s → IsTable s.views
views_table s h = table_rest s.words s.views (behind_rows s h)

-- the names of all sorts
pub record Tables (s : Source) : Type 0 where
  pub scalars : IsTable s.scalars
  pub rows : IsTable s.rows
  pub words : IsTable s.words
  pub views : IsTable s.views

pub tables_of : (s : Source) → IsListing s → Tables s
tables_of s h =
    record { scalars = scalars_table s h; rows = rows_table s h; words = words_table s h; views = views_table s h }

pub short_name : (x : Name) → IsName x → length x ≤ 8
short_name x h =
    let short : nat_lt 8 (length x) ≡ false = (or_parts (nat_lt 8 (length x)) (is_reserved x) h.1).0 in
    grind (arith, short)
