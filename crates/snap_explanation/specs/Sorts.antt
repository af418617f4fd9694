-- The names of a listing by their sorts, from the words of its header lines.
use Rattle.std.specs.Prelude.{ℕ, Bool, false, List, [], ◌∷◌, Option, Some, None, bytes_eq, codes, if◌then◌else◌}
use Rattle.snap_words.specs.declared.kind.KindTag.{KindTag}
use Rattle.snap_semantics.specs.declared.text.Sort.{Sort}
use Rattle.snap_semantics.specs.declared.text.Sort.TheVariants as sort
use Rattle.snap_semantics.specs.HeaderForms.{kind_of_keyword}
use Rattle.snap_semantics.specs.ListingForms.{is_reserved}
use Rattle.snap_semantics.specs.Rules.{or_else}
use Rattle.snap_semantics.specs.Source.{Source}
use Rattle.snap_semantics.specs.Uses.{same_sort}

-- the sort that a header line declares, by its first word
abbrev pub sort_of_keyword : List ℕ → Option Sort
sort_of_keyword w =
    if bytes_eq w (codes "scalar") then Some sort.Scalar else
    if bytes_eq w (codes "row") then Some sort.Row else
    if bytes_eq w (codes "words") then Some sort.Words else
    if bytes_eq w (codes "view") then Some sort.View else None

abbrev pub is_sort : Sort → Option Sort → Bool
is_sort wanted None = false
is_sort wanted (Some found) = same_sort wanted found

-- the names of a sort among words, where those at the front are of sort `now`
abbrev pub names_of : (wanted : Sort) (now : Option Sort) → List (List ℕ) → List (List ℕ)
names_of wanted now [] = []
names_of wanted now (w ∷ ws) =
    if is_reserved w then names_of wanted (or_else (sort_of_keyword w) now) ws else
    if is_sort wanted now then w ∷ names_of wanted now ws else names_of wanted now ws

-- the kind that the words of the first header line say
abbrev pub kind_in : List (List ℕ) → Option KindTag
kind_in [] = None
kind_in (k ∷ []) = None
kind_in (k ∷ w ∷ ws) = kind_of_keyword w

-- a kind and the names that words declare, as a listing without lines
abbrev pub source_in : KindTag → List (List ℕ) → Source
source_in k ws = record {
  kind = k;
  scalars = names_of sort.Scalar None ws;
  rows = names_of sort.Row None ws;
  words = names_of sort.Words None ws;
  views = names_of sort.View None ws;
  scan = 0;
  update = 0;
  lines = [];
}

-- the names of one sort
abbrev pub of_sort : Source → Sort → List (List ℕ)
of_sort s sort.Scalar = s.scalars
of_sort s sort.Row = s.rows
of_sort s sort.Words = s.words
of_sort s sort.View = s.views
