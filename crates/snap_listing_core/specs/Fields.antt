-- A listing is seen as its source, its header as a source with no lines, and a listing with comments as both.
use Rattle.std.specs.Prelude.{ℕ, List, [], Vec, Option, map, option_map, vec_items}
use Rattle.std.specs.Global.{Global}
use Rattle.snap_semantics.specs.Comments.{Comment, Commented}
use Rattle.snap_semantics.specs.Source.{Source}
use Rattle.snap_listing_core.specs.declared.header.Header.{Header}
use Rattle.snap_listing_core.specs.declared.listing.Listing.TheInside.{Inside}

abbrev pub source_of : Inside → Source
source_of l = record {
  kind = l.kind;
  scalars = l.scalars.items;
  rows = l.rows.items;
  words = l.words.items;
  views = l.views.items;
  scan = l.scan;
  update = l.update;
  lines = l.lines.items;
}

abbrev pub header_source : Header → Source
header_source h = record {
  kind = h.kind;
  scalars = h.scalars.items;
  rows = h.rows.items;
  words = h.words.items;
  views = h.views.items;
  scan = h.scan;
  update = h.update;
  lines = [];
}

-- a comment, as it is kept
abbrev pub seen_comment : Option (Vec ℕ Global) → Comment
seen_comment c = option_map vec_items c

-- a listing with these comments
abbrev pub commented : Source → List (Option (Vec ℕ Global)) → Commented
commented s comments = record { source = s; comments = map seen_comment comments }
