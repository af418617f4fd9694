-- `IsSearch`: a command line of snaphunt asks for a number of runs that can be counted; and which listing it names.
use Rattle.std.specs.Prelude.{ℕ, List, ◌<◌, ◌^◌}
use Rattle.snap_words.specs.declared.kind.KindTag.{KindTag}
use Rattle.snaphunt.specs.declared.arguments.Listed.{Listed}
use Rattle.snaphunt.specs.declared.arguments.Listed.TheVariants as listed
use Rattle.snaphunt.specs.declared.arguments.Search.{Search}

-- the listing that is named: that in a file, or a shipped one
pub data Named : Type 0 where
  File : (name : List ℕ) → Named
  Shipped : (kind : KindTag) → Named

abbrev pub view_listed : Listed → Named
view_listed (listed.File name) = File name.now
view_listed (listed.Shipped kind) = Shipped kind

-- runs that can be counted
abbrev pub IsSearch : Search → Type 0
IsSearch s = s.asked.runs < 2 ^ 63
