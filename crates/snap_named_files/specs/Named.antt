-- `named_of`: what a command line names: the files of a listing and of a schedule, or the file of a schedule for a
-- shipped listing.
use Rattle.std.specs.Prelude.{ℕ, List, [], ◌∷◌, Option, Some, None}
use Rattle.snap_faults.specs.Names as faults
use Rattle.snap_words.specs.declared.kind.KindTag.{KindTag}
use Rattle.snap_named_files.specs.declared.named.Named.{Named}
use Rattle.snap_named_files.specs.declared.named.Named.TheVariants as named

-- what is named, by the names of files
pub data Names : Type 0 where
  Files : (listing schedule : List ℕ) → Names
  Shipped : (kind : KindTag) (schedule : List ℕ) → Names

abbrev pub view_named : Named → Names
view_named (named.Files listing schedule) = Files listing.now schedule.now
view_named (named.Shipped kind schedule) = Shipped kind schedule.now

-- a listing and a schedule, or a schedule alone where a kind is given
abbrev pub named_of : Option KindTag → List (List ℕ) → Option Names
named_of None (listing ∷ schedule ∷ []) = Some (Files listing schedule)
named_of (Some kind) (schedule ∷ []) = Some (Shipped kind schedule)
named_of _ _ = None

-- what a program is called, and the files that are named: where a listing is shipped, a schedule alone
abbrev pub names_of : (program : List ℕ) → Names → faults.Names
names_of p (Files listing schedule) = record { program = p; listing = Some listing; schedule = Some schedule }
names_of p (Shipped kind schedule) = record { program = p; listing = None; schedule = Some schedule }
