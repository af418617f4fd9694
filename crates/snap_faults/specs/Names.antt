-- What a program is called, and the names of its files.
use Rattle.std.specs.Prelude.{ℕ, List, [], ◌++◌, Option, Some, None, codes, option_map}
use Rattle.snap_faults.specs.declared.files.Names as declared
use Rattle.snap_faults.specs.declared.files.Which.{Which}
use Rattle.snap_faults.specs.declared.files.Which.TheVariants as which

-- the name of a program, and those of its files, where it has such a file
pub record Names : Type 0 where
  pub program : List ℕ
  pub listing : Option (List ℕ)
  pub schedule : Option (List ℕ)

abbrev pub view_names : declared.Names → Names
view_names n = record {
  program = n.program.now;
  listing = option_map (λ name. name.now) n.listing;
  schedule = option_map (λ name. name.now) n.schedule;
}

-- the name of a file
abbrev pub file_of : Names → Which → Option (List ℕ)
file_of n which.Listing = n.listing
file_of n which.Schedule = n.schedule

-- the front of a line that speaks of a file: the program and the file, where the file has a name; a line on standard
-- input has no front
abbrev pub front : (program : List ℕ) → (file : Option (List ℕ)) → List ℕ
front program None = []
front program (Some file) = program ++ codes ": " ++ file ++ codes ": "

-- a program that names no files
abbrev pub of_program : (program : List ℕ) → Names
of_program p = record { program = p; listing = None; schedule = None }
