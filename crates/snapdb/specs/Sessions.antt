-- `IsAskedBy`: the session that matched arguments of snapdb ask for, by the texts that `clap` has found for its
-- options.
use Rattle.std.specs.Prelude.{◌≡◌, List, ℕ, Option, Some, codes, option_map}
use Rattle.clap.specs.Matches.{first_value, matched_of, one_text, raw_values}
use Rattle.clap.specs.declared.parser.matches.Found.{Found}
use Rattle.snap_words.specs.declared.kind.KindTag.{KindTag}
use Rattle.snap_options.specs.Given.{IsFlag, kind_given}
use Rattle.snap_options.specs.declared.invocation.Invocation.{Invocation}
use Rattle.snap_named_files.specs.Named.{named_of, view_named}
use Rattle.snap_named_files.specs.declared.named.Named.{Named}

-- What arguments ask for: the files, the kind whose shipped listing is taken, and whether refusals are explained.
pub record IsAskedBy (found : Found) (asked : Invocation Named) : Type 0 where
  pub kind : Option KindTag
  pub shipped : kind_given (first_value found (codes "shipped")) ≡ Some kind
  pub names : List (List ℕ)
  pub files : option_map raw_values (matched_of found (codes "FILE")) ≡ Some names
  pub named : named_of kind names ≡ Some (view_named asked.request)
  pub explains : IsFlag (one_text found (codes "explain")) asked.explains
