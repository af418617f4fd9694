-- `IsAskedBy`: the picture that matched arguments of snapdraw ask for, by the texts that `clap` has found for its
-- options.
use Rattle.std.specs.Prelude.{◌≡◌, List, ℕ, Option, Some, None, codes, option_map}
use Rattle.clap.specs.Matches.{first_value, found_of, matched_of, one_text, raw_values}
use Rattle.clap.specs.declared.parser.matches.ArgMatches.{ArgMatches}
use Rattle.clap.specs.declared.parser.matches.Found.{Found}
use Rattle.snap_words.specs.declared.kind.KindTag.{KindTag}
use Rattle.snap_options.specs.Given.{IsFlag, IsNumber, kind_given}
use Rattle.snap_options.specs.declared.invocation.Invocation.{Invocation}
use Rattle.snap_named_files.specs.Named.{named_of, view_named}
use Rattle.snapdraw.specs.declared.arguments.Drawing.{Drawing}

-- What arguments ask for: the files, the kind whose shipped listing is drawn, the items, whether reads are drawn, and
-- whether refusals are explained.
pub record IsAskedBy (found : Found) (asked : Invocation Drawing) : Type 0 where
  pub kind : Option KindTag
  pub shipped : kind_given (first_value found (codes "shipped")) ≡ Some kind
  pub names : List (List ℕ)
  pub files : option_map raw_values (matched_of found (codes "FILE")) ≡ Some names
  pub named : named_of kind names ≡ Some (view_named asked.request.named)
  pub from : IsNumber (one_text found (codes "from")) asked.request.from
  pub to : IsNumber (one_text found (codes "to")) asked.request.to
  pub reads : IsFlag (one_text found (codes "reads")) asked.request.reads
  pub explains : IsFlag (one_text found (codes "explain")) asked.explains
