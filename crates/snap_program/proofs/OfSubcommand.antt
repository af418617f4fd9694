-- What a subcommand asks for is what all arguments ask for.
use Rattle.std.proofs.Common.{◌≡◌, ℕ, List, Option, Some, None, IfSome}
use Rattle.std.specs.Prelude.{option_map}
use Rattle.clap.specs.Matches.{found_of, subcommand_name_of}
use Rattle.clap.specs.Simple.{subcommand_rows}
use Rattle.clap.specs.Walk.{rows_of}
use Rattle.clap.specs.declared.parser.matches.ArgMatches.{ArgMatches}
use Rattle.clap.specs.declared.parser.matches.ArgMatches.TheViews.{out-ArgMatches}
use Rattle.clap.specs.declared.parser.matches.Found.{Found}
use Rattle.snap_program.specs.Invocations.{IsAsked, IsAskedBy}
use Rattle.snap_options.specs.declared.invocation.Invocation.{Invocation}
use Rattle.snap_program.specs.declared.arguments.Order.{Order}

-- what the subcommand that was found asks for
pub asked_by_subcommand : (m : ArgMatches) (name : List ℕ) (own : Found) (asked : Option (Invocation Order)) →
    subcommand_name_of m ≡ Some name →
    option_map (λ p. p.1) (subcommand_rows (out-ArgMatches m).subcommand) ≡ Some (rows_of own) →
    IfSome asked (IsAskedBy name own (found_of m)) → IfSome asked (IsAsked m)
asked_by_subcommand m name own None named rows h = tt
asked_by_subcommand m name own (Some a) named rows h = (name, own, named, rows, h)
