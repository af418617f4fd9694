-- `IsAsked`: what matched arguments of snaplab ask for, by the texts that `clap` has found for its options; and
-- `HasLimits`: where that is a live run, its limit on turns is one that processes may have.
use Rattle.std.specs.Prelude.{◌≡◌, ℕ, List, Option, Some, None, nat_le, ◌&&◌, codes, option_map, if◌then◌else◌}
use Rattle.clap.specs.Matches.{first_value, found_of, one_text, subcommand_name_of}
use Rattle.clap.specs.Simple.{subcommand_rows}
use Rattle.clap.specs.Walk.{rows_of}
use Rattle.clap.specs.declared.parser.matches.ArgMatches.{ArgMatches}
use Rattle.clap.specs.declared.parser.matches.ArgMatches.TheViews.{out-ArgMatches}
use Rattle.clap.specs.declared.parser.matches.Found.{Found}
use Rattle.snap_words.specs.Shape.{max_items}
use Rattle.snap_words.specs.declared.kind.KindTag.{KindTag}
use Rattle.snap_tasks.specs.Request.{HasLimit, request_of}
use Rattle.snap_tasks.specs.declared.request.Options.{Options}
use Rattle.snap_tasks.specs.declared.subject.Subject.{Subject}
use Rattle.snap_tasks.specs.declared.subject.Subject.TheVariants.{FirstPart, Shipped}
use Rattle.snap_options.specs.Given.{IsFlag, IsNumber, kind_given}
use Rattle.snap_options.specs.declared.invocation.Invocation.{Invocation}
use Rattle.snap_program.specs.declared.arguments.Order.{Order}

-- the limit that is given, where it is one that processes may have, and else 100,000
abbrev pub limit_or_usual : Option ℕ → ℕ
limit_or_usual None = 100000
limit_or_usual (Some limit) = if nat_le 1 limit && nat_le limit max_items then limit else 100000

-- the shipped listing of a kind, where one is given; and that of the input, where none is
abbrev pub subject_of : Option KindTag → Subject
subject_of None = FirstPart
subject_of (Some kind) = Shipped kind

-- where a live run is asked for, its limit on turns is one that processes may have
abbrev pub HasLimits : Invocation Order → Type 0
HasLimits asked = HasLimit asked.request.request

-- the limit of turns that these arguments give, or the usual one
abbrev pub IsLimitIn : Found → ℕ → Type 0
IsLimitIn own limit =
    (given : Option ℕ) × IsNumber (one_text own (codes "limit")) given × (limit ≡ limit_or_usual given)

-- the most configurations that a search is to keep, where a number is given, and else 1,000,000
abbrev pub most_or_usual : Option ℕ → ℕ
most_or_usual None = 1000000
most_or_usual (Some most) = if nat_le 1 most then most else 1000000

-- the most configurations that these arguments give, or the usual number
abbrev pub IsMostIn : Found → ℕ → Type 0
IsMostIn own most = (given : Option ℕ) × IsNumber (one_text own (codes "most")) given × (most ≡ most_or_usual given)

-- how many processes may crash at any time by these arguments, where a number is given, and else none
abbrev pub crashes_or_none : Option ℕ → ℕ
crashes_or_none None = 0
crashes_or_none (Some crashes) = crashes

abbrev pub AreCrashesIn : Found → ℕ → Type 0
AreCrashesIn own crashes =
    (given : Option ℕ) × IsNumber (one_text own (codes "crashes")) given × (crashes ≡ crashes_or_none given)

-- What the options of a subcommand say: the listing, the limit of turns, whether the input is a history, the most
-- configurations of a search, and how many processes may crash.
pub record AreOptionsIn (own : Found) (o : Options) : Type 0 where
  pub listing : option_map subject_of (kind_given (first_value own (codes "shipped"))) ≡ Some o.subject
  pub limit : IsLimitIn own o.limit
  pub history : IsFlag (one_text own (codes "history")) o.history
  pub most : IsMostIn own o.most
  pub crashes : AreCrashesIn own o.crashes

-- What the subcommand of this name asks for, by its own arguments and by those before it.
pub record IsAskedBy (name : List ℕ) (own top : Found) (asked : Invocation Order) : Type 0 where
  pub options : Options
  pub given : AreOptionsIn own options
  pub request : request_of name options ≡ Some asked.request.request
  pub explains : IsFlag (one_text top (codes "explain")) asked.explains
  pub strict : IsFlag (one_text own (codes "strict")) asked.request.strict

-- What matched arguments ask for: their subcommand does, by its arguments.
abbrev pub IsAsked : ArgMatches → Invocation Order → Type 0
IsAsked m asked =
    (name : List ℕ) × (own : Found) × (subcommand_name_of m ≡ Some name)
    × (option_map (λ p. p.1) (subcommand_rows (out-ArgMatches m).subcommand) ≡ Some (rows_of own))
    × IsAskedBy name own (found_of m) asked
