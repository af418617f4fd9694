-- The printed text of the warnings of a listing.
use Rattle.std.specs.Prelude.{ℕ, List, ◌++◌, Result, Ok, codes, decimal}
use Rattle.std.specs.List.{flat_map}
use Rattle.snap_semantics.specs.declared.refusal.Refusal.{Refusal}
use Rattle.snap_semantics.specs.declared.refusal.Refusal.TheVariants as refusal
use Rattle.snap_semantics.specs.Answers.{◌>>=◌, refused_as}
use Rattle.snap_semantics.specs.Listing.{listing_of}
use Rattle.snap_lint.specs.declared.concern.Concern.{Concern}
use Rattle.snap_lint.specs.declared.concern.Concern.TheVariants as concern
use Rattle.snap_lint.specs.declared.concern.Warning.{Warning}
use Rattle.snap_lint.specs.Warnings.{warnings}

-- what is said of a line
abbrev pub concern_text : Concern → List ℕ
concern_text concern.OffEnd = codes "may run off the end"
concern_text concern.Nested = codes "may call within a call"
concern_text concern.BadEnd = codes "may return from an update, or finish a scan or a call"
concern_text concern.Owner = codes "may write a register of another process"
concern_text concern.Unreached = codes "is never reached"
concern_text concern.Endless = codes "leads to no end"
concern_text concern.NoWrite = codes "may finish an update that has written no word"

-- `line N: WORDS`
abbrev pub warning_line : Warning → List ℕ
warning_line w = codes "line " ++ decimal w.line ++ codes ": " ++ concern_text w.concern ++ codes "\n"

-- one line for each warning, and nothing where there is none
abbrev pub warnings_text : List Warning → List ℕ
warnings_text ws = flat_map warning_line ws

-- what is warned of in a text that is a listing; the whole input is the text
unfoldable pub lint_of : List ℕ → Result (List ℕ) Refusal
lint_of input = do
  l ← refused_as refusal.Listing (listing_of input)
  Ok (warnings_text (warnings l))
