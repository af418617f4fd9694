-- `lost_in`: where a line of an input is lost, the first token with which no line of its sort goes on; and what is
-- wanted there.
use Rattle.std.specs.Prelude.{ℕ, ◌+◌, Bool, true, false, ◌&&◌, ◌||◌, List, [], ◌∷◌, ◌++◌, Option, Some, None}
use Rattle.std.specs.Prelude.{if◌then◌else◌}
use Rattle.snap_semantics.specs.Token.{Token}
use Rattle.snap_explanation.specs.Grammar.{TokenStep, Takes, Passes, Refuses, after, may_pass, same_part}
use Rattle.snap_explanation.specs.declared.parts.Part.{Part}
use Rattle.snap_explanation.specs.declared.parts.Part.TheVariants as part
use Rattle.snap_explanation.specs.declared.line_sorts.LineSort.{LineSort}
use Rattle.snap_explanation.specs.declared.line_sorts.LineSort.TheVariants as line
use Rattle.snap_explanation.specs.declared.line_sorts.Header.{Header}
use Rattle.snap_explanation.specs.declared.line_sorts.Header.TheVariants as header

-- what is wanted in a row, and whether `@` is an index there
pub record Wanted : Type 0 where
  pub parts : List Part
  pub places : Bool

-- what is wanted behind a token that makes this step, with these wanted behind; where it
-- passes on, that is said already
abbrev pub stepped : Bool → List Part → Option Wanted → TokenStep → Option Wanted
stepped q ps passed (Takes next) = Some (record { parts = next ++ ps; places = q })
stepped q ps passed Passes = passed
stepped q ps passed Refuses = None

-- What is wanted behind a token, where these are wanted in a row; none where the line does not go on with it. Behind
-- a range `@` is an index.
abbrev pub step : Bool → Token → List Part → Option Wanted
step q t [] = None
step q t (p ∷ ps) = stepped (q || same_part p part.Range) ps (step q t ps) (after q p t)

-- whether a line may end where these are wanted
abbrev pub may_end : List Part → Bool
may_end [] = true
may_end (p ∷ ps) = may_pass p && may_end ps

-- a place in a line: so many tokens stand before it, and these were wanted there
pub record Place : Type 0 where
  pub before : ℕ
  pub wanted : Wanted

-- a token with which a line does not go on is lost, where so many stand before it and these are wanted; else a place
-- behind it may be
abbrev pub lost_at : (before : ℕ) → Wanted → (Wanted → Option Place) → Option Wanted → Option Place
lost_at before ws later None = Some (record { before = before; wanted = ws })
lost_at before ws later (Some next) = later next

-- where tokens are lost behind so many others: at the first one with which the line does not go on, or at the end of
-- the line; none where they are all that is wanted
abbrev pub lost : (before : ℕ) → Wanted → List Token → Option Place
lost before ws [] = if may_end ws.parts then None else Some (record { before = before; wanted = ws })
lost before ws (t ∷ ts) = lost_at before ws (λ next. lost (before + 1) next ts) (step ws.places t ws.parts)

-- what each header line is
abbrev pub parts_of_header : Header → List Part
parts_of_header header.Kind = part.Kind ∷ part.KindName ∷ []
parts_of_header header.Scalars = part.Scalar ∷ part.Names ∷ []
parts_of_header header.Rows = part.Row ∷ part.Names ∷ []
parts_of_header header.Words = part.Words ∷ part.Names ∷ []
parts_of_header header.Views = part.View ∷ part.Names ∷ []
parts_of_header header.Scan = part.Scan ∷ part.LineNumber ∷ []
parts_of_header header.Update = part.Update ∷ part.LineNumber ∷ []

-- what a line of each sort is
abbrev pub parts_of_line : LineSort → List Part
parts_of_line (line.Header h) = parts_of_header h
parts_of_line line.Numbered = part.LineNumber ∷ part.Colon ∷ part.Instruction ∷ []
parts_of_line line.Shape = part.Shape ∷ part.Count ∷ part.Count ∷ []
parts_of_line line.Item = part.Process ∷ part.Act ∷ []
parts_of_line line.Script = part.Process ∷ part.ScriptAct ∷ []
parts_of_line line.Command = part.Command ∷ []

-- where a line of this sort is lost
abbrev pub lost_in : LineSort → List Token → Option Place
lost_in sort ts = lost 0 (record { parts = parts_of_line sort; places = false }) ts
