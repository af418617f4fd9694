-- `NotLostWithForm`, `NoneGoesOn`: a line that has a form of its sort is not lost, and no line with a form goes on
-- where one is lost. Nothing is said of the numbered lines of a listing.
use Rattle.std.specs.Prelude.{◌≡◌, Bool, true, false, List, ◌∷◌, ◌++◌, length, Some, None, codes, is_some}
use Rattle.snap_semantics.specs.HeaderForms.{kind_form, names_form, entry_form}
use Rattle.snap_semantics.specs.ScheduleForms.{shape_form, item_form}
use Rattle.snap_semantics.specs.Token.{Token}
use Rattle.snap_sched.specs.ScriptForms.{script_form}
use Rattle.snap_debug_commands.specs.CommandForms.{command_form}
use Rattle.snap_explanation.specs.declared.line_sorts.Header.{Header}
use Rattle.snap_explanation.specs.declared.line_sorts.Header.TheVariants as header
use Rattle.snap_explanation.specs.declared.line_sorts.LineSort.{LineSort}
use Rattle.snap_explanation.specs.declared.line_sorts.LineSort.TheVariants as line
use Rattle.snap_explanation.specs.Lost.{Place, lost_in}

-- whether tokens have the form of a header line
abbrev pub has_header_form : Header → List Token → Bool
has_header_form header.Kind ts = is_some (kind_form ts)
has_header_form header.Scalars ts = is_some (names_form (codes "scalar") ts)
has_header_form header.Rows ts = is_some (names_form (codes "row") ts)
has_header_form header.Words ts = is_some (names_form (codes "words") ts)
has_header_form header.Views ts = is_some (names_form (codes "view") ts)
has_header_form header.Scan ts = is_some (entry_form (codes "scan") ts)
has_header_form header.Update ts = is_some (entry_form (codes "update") ts)

-- whether tokens have a form of this sort; nothing is said of numbered lines
abbrev pub has_form : LineSort → List Token → Bool
has_form (line.Header h) ts = has_header_form h ts
has_form line.Numbered ts = false
has_form line.Shape ts = is_some (shape_form ts)
has_form line.Item ts = is_some (item_form ts)
has_form line.Script ts = is_some (script_form ts)
has_form line.Command ts = is_some (command_form ts)

-- a line that has a form of its sort is not lost
abbrev pub NotLostWithForm : Type 0
NotLostWithForm = (sort : LineSort) (ts : List Token) → has_form sort ts ≡ true → lost_in sort ts ≡ None

-- where a line is lost at a token, no line that begins with the tokens up to it has a form of its sort
abbrev pub NoneGoesOn : Type 0
NoneGoesOn = (sort : LineSort) (front : List Token) (t : Token) (rest more : List Token) (p : Place) →
    lost_in sort (front ++ t ∷ rest) ≡ Some p → p.before ≡ length front → has_form sort (front ++ t ∷ more) ≡ false
