-- `not_lost` and `none_goes_on`: a line that has a form of its sort is not lost, and no line with a form goes on
-- where another is lost.
use Rattle.std.proofs.Common.{◌≡◌, true, false, List, ◌∷◌, ◌++◌, length, Some, None, codes, refl, arith, inl, inr}
use Rattle.std.proofs.lemmas.Bool.{cases_Bool}
use Rattle.snap_semantics.specs.Token.{Token}
use Rattle.snap_explanation.specs.declared.parts.Part.TheVariants as part
use Rattle.snap_explanation.specs.declared.line_sorts.Header.TheVariants as header
use Rattle.snap_explanation.specs.declared.line_sorts.LineSort.{LineSort}
use Rattle.snap_explanation.specs.declared.line_sorts.LineSort.TheVariants as line
use Rattle.snap_explanation.specs.Grammar.{singles, values, written, instructions, commands, class_forms, fronts}
use Rattle.snap_explanation.specs.Grammar.{options}
use Rattle.snap_explanation.specs.Lost.{Place, lost_in, parts_of_line}
use Rattle.snap_explanation.proofs.Stays.{stays}
use Rattle.snap_reading_laws.specs.Laws.{has_form}
use Rattle.snap_reading_laws.proofs.Forms.{plain, told, shape_goes, item_goes, kind_goes, names_by, entry_by}
use Rattle.snap_reading_laws.proofs.Forms.{script_goes}
use Rattle.snap_reading_laws.proofs.Commands.{command_goes}

pub not_lost : (sort : LineSort) (ts : List Token) → has_form sort ts ≡ true → lost_in sort ts ≡ None
unfolding singles values written instructions commands class_forms fronts options
not_lost (line.Header header.Kind) ts h = told _ (kind_goes ts) h
not_lost (line.Header header.Scalars) ts h = told _ (names_by part.Scalar (codes "scalar") (λ us. refl) ts) h
not_lost (line.Header header.Rows) ts h = told _ (names_by part.Row (codes "row") (λ us. refl) ts) h
not_lost (line.Header header.Words) ts h = told _ (names_by part.Words (codes "words") (λ us. refl) ts) h
not_lost (line.Header header.Views) ts h = told _ (names_by part.View (codes "view") (λ us. refl) ts) h
not_lost (line.Header header.Scan) ts h = told _ (entry_by part.Scan (codes "scan") (λ us. refl) ts) h
not_lost (line.Header header.Update) ts h = told _ (entry_by part.Update (codes "update") (λ us. refl) ts) h
not_lost line.Numbered ts h = absurd cc
not_lost line.Shape ts h = told _ (shape_goes ts) h
not_lost line.Item ts h = told _ (item_goes ts) h
not_lost line.Script ts h = told _ (script_goes ts) h
not_lost line.Command ts h = told _ (command_goes ts) h

pub none_goes_on : (sort : LineSort) (front : List Token) (t : Token) (rest more : List Token) (p : Place) →
    lost_in sort (front ++ t ∷ rest) ≡ Some p → p.before ≡ length front → has_form sort (front ++ t ∷ more) ≡ false
none_goes_on sort front t rest more p e f =
    elim (cases_Bool (has_form sort (front ++ t ∷ more))) [
      | inl h ↦
          absurd (let there : lost_in sort (front ++ t ∷ more) ≡ Some p =
          stays front t rest more 0 (plain (parts_of_line sort)) p e (omega (arith, f)) in
          let none = not_lost sort (front ++ t ∷ more) h in cc)
      | inr h ↦ h
    ]
