-- How lines may spell a schedule: the grammar of schedules as a relation between forms and tokens.
use Rattle.std.specs.Prelude.{◌≡◌, ◌<◌, ◌⊎◌, List, [], ◌∷◌, Option, Some, None, ⊤}
use Rattle.std.specs.List.{flat_map}
use Rattle.snap_semantics.specs.declared.text.Symbol.TheVariants as symbol
use Rattle.snap_semantics.specs.Schedule.{Schedule, form_items}
use Rattle.snap_semantics.specs.ScheduleForms.{ItemForm, Steps, Calls, Crashes, spelled_shape, spelled_steps}
use Rattle.snap_semantics.specs.ScheduleForms.{spelled_call, spelled_form}
use Rattle.snap_semantics.specs.Token.{Token, Number, Sign}

-- A form may be spelled so: steps, of which there is one at least, with their count or, where they are one, without it.
abbrev pub IsSpelling : ItemForm → List Token → Type 0
IsSpelling (Steps i count) ts =
    (0 < count) × ((ts ≡ spelled_steps i count) ⊎ (ts ≡ Number i ∷ Sign symbol.Star ∷ Number count ∷ []))
IsSpelling (Calls i op) ts = ts ≡ spelled_call i op
IsSpelling (Crashes i) ts = ts ≡ spelled_form (Crashes i)

abbrev pub IsLineOf : ItemForm → Option (List Token) → Type 0
IsLineOf f None = ⊥
IsLineOf f (Some ts) = IsSpelling f ts

-- each line spells a form, in this order
abbrev pub AreLinesOf : List ItemForm → List (Option (List Token)) → Type 0
AreLinesOf [] [] = ⊤
AreLinesOf [] (line ∷ lines) = ⊥
AreLinesOf (f ∷ fs) [] = ⊥
AreLinesOf (f ∷ fs) (line ∷ lines) = IsLineOf f line × AreLinesOf fs lines

-- the first line spells the shape, and the others forms of which the items are made
abbrev pub IsSpelled : Schedule → List (Option (List Token)) → Type 0
IsSpelled s [] = ⊥
IsSpelled s (line ∷ lines) =
    (line ≡ Some (spelled_shape s.shape))
    × ((forms : List ItemForm) × AreLinesOf forms lines × (flat_map form_items forms ≡ s.items))
