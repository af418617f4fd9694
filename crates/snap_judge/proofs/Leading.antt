-- Moves that lead from one configuration to another.
use Rattle.std.proofs.Common.{◌≡◌, ℕ, List, [], ◌∷◌, ◌++◌, refl, sym, ◌∙◌, ap, subst}
use Rattle.snap_runs.specs.Operation.{Operation}
use Rattle.snap_judge.specs.Steps.{Step, Slot, Move, Take, Pass, Explains, taken}
use Rattle.snap_judge.specs.Configurations.{Configuration, Leads}

-- a configuration by its parts
abbrev pub made : List Step → List ℕ → List Slot → Configuration
made left values slots = record { left = left; values = values; slots = slots }

pub same_parts : (c c' : Configuration) → c.left ≡ c'.left → c.values ≡ c'.values → c.slots ≡ c'.slots → c ≡ c'
same_parts c c' left values slots =
    ap (λ (xs : List Step). made xs c.values c.slots) left ∙ ap (λ (V : List ℕ). made c'.left V c.slots) values
    ∙ ap (λ (S : List Slot). made c'.left c'.values S) slots

-- Moves lead on behind others.
pub leads_on : (ms ms' : List Move) (c c' c'' : Configuration) → Leads ms c c' → Leads ms' c' c'' →
    Leads (ms ++ ms') c c''
leads_on [] ms' c c' c'' l l' = subst (λ (x : Configuration). Leads ms' x c'') (sym l) l'
leads_on (Take o ∷ ms) ms' c c' c'' l l' = (l.0, l.1, leads_on ms ms' _ c' c'' l.2 l')
leads_on (Pass ∷ ms) ms' c c' c'' l l' = (l.0, l.1, l.2, l.3, leads_on ms ms' _ c' c'' l.4 l')

pub taken_on : (ms ms' : List Move) → taken (ms ++ ms') ≡ taken ms ++ taken ms'
taken_on [] ms' = refl
taken_on (Take o ∷ ms) ms' = ap (λ (os : List Operation). o ∷ os) (taken_on ms ms')
taken_on (Pass ∷ ms) ms' = taken_on ms ms'

-- Moves that lead to where no event is left explain the history.
pub explains_led : (ms : List Move) (c c' : Configuration) → Leads ms c c' → c'.left ≡ [] →
    Explains ms c.left c.values c.slots
explains_led [] c c' l none =
    subst (λ (xs : List Step). Explains [] xs c.values c.slots) (sym (ap (λ (x : Configuration). x.left) l ∙ none)) tt
explains_led (Take o ∷ ms) c c' l none = (l.0, l.1, explains_led ms _ c' l.2 none)
explains_led (Pass ∷ ms) c c' l none =
    subst (λ (xs : List Step). Explains (Pass ∷ ms) xs c.values c.slots) (sym l.2) (l.3, explains_led ms _ c' l.4 none)
