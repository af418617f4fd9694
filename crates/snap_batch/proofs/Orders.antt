-- The reports of a batch come in the order of its schedules: each is that of the schedule at its place.
use Rattle.std.proofs.Common.{◌≡◌, List, [], ◌∷◌, map, Vec, Result, Ok, Err, Bor, refl, ◌∙◌}
use Rattle.std.specs.Prelude.{IfOk, MatchResult}
use Rattle.std.specs.List.{AllZip, Contains}
use Rattle.std.specs.Global.{Global}
use Rattle.rayon.proofs.ToStd.{slice-AllZip}

-- every answer is a report, and it is the report of the schedule at its place
in_order : {S R : Type 0} (E : Type 0) (f : S → R) (schedules : List S) (reports : List R)
    → AllZip {A = S} {B = Result R E} (λ s r. IfOk r (λ report. report ≡ f s)) schedules (map (λ v. Ok v) reports) →
    reports ≡ map f schedules
in_order E f [] [] h = refl
in_order E f (s ∷ schedules) (r ∷ reports) h = rw (h.0, in_order E f schedules reports h.1)
in_order E f _ _ h = absurd h

-- what is collected from answers that are each as it should be
pub gathered : {S R E : Type 0} (f : S → R) (schedules : List S) (answers : List (Result R E))
    (result : Result (Vec R Global) E)
    → AllZip (λ s r. IfOk r (λ report. report ≡ f s)) schedules answers
    → MatchResult result (λ v. (reports : List R) × (answers ≡ map (λ v. Ok v) reports) × (v.items ≡ reports))
    (λ e. Contains answers (Err e))
    → IfOk result (λ v. v.items ≡ map f schedules)
gathered {E = E} f schedules answers (Ok v) each all =
    all.2 ∙ in_order E f schedules all.0 (rw all.1 at each)
gathered f schedules answers (Err e) each all = tt

-- a chain side by side over references that show the schedules, whose closure has its program by another way
pub side_by_side : {P S R E : Type 0} (f : P → S → R) (held program : P) → held ≡ program
    → (seen : List (Bor S)) (schedules : List S) → map (λ (z : Bor S). z.now) seen ≡ schedules
    → (answers : List (Result R E)) (result : Result (Vec R Global) E)
    → AllZip {A = Bor S} {B = Result R E} (λ z r. IfOk r (λ report. report ≡ f held z.now)) seen answers
    → MatchResult result (λ v. (reports : List R) × (answers ≡ map (λ v. Ok v) reports) × (v.items ≡ reports))
    (λ e. Contains answers (Err e))
    → IfOk result (λ v. v.items ≡ map (f program) schedules)
side_by_side {S = S} {R = R} f held program same seen schedules shown answers result each all =
    rw (← same) (gathered (f held) schedules answers result
    (slice-AllZip seen schedules shown (λ s r. IfOk r (λ report. report ≡ f held s)) answers each) all)
