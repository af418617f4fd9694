-- Schedules that are read side by side are those that are read one after another.
use Rattle.std.proofs.Common.{◌≡◌, ℕ, List, [], ◌∷◌, map, Vec, Result, Ok, Err, Bor, refl, sym, subst}
use Rattle.std.specs.Prelude.{IfOk, MatchResult}
use Rattle.std.specs.List.{AllZip, Contains}
use Rattle.std.specs.Global.{Global}
use Rattle.rayon.proofs.ToStd.{slice-AllZip}
use Rattle.snap_semantics.specs.Answers.{Answers}
use Rattle.snap_semantics.specs.Schedule.{Schedule}
use Rattle.snap_semantics.specs.Source.{Source}
use Rattle.snap_semantics.specs.declared.fault.Fault.{Fault}
use Rattle.snap_semantics.specs.declared.refusal.Refusal.{Refusal}
use Rattle.snap_input.specs.Schedules.{schedule_for}
use Rattle.snap_input.specs.ManySchedules.{schedules_for}

-- a text was read, or there was a fault
abbrev IsRead : Source → Bor (List ℕ) → Result Schedule (Fault Refusal) → Type 0
IsRead l text answer = Answers (λ s. s) answer (schedule_for l text.now)

-- each text was read, and the schedule at its place is the one that it is
in_order : (l : Source) (texts : List (Bor (List ℕ))) (read : List Schedule) →
    AllZip (IsRead l) texts (map (λ v. Ok v) read) → schedules_for l (map (λ text. text.now) texts) ≡ Ok read
in_order l [] [] h = refl
in_order l [] (s ∷ read) h = absurd h
in_order l (text ∷ texts) [] h = absurd h
in_order l (text ∷ texts) (s ∷ read) h =
    let first : schedule_for l text.now ≡ Ok s = h.0 in
    let rest : schedules_for l (map (λ text. text.now) texts) ≡ Ok read = in_order l texts read h.1 in
    rw (first, rest) refl

-- what is collected, if no text had a fault
gathered : (l : Source) (texts : List (Bor (List ℕ))) (answers : List (Result Schedule (Fault Refusal)))
    (result : Result (Vec Schedule Global) (Fault Refusal)) → AllZip (IsRead l) texts answers →
    MatchResult result (λ v. (read : List Schedule) × (answers ≡ map (λ v. Ok v) read) × (v.items ≡ read))
    (λ e. Contains answers (Err e)) →
    IfOk result (λ v. schedules_for l (map (λ text. text.now) texts) ≡ Ok v.items)
gathered l texts answers (Ok v) each all =
    let read = in_order l texts all.0 (subst (AllZip (IsRead l) texts) all.1 each) in
    subst (λ (schedules : List Schedule). schedules_for l (map (λ text. text.now) texts) ≡ Ok schedules) (sym all.2) read
gathered l texts answers (Err e) each all = tt

-- a chain side by side over references that show the texts, whose closure has its program by another way
pub side_by_side : (held program : Source) → held ≡ program →
    (seen : List (Bor (Bor (List ℕ)))) (texts : List (Bor (List ℕ))) →
    map (λ (z : Bor (Bor (List ℕ))). z.now) seen ≡ texts →
    (answers : List (Result Schedule (Fault Refusal))) (result : Result (Vec Schedule Global) (Fault Refusal)) →
    AllZip {A = Bor (Bor (List ℕ))} {B = Result Schedule (Fault Refusal)}
    (λ z r. Answers (λ s. s) r (schedule_for held z.now.now)) seen answers →
    MatchResult result (λ v. (read : List Schedule) × (answers ≡ map (λ v. Ok v) read) × (v.items ≡ read))
    (λ e. Contains answers (Err e)) →
    IfOk result (λ v. schedules_for program (map (λ text. text.now) texts) ≡ Ok v.items)
side_by_side held program same seen texts shown answers result each all =
    let zipped = slice-AllZip seen texts shown (IsRead held) answers each in
    subst (λ l. IfOk result (λ v. schedules_for l (map (λ text. text.now) texts) ≡ Ok v.items)) same
    (gathered held texts answers result zipped all)
