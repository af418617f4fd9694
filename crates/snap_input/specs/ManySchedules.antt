-- `schedules_for`: the schedules that many texts are; `over_schedules`: a task on an input's listing and the 1 to
-- 4,096 schedules behind it; `prepared_schedules`: what such a task works on.
use Rattle.std.specs.Prelude.{ℕ, ◌&&◌, nat_le, nat_lt, List, [], ◌∷◌, length, Result, Ok, Err, if◌then◌else◌}
use Rattle.snap_semantics.specs.declared.refusal.Refusal.{Refusal}
use Rattle.snap_semantics.specs.declared.refusal.Refusal.TheVariants as refusal
use Rattle.snap_semantics.specs.Answers.{◌>>=◌}
use Rattle.snap_semantics.specs.Schedule.{Schedule}
use Rattle.snap_semantics.specs.Source.{Source}
use Rattle.snap_input.specs.Input.{Prepared, listing_for, prepared_parts, texts_for}
use Rattle.snap_input.specs.Schedules.{schedule_for}
use Rattle.snap_tasks.specs.declared.subject.Subject.{Subject}

-- the schedules that texts are, for this listing, or the first reason why one is none
abbrev pub schedules_for : Source → List (List ℕ) → Result (List Schedule) Refusal
schedules_for l [] = Ok []
schedules_for l (text ∷ texts) = schedule_for l text >>= λ s. schedules_for l texts >>= λ ss. Ok (s ∷ ss)

-- the most schedules behind a listing
abbrev pub max_schedules : ℕ
max_schedules = 4096

-- 1 to 4,096 schedules behind the listing
abbrev pub checked_schedules : Subject → List (List ℕ) → Result (Unit {0}) Refusal
checked_schedules s parts =
    if nat_lt 0 (length (texts_for s parts)) && nat_le (length (texts_for s parts)) max_schedules then Ok tt
    else Err (refusal.WrongParts (length parts))

-- what a task on 1 to 4,096 schedules works on, or the first reason why it has nothing to work on
unfoldable pub prepared_schedules : Subject → List (List ℕ) → Result Prepared Refusal
prepared_schedules s parts = checked_schedules s parts >>= λ there. prepared_parts s parts

-- what `text` says of a listing and the texts of its 1 to 4,096 schedules
abbrev pub over_schedules : {A : Type 0} → Subject → List (List ℕ) →
    (Source → List (List ℕ) → Result A Refusal) → Result A Refusal
over_schedules s parts text =
    checked_schedules s parts >>= λ there. listing_for s parts >>= λ l. text l (texts_for s parts)
