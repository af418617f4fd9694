-- A task on the parts of an input, `parted` and `over_schedules`, is the task on the listing and the texts that were
-- prepared of them.
use Rattle.std.proofs.Common.{◌≡◌, ℕ, List, Result, Ok, Err, refl, sym, ◌∙◌, ap, subst}
use Rattle.snap_semantics.specs.Answers.{◌>>=◌}
use Rattle.snap_semantics.specs.Source.{Source}
use Rattle.snap_semantics.specs.declared.refusal.Refusal.{Refusal}
use Rattle.snap_input.proofs.Answered.{both, same_answer}
use Rattle.snap_input.specs.Input.{Prepared, checked_parts, listing_for, parted, prepared, prepared_parts, texts_for}
use Rattle.snap_input.specs.ManySchedules.{checked_schedules, over_schedules, prepared_schedules}
use Rattle.snap_tasks.specs.declared.subject.Subject.{Subject}

-- what a task works on, of parts that were checked
abbrev behind : (checked : Result (Unit {0}) Refusal) → Subject → List (List ℕ) → Result Prepared Refusal
behind checked s parts = checked >>= λ there. prepared_parts s parts

later : {A : Type 0} (checked : Result (Unit {0}) Refusal) (listing : Result Source Refusal) (texts : List (List ℕ))
    (f : Source → List (List ℕ) → Result A Refusal) →
    (checked >>= λ there. listing >>= λ l. f l texts)
    ≡ ((checked >>= λ there. listing >>= λ l. (let p : Prepared = record { source = l; texts = texts } in
    let found : Result Prepared Refusal = Ok p in found)) >>= λ p. f p.source p.texts)
later (Ok there) (Ok l) texts f = refl
later (Ok there) (Err r) texts f = refl
later (Err r) listing texts f = refl

-- what was prepared of parts is their listing, with the texts behind it
pub record IsPrepared (s : Subject) (parts : List (List ℕ)) (p : Prepared) : Type 0 where
  pub listing : listing_for s parts ≡ Ok p.source
  pub texts : p.texts ≡ texts_for s parts

module _ (s : Subject) (parts : List (List ℕ)) (p : Prepared) where
  parts_prepared : (checked : Result (Unit {0}) Refusal) → behind checked s parts ≡ Ok p → IsPrepared s parts p
  parts_prepared checked e =
      let read = both (listing_for s parts) _ p (both checked (λ there. prepared_parts s parts) p e).2 in
      let made : Prepared = record { source = read.0; texts = texts_for s parts } in
      let is : p ≡ made = same_answer (Ok made) made p refl read.2 in
      subst (IsPrepared s parts) (sym is) (record { listing = read.1; texts = refl })

  pub is_prepared : (count : ℕ) → prepared s count parts ≡ Ok p → IsPrepared s parts p
  unfolding prepared
  is_prepared count e = parts_prepared (checked_parts s count parts) e

  pub are_prepared : prepared_schedules s parts ≡ Ok p → IsPrepared s parts p
  unfolding prepared_schedules
  are_prepared e = parts_prepared (checked_schedules s parts) e

  -- a task on so many texts
  pub on_prepared : {A : Type 0} (f : Source → List (List ℕ) → Result A Refusal) (count : ℕ) →
      prepared s count parts ≡ Ok p → parted s count parts f ≡ f p.source p.texts
  unfolding parted prepared
  on_prepared f count e =
      later (checked_parts s count parts) (listing_for s parts) (texts_for s parts) f
      ∙ ap (λ (found : Result Prepared Refusal). found >>= λ q. f q.source q.texts) e

  -- a task on schedules
  pub on_schedules : {A : Type 0} (f : Source → List (List ℕ) → Result A Refusal) →
      prepared_schedules s parts ≡ Ok p → over_schedules s parts f ≡ f p.source p.texts
  unfolding prepared_schedules
  on_schedules f e =
      later (checked_schedules s parts) (listing_for s parts) (texts_for s parts) f
      ∙ ap (λ (found : Result Prepared Refusal). found >>= λ q. f q.source q.texts) e
