-- What is written of a certification, with what was judged for it.
use Rattle.std.proofs.Common.{◌≡◌, ℕ, List, [], ◌∷◌, ◌++◌, Vec, Result, Ok, Err, refl, sym, subst, ◌∙◌, append-nil}
use Rattle.std.specs.Global.{Global}
use Rattle.std.specs.Prelude.{IfOk}
use Rattle.snap_semantics.specs.Answers.{IsRefusal}
use Rattle.snap_semantics.specs.Schedule.{Schedule}
use Rattle.snap_semantics.specs.Source.{Source}
use Rattle.snap_semantics.specs.declared.fault.Fault.{Fault}
use Rattle.snap_semantics.specs.declared.refusal.Refusal.{Refusal}
use Rattle.snap_runs.specs.Run.{Run, run_over}
use Rattle.snap_certify.specs.Certification.{certification_of, seen_certification}
use Rattle.snap_certify.specs.declared.certificate.Certification.{Certification}
use Rattle.snap_certify.specs.declared.certificate.Certification.TheVariants as certification
use Rattle.snap_certify.specs.declared.certificate.Certified.{Certified}
use Rattle.snap_certify.specs.declared.found.Missing.{Missing}
use Rattle.snap_judge.specs.declared.judgements.Failing.{Failing}
use Rattle.snap_run_judge.specs.Judged.{AnswersJudged}
use Rattle.snap_run_judge.specs.RunHistory.{history_of}
use Rattle.snap_run_judge.specs.RunJudgement.{IsRunJudgement, most_configurations}
use Rattle.snap_run_judge.specs.VerdictText.{verdict_text}
use Rattle.snap_input.proofs.Answered.{same_answer}
use Rattle.snap_input.proofs.Parting.{is_prepared, on_prepared}
use Rattle.snap_input.specs.Input.{Prepared, listing_for, parted, prepared}
use Rattle.snap_input.specs.Parts.{part}
use Rattle.snap_input.specs.Schedules.{schedule_for}
use Rattle.snap_certify.specs.CertificationText.{IsCertificateText, text_of}
use Rattle.snap_certify.specs.Output.{WasJudgedIn, WasJudgedOver, certificates_text, certify_listing}
use Rattle.snap_tasks.specs.declared.subject.Subject.{Subject}

-- what is written where the run is certified: nothing was judged
pub when_certified : (r : Run) (c : Certification) (found : Certified) (text : List ℕ) →
    c ≡ certification.Certified found → seen_certification c ≡ certification_of r →
    text ≡ text_of (seen_certification c) → IsCertificateText r text
when_certified r c found text is exact same = (
  [],
  rw (← exact, is) refl,
  rw (← exact) (same ∙ sym (append-nil (text_of (seen_certification c)))),
)

-- what is written where something is missing, with the verdict that the run was judged to have
pub when_missing : {E : Type 0} (r q : Run) (c : Certification) (m : Missing) (text : List ℕ)
    (result : Result (Vec ℕ Global) E) → q ≡ r → c ≡ certification.Missing m →
    seen_certification c ≡ certification_of r → text ≡ text_of (seen_certification c) →
    IfOk result (λ out. (j : Failing) × IsRunJudgement most_configurations q j
    × (out.items ≡ text ++ verdict_text (history_of q) j)) →
    IfOk result (λ out. IsCertificateText r out.items)
when_missing r q c m text (Ok out) run is exact same judged =
    let h = rw run at judged in (
      h.0 ∷ [],
      rw (← exact, is) (h.0, refl, h.1),
      rw (← exact) (h.2 ∙ rw (same, append-nil)),
    )
when_missing r q c m text (Err e) run is exact same judged = tt

-- the certification of the run over the schedule that a text is
pub over_schedule : (l : Source) (text : List ℕ) (s : Schedule) (out : List ℕ) → schedule_for l text ≡ Ok s →
    IsCertificateText (run_over l s) out →
    (judged : List Failing) × WasJudgedOver l text judged × (certify_listing judged l text ≡ Ok out)
unfolding certify_listing
over_schedule l text s out read h = (
  h.0,
  λ other is. rw (same_answer (schedule_for l text) s other read is) h.1,
  rw (read, h.2),
)

-- the certification of an input, where that of what was prepared of it is known
module _ {X : Type 0} (view : X → List ℕ) (subject : Subject) (parts : List (List ℕ)) (p : Prepared)
    (is : prepared subject 1 parts ≡ Ok p) where
  pub of_input : (result : Result X (Fault Refusal)) →
      AnswersJudged view (WasJudgedOver p.source (part 0 p.texts)) result
      (λ judged. certificates_text judged p.source p.texts) →
      AnswersJudged view (WasJudgedIn subject parts) result
      (λ judged. parted subject 1 parts (certificates_text judged))
  of_input (Ok x) h =
      let there = is_prepared subject parts p 1 is in (
        h.0,
        λ m listed.
            rw (same_answer (listing_for subject parts) p.source m there.listing listed, ← there.texts) h.1,
        on_prepared subject parts p (certificates_text h.0) 1 is ∙ h.2,
      )
  of_input (Err fault) h =
      subst (IsRefusal fault) (sym (on_prepared subject parts p (certificates_text []) 1 is)) h
