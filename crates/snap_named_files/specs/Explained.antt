-- `explained`: what explains why one of the texts of named files is refused.
use Rattle.std.specs.Prelude.{ℕ, Bool, List, [], Option, Some, None, if◌then◌else◌}
use Rattle.snap_words.specs.declared.kind.KindTag.TheVariants.{Seq}
use Rattle.snap_tasks.specs.declared.subject.Subject.TheVariants as subject
use Rattle.snap_semantics.specs.declared.refusal.Refusal.{Refusal}
use Rattle.snap_semantics.specs.declared.refusal.Refusal.TheVariants as refusal
use Rattle.snap_faults.specs.declared.fault.ProgramFault.{ProgramFault}
use Rattle.snap_faults.specs.declared.fault.ProgramFault.TheVariants as fault
use Rattle.snap_explanation.specs.Explanation.{explanation}
use Rattle.snap_explanation.specs.declared.layout.Layout.{Layout}
use Rattle.snap_explanation.specs.declared.layout.Layout.TheVariants as layout
use Rattle.snap_explanation.specs.declared.layout.Texts.TheVariants as parts
use Rattle.snap_named_files.specs.Texts.{Read, OfFiles, OfShipped}

-- what an input consists of that is a schedule alone, whichever listing is shipped
abbrev pub schedule_alone : Layout
schedule_alone = layout.Parts (subject.Shipped Seq) parts.Schedule

-- what explains a refusal: of a listing, or else of the schedule; of a file that is too long no text was read
abbrev pub explanation_in : Option Read → Refusal → List ℕ
explanation_in None r = explanation schedule_alone [] r
explanation_in (Some (OfFiles l s)) (refusal.Listing r) = explanation layout.NamedListing l (refusal.Listing r)
explanation_in (Some (OfFiles l s)) r = explanation layout.NamedSchedule s r
explanation_in (Some (OfShipped kind s)) r = explanation schedule_alone s r

-- What is said behind the line of a refusal, where refusals are explained. Of a fault that is no refusal of a text,
-- nothing is.
abbrev pub why : Option Read → ProgramFault → List ℕ
why texts (fault.Refused r) = explanation_in texts r
why texts (fault.TooLong w) = explanation_in texts refusal.InputTooLong
why texts _ = []

abbrev pub explained : (explains : Bool) → Option Read → ProgramFault → List ℕ
explained explains texts f = if explains then why texts f else []
