-- Where a list has no such place, the definitions have a step or a note that stands for none.
use Rattle.std.proofs.Common.{◌≡◌, ◌≤◌, ℕ, List, length}
use Rattle.std.proofs.lemmas.List.{get_or_past}
use Rattle.snap_acts.specs.declared.act.TraceStep.{TraceStep}
use Rattle.snap_acts.specs.Loans.{step_at}
use Rattle.snap_acts.specs.Searches.{no_step}
use Rattle.snap_anatomy.specs.Notes.{note_at}
use Rattle.snap_anatomy.specs.declared.note.Note.{Note}
use Rattle.snap_anatomy.specs.declared.note.Note.TheVariants as note

pub no_step_there : (ss : List TraceStep) (k : ℕ) → length ss ≤ k → step_at ss k ≡ no_step
no_step_there ss k past = get_or_past ss k no_step past

pub nothing_there : (ns : List Note) (k : ℕ) → length ns ≤ k → note_at ns k ≡ note.Nothing
nothing_there ns k past = get_or_past ns k note.Nothing past
