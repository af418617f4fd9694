-- What is drawn of the texts of files, or the first reason why nothing is.
use Rattle.std.proofs.Common.{◌≡◌, ℕ, List, Result, Ok, Err, refl, sym, subst}
use Rattle.std.specs.Prelude.{IsErr, IsErrAnd}
use Rattle.snap_words.specs.declared.kind.KindTag.{KindTag}
use Rattle.snap_faults.specs.declared.fault.ProgramFault.{ProgramFault}
use Rattle.snap_faults.specs.declared.fault.ProgramFault.TheVariants as fault
use Rattle.snap_semantics.specs.Source.{Source}
use Rattle.snap_streams.specs.State.{SinkState}
use Rattle.snap_named_files.specs.Texts.{Read, OfFiles, OfShipped}
use Rattle.snap_picture.specs.declared.options.Options.{Options}
use Rattle.snapdraw.specs.Answer.{Draws}
use Rattle.snapdraw.specs.Drawing.{Comes, IsDrawing}

-- what holds of a fault holds where it is passed on
pub passed : {A : Type 0} (P : Result A ProgramFault → Type 0) (answer : Result A ProgramFault) (e : ProgramFault) →
    IsErr answer × IsErrAnd answer (λ f. f ≡ e) → P (Err e) → P answer
passed P (Ok x) e from h = absurd from.1
passed P (Err f) e from h = subst (λ x. P (Err x)) (sym from.1) h

module _ (o : Options) (style legend : List ℕ) where
  -- there was no memory for a shipped listing
  pub no_program : (kind : KindTag) (schedule : List ℕ) (e : ProgramFault) (l : Source) →
      Comes {X = Source} (λ p. p) (Err e) (Ok l) → IsDrawing (OfShipped kind schedule) o style legend (Err e)
  no_program kind schedule fault.Memory l h = tt
  no_program kind schedule (fault.Write n) l h = absurd h
  no_program kind schedule e l h = absurd cc

  -- no fault of drawing is one of writing
  no_write : (texts : Read) (n : ℕ) → IsDrawing texts o style legend (Err (fault.Write n)) → ⊥
  no_write (OfFiles l s) n h = h
  no_write (OfShipped kind s) n h = h

  -- a fault came of drawing, and nothing was written
  pub not_drawn : (texts : Read) (sink : SinkState) (e : ProgramFault) →
      IsDrawing texts o style legend (Err e) → Draws texts o style legend (Err e) sink sink
  not_drawn texts sink fault.Memory h = (Err fault.Memory, h, refl)
  not_drawn texts sink (fault.Write n) h = absurd (no_write texts n h)
  not_drawn texts sink e h = (Err e, h, (refl, refl))
