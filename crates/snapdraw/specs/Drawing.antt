-- `IsDrawing`: the picture that snapdraw draws of the texts of the files that its command line names, or the first
-- reason why there is none.
use Rattle.std.specs.Prelude.{◌≡◌, ℕ, List, Option, Some, None, Result, Ok, Err, ⊤, Vec}
use Rattle.std.specs.Global.{Global}
use Rattle.snap_faults.specs.declared.fault.ProgramFault.{ProgramFault}
use Rattle.snap_faults.specs.declared.fault.ProgramFault.TheVariants as fault
use Rattle.snap_semantics.specs.Answers.{◌>>=◌, refused_as}
use Rattle.snap_semantics.specs.Listing.{listing_of}
use Rattle.snap_semantics.specs.Source.{Source}
use Rattle.snap_semantics.specs.declared.event.Event.{Event}
use Rattle.snap_semantics.specs.declared.refusal.Refusal.TheVariants.{Listing}
use Rattle.snap_shipped.specs.Shipped.{shipped}
use Rattle.snap_run_judge.specs.RunJudgement.{most_configurations}
use Rattle.snap_picture.specs.Picture.{FailsUnder, IsPictureBy, picture_of}
use Rattle.snap_picture.specs.declared.options.Options.{Options}
use Rattle.snap_picture.specs.declared.refusal.PictureRefusal.{PictureRefusal}
use Rattle.snap_picture.specs.declared.refusal.PictureRefusal.TheVariants.{Input, NoSuchItems, TooManyItems}
use Rattle.snap_named_files.specs.Texts.{Read, OfFiles, OfShipped}
use Rattle.snapdraw.specs.declared.arguments.Drawing.{Drawing}

-- what a call that allocates answers: what is wanted, seen by `view`, or why there is none; a want of memory may stand
-- in its place; no fault is one of writing
abbrev pub Comes : {X Y : Type 0} → (X → Y) → Result X ProgramFault → Result Y ProgramFault → Type 0
Comes view (Ok x) wanted = wanted ≡ Ok (view x)
Comes view (Err fault.Memory) wanted = ⊤
Comes view (Err (fault.Write n)) wanted = ⊥
Comes view (Err f) wanted = wanted ≡ Err f

-- the items that are asked for, of a run that is judged as long as the program judges one
abbrev pub options_of : Drawing → Options
options_of d = record { from = d.from; to = d.to; reads = d.reads; most = most_configurations }

-- the listing that a text is
abbrev pub listing_in : List ℕ → Result Source ProgramFault
listing_in text = refused_as fault.Refused (refused_as Listing (listing_of text))

-- why there is no picture, as a fault of the program
abbrev pub of_picture : PictureRefusal → ProgramFault
of_picture (Input r) = fault.Refused r
of_picture (NoSuchItems total) = fault.NoSuchItems total
of_picture (TooManyItems count) = fault.TooManyItems count

-- the picture of a listing, whose text may be in it, under a schedule; the operation that ended with the event `wrong`
-- is crossed out
abbrev pub picture_in : Source → Option (List ℕ) → List ℕ → Options → (style legend : List ℕ) →
    (wrong : Option Event) → Result (List ℕ) ProgramFault
picture_in l listing schedule o style legend wrong =
    refused_as of_picture (picture_of l listing schedule o style legend wrong)

-- the picture of two texts
abbrev pub drawn_texts : (listing schedule : List ℕ) → Options → (style legend : List ℕ) → (wrong : Option Event) →
    Result (List ℕ) ProgramFault
drawn_texts listing schedule o style legend wrong = do
  l ← listing_in listing
  picture_in l (Some listing) schedule o style legend wrong

-- The run of two texts fails at this event, or at none, by a judgement of it that is so, and that meets at most so many
-- configurations.
abbrev pub FailsInTexts : (most : ℕ) → (listing schedule : List ℕ) → Option Event → Type 0
FailsInTexts most listing schedule wrong =
    (l : Source) × (listing_in listing ≡ Ok l) × FailsUnder most l schedule wrong

-- What is drawn is a picture of which what is judged to be wrong, and nothing else, is crossed out. A fault comes before
-- anything is judged, and a want of memory may stand in place of both; no fault is one of writing.
abbrev pub IsDrawnBy : (Option Event → Type 0) → (Option Event → Result (List ℕ) ProgramFault) →
    Result (List ℕ) ProgramFault → Type 0
IsDrawnBy IsWrong picture (Err fault.Memory) = ⊤
IsDrawnBy IsWrong picture (Err (fault.Write n)) = ⊥
IsDrawnBy IsWrong picture drawn = IsPictureBy IsWrong picture drawn

-- the bytes of a picture that a call answers
abbrev pub bytes_of : Result (Vec ℕ Global) ProgramFault → Result (List ℕ) ProgramFault
bytes_of (Ok out) = Ok out.items
bytes_of (Err f) = Err f

-- the picture of these texts, or why there is none
abbrev pub IsDrawing : Read → Options → (style legend : List ℕ) → Result (List ℕ) ProgramFault → Type 0
IsDrawing (OfFiles l s) o style legend picture =
    IsDrawnBy (FailsInTexts o.most l s) (drawn_texts l s o style legend) picture
IsDrawing (OfShipped kind s) o style legend picture =
    IsDrawnBy (FailsUnder o.most (shipped kind) s) (picture_in (shipped kind) None s o style legend) picture
