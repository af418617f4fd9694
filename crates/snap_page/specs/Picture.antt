-- `IsDrawn`: the picture of a run that a page in a browser asks for; and the code and the text that the page is handed.
use Rattle.std.specs.Prelude.{◌≡◌, ℕ, false, List, ◌++◌, codes, Option, Some, Result, Ok}
use Rattle.snap_semantics.specs.Answers.{◌>>=◌, refused_as}
use Rattle.snap_semantics.specs.Listing.{listing_of}
use Rattle.snap_semantics.specs.Source.{Source}
use Rattle.snap_semantics.specs.declared.event.Event.{Event}
use Rattle.snap_semantics.specs.declared.refusal.Refusal.TheVariants.{Listing}
use Rattle.snap_faults.specs.RefusalText.{numbered, refusal_text}
use Rattle.snap_page.specs.Answer.{page_configurations}
use Rattle.snap_page.specs.Page.{output_or_line}
use Rattle.snap_picture.specs.Picture.{FailsUnder, IsPictureBy, picture_of}
use Rattle.snap_picture.specs.ShapeLines.{told_of}
use Rattle.snap_picture.specs.declared.options.Options.{Options}
use Rattle.snap_picture.specs.declared.refusal.PictureRefusal.{PictureRefusal}
use Rattle.snap_picture.specs.declared.refusal.PictureRefusal.TheVariants as refusal

-- the listing that a text is, or why it has no picture
abbrev pub drawn_listing : List ℕ → Result Source PictureRefusal
drawn_listing text = refused_as refusal.Input (refused_as Listing (listing_of text))

-- the items from one to another, of a run that is judged as long as a page judges one
abbrev pub options_from : (from to : ℕ) → Options
options_from from to = record { from = Some from; to = Some to; reads = false; most = page_configurations }

-- The picture of a listing's run under a schedule, from one item to another, or the first reason why there is none. The
-- operation that ended with the event `wrong` is crossed out.
abbrev pub drawn : (listing schedule : List ℕ) → (from to : ℕ) → (style legend : List ℕ) → (wrong : Option Event) →
    Result (List ℕ) PictureRefusal
drawn listing schedule from to style legend wrong = do
  l ← drawn_listing listing
  picture_of l (Some listing) schedule (options_from from to) style legend wrong

-- The run of a listing's text over a schedule's fails at this event, or at none, by a judgement of it that is so, and
-- that meets as few configurations as a page has time for.
abbrev pub FailsOver : (listing schedule : List ℕ) → Option Event → Type 0
FailsOver listing schedule wrong =
    (l : Source) × (drawn_listing listing ≡ Ok l) × FailsUnder page_configurations l schedule wrong

-- The picture that a page asks for, of which what is judged to be wrong, and nothing else, is crossed out; or a refusal.
abbrev pub IsDrawn : (listing schedule : List ℕ) → (from to : ℕ) → (style legend : List ℕ) →
    Result (List ℕ) PictureRefusal → Type 0
IsDrawn listing schedule from to style legend picture =
    IsPictureBy (FailsOver listing schedule) (drawn listing schedule from to style legend) picture

-- what a picture draws of a listing's run under a schedule, from one item to another, a line a shape, or the first reason
-- why it draws nothing
abbrev pub told : (listing schedule : List ℕ) → (from to : ℕ) → Result (List ℕ) PictureRefusal
told listing schedule from to = do
  l ← drawn_listing listing
  told_of l schedule (options_from from to)

abbrev pub picture_refusal_text : PictureRefusal → List ℕ
picture_refusal_text (refusal.Input r) = refusal_text r
picture_refusal_text (refusal.NoSuchItems total) = numbered (codes "D1 NoSuchItems") total
picture_refusal_text (refusal.TooManyItems count) = numbered (codes "D2 TooManyItems") count

-- the line of a picture that is refused
abbrev pub picture_refusal_line : PictureRefusal → List ℕ
picture_refusal_line r = (codes "refused: " ++ picture_refusal_text r) ++ codes "\n"

-- the picture, or the line that says why there is none
abbrev pub drawn_text : Result (List ℕ) PictureRefusal → List ℕ
drawn_text picture = output_or_line picture_refusal_line picture
