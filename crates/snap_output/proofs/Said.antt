-- What is added for an item is what is said of it (`done_text`): its line, and then what it changed, told by what it
-- overwrote; and nothing more of an item that is skipped.
use Rattle.std.proofs.Common.{◌≡◌, ℕ, ◌-◌, ◌<◌, List, [], ◌++◌, length, ◌∙◌, append_assoc, append-nil}
use Rattle.snap_words.specs.Shape.{Counts}
use Rattle.snap_words.specs.declared.kind.KindTag.{KindTag}
use Rattle.snap_semantics.specs.declared.event.Event.{Event}
use Rattle.snap_semantics.specs.declared.process.Item.{Item}
use Rattle.snap_semantics.specs.declared.process.Outcome.{Outcome}
use Rattle.snap_semantics.specs.declared.process.Outcome.TheVariants.{Skipped}
use Rattle.snap_semantics.specs.declared.process.Reason.{Reason}
use Rattle.snap_semantics.specs.IsListing.{IsListing}
use Rattle.snap_semantics.specs.Report.{head_line}
use Rattle.snap_semantics.specs.Run.{event_of}
use Rattle.snap_semantics.specs.Source.{Source}
use Rattle.snap_semantics.specs.State.{State, process_at}
use Rattle.snap_semantics.specs.Table.{done, who}
use Rattle.snap_semantics.specs.Token.{lines_of}
use Rattle.snap_text.specs.Changes.{text_between}
use Rattle.snap_machine.specs.Undo.{CanPut, Overwritten, put}
use Rattle.snap_machine.specs.WritePlace.{write_place_of}
use Rattle.snap_machine.specs.declared.undo.WritePlace.{WritePlace}
use Rattle.snap_listing.specs.LineTexts.{NumberedText}
use Rattle.snap_machine.specs.Configuration.{HasLocals}
use Rattle.snap_output.specs.Between.{process_text}
use Rattle.snap_report.specs.OutcomeLine.{outcome_line}
use Rattle.snap_output.specs.Step.{done_text, line_run}
use Rattle.snap_report.specs.WrittenLines.{written_local, written_shared}
use Rattle.snap_output.specs.Touched.{came_text, changed_line, changed_local, changes_text, touched_text}
use Rattle.snap_output.proofs.Kept.{skipped_stays}
use Rattle.snap_output.proofs.Parts.{between_same}
use Rattle.snap_output.proofs.Touched.{touched}

pub item_told : (texts : List NumberedText) (s : Source) (n : Counts) (S S' : State) (t : ℕ) (x : Item) (o : Outcome)
    (u : Overwritten) (out did new : List ℕ) → done s n S x ≡ (S', o) →
    did ≡ out ++ outcome_line texts t (who x) o (line_run x (process_at S (who x)).status) →
    new ≡ did ++ touched_text s.kind (who x) (write_place_of u.place) S S' (event_of t x o) →
    IsListing s → who x - 1 < length S.processes → HasLocals s (process_at S (who x)).locals → u.process ≡ who x →
    CanPut s n u → put s u (done s n S x).0 ≡ S → new ≡ out ++ done_text texts s n S t x
unfolding done_text
item_told texts s n S S' t x o u out did new is first rest rules there locals process fits back =
    let told = rw is at (touched s n S x u (event_of t x (done s n S x).1) rules there locals process fits back) in
    rw (rest, first, is, told) (append_assoc out (outcome_line texts t (who x) o
    (line_run x (process_at S (who x)).status))
    (touched_text s.kind (who x) (write_place_of u.place) S S' (event_of t x o)))

-- what was added piece by piece
pub pieces_told : (g : KindTag) (i j : ℕ) (p q : WritePlace) (S S' : State) (new new' : List Event)
    (shared shared' here here' head did one two : List ℕ) → j ≡ i → q ≡ p → new' ≡ new →
    shared ≡ written_shared g S q → shared' ≡ written_shared g S' q →
    here ≡ written_local g (process_at S j).locals q → here' ≡ written_local g (process_at S' j).locals q →
    head ≡ head_line j (process_at S j).status →
    one ≡ did ++ (text_between (lines_of shared) (lines_of shared')
    ++ changed_line head (head_line j (process_at S' j).status) ++ changed_local j here here') →
    two ≡ one ++ came_text new' → two ≡ did ++ touched_text g i p S S' new
pieces_told g i j p q S S' new new' shared shared' here here' head did one two mine place came a a' l l' h first rest =
    let head' = head_line j (process_at S' j).status in
    rest ∙ (λ t. first t ++ came_text new')
    ∙ append_assoc did (changes_text j shared shared' head head' here here') (came_text new')
    ∙ (λ t. did ++ (changes_text j (a t) (a' t) (h t) head' (l t) (l' t) ++ came_text new'))
    ∙ (λ t. did ++ touched_text g (mine t) (place t) S S' (came t))

pub skipped_told : (texts : List NumberedText) (s : Source) (n : Counts) (S S' : State) (t : ℕ) (x : Item) (r : Reason)
    (out did : List ℕ) → done s n S x ≡ (S', Skipped r) →
    did ≡ out ++ outcome_line texts t (who x) (Skipped r) (line_run x (process_at S (who x)).status) →
    did ≡ out ++ done_text texts s n S t x
unfolding done_text
skipped_told texts s n S S' t x r out did is first =
    rw (first, is, skipped_stays s n S S' x r is, between_same (process_text s.kind (who x) S [])) (simp append-nil)
