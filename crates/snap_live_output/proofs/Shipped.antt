-- A live run of U, B or M writes the history of a run of that listing, which keeps its promises
-- (`LiveRunsAreSnapshots`).
use Rattle.std.proofs.Common.{◌≡◌, ℕ, ◌≤◌, true, List, Ok, length, nat_lt, refl, sym, subst, arith}
use Rattle.snap_words.specs.Kind.{fits}
use Rattle.snap_words.specs.declared.kind.KindTag.{KindTag}
use Rattle.snap_words.specs.declared.kind.KindTag.TheVariants as kind
use Rattle.snap_words.specs.declared.shape.WordFault.TheVariants.{BadShape}
use Rattle.snap_semantics.specs.Answers.{refused_as}
use Rattle.snap_semantics.specs.Source.{Source}
use Rattle.snap_semantics.specs.declared.process.Item.{Item}
use Rattle.snap_semantics.specs.declared.refusal.Refusal.TheVariants as refusal
use Rattle.snap_sched.specs.ScriptText.{Scripts, scripts_of}
use Rattle.snap_runs.specs.Run.{Run}
use Rattle.snap_shipped.specs.Kept.{KeepsPromises, NumbersSuffice, RunsKeepPromises}
use Rattle.snap_shipped.specs.Shipped.{shipped}
use Rattle.snap_input.specs.Parts.{part, parts_of, max_input}
use Rattle.snap_tasks.specs.declared.subject.Subject.{Subject}
use Rattle.snap_input.specs.Input.{checked_parts, listing_for, parted, texts_for}
use Rattle.snap_input.proofs.Answered.{both, passed, within}
use Rattle.snap_live.specs.Turns.{run_of}
use Rattle.snap_live_output.specs.LiveOutput.{Setup, fitting, scripts_for, setting, setup_for, setup_of, setup_text}
use Rattle.snap_live_output.specs.LiveRuns.{LiveRunsAreSnapshots}

-- the scripts for a listing have a shape that fits its kind
fits_listing : (l : Source) (text : List ℕ) (s : Scripts) → scripts_for l text ≡ Ok s → fits l.kind s.shape ≡ true
unfolding scripts_for
fits_listing l text s e =
    let read = both (refused_as refusal.Schedule (scripts_of text)) (fitting l) s e in
    let fit = passed (fits l.kind read.0.shape) (refusal.Words BadShape) read.0 s read.2 in
    rw (← fit.1) fit.0

-- what is played is the listing, and scripts that fit it
plays_listing : (l : Source) (texts : List (List ℕ)) (g : Setup) → setup_text l texts ≡ Ok g →
    (g.source ≡ l) × (fits l.kind g.scripts.shape ≡ true)
unfolding setup_text
plays_listing l texts g e =
    let read = both (scripts_for l (part 0 texts)) _ g e in
    let made : Setup = record { source = l; scripts = read.0 } in
    let is : g ≡ made = cc in
    rw is (refl, fits_listing l (part 0 texts) read.0 read.1)

-- of an input whose listing is this
plays : (s : Subject) (l : Source) (input : List ℕ) (g : Setup) → listing_for s (parts_of input) ≡ Ok l →
    setup_of s input ≡ Ok g → (g.source ≡ l) × (fits l.kind g.scripts.shape ≡ true)
unfolding parted
plays s l input g is e =
    let short = within (nat_lt max_input (length input)) refusal.InputTooLong (setup_for s (parts_of input)) g e in
    let counted = both (checked_parts s 1 (parts_of input)) _ g short in
    let found = both (listing_for s (parts_of input)) _ g counted.2 in
    let same : l ≡ found.0 = cc in
    rw same (plays_listing found.0 (texts_for s (parts_of input)) g found.2)

-- a live run has fewer items than there are sequence numbers
suffices : (k : KindTag) (items : List Item) → length items ≤ 1000000 → NumbersSuffice k items
suffices kind.Seq items short = omega (arith, short)
suffices _ items short = tt

pub live_runs : ((k : KindTag) → RunsKeepPromises k) → LiveRunsAreSnapshots
live_runs kept k s limit input text listing h =
    let g = h.0 in let live = h.2 in let is = plays s (shipped k) input g listing h.1 in
    record {
      run = run_of (setting g) live.items;
      of_listing = is.0;
      fits = live.fits;
      promises =
          subst (λ (l : Source).
          KeepsPromises k (let r : Run = record { source = l; shape = g.scripts.shape; items = live.items } in r))
          (sym is.0) (kept k g.scripts.shape live.items live.there.shape is.1 (suffices k live.items live.short));
      written = live.written;
    }
