-- What is read from a text is a listing, and the text spells it: for each numbered line, and then for the whole text.
use Rattle.std.proofs.Common.{◌≡◌, ℕ, ◌+◌, ◌<◌, ◌≤◌, Bool, true, false, List, [], ◌∷◌, length, map, Option, Some}
use Rattle.std.proofs.Common.{None, Result, Ok, Err, nat_lt, nat_le, codes, if◌then◌else◌, refl, ap, ◌∙◌, arith}
use Rattle.std.proofs.lemmas.Bool.{leb-false}
use Rattle.std.specs.List.{AllByRecursion}
use Rattle.snap_words.specs.declared.kind.KindTag.{KindTag}
use Rattle.snap_semantics.specs.declared.instr.Line.{Line}
use Rattle.snap_semantics.specs.declared.refusal.ListingRefusal.{ListingRefusal}
use Rattle.snap_semantics.specs.declared.refusal.ListingRefusal.TheVariants as refusal
use Rattle.snap_semantics.specs.IsListing.{IsName, AreRising, IsLine, IsListing, HasForm}
use Rattle.snap_semantics.specs.Rules.{found_or, form_or}
use Rattle.snap_semantics.specs.Listing.{checked_line, numbered_lines, has_line, checked_targets, line_targets}
use Rattle.snap_semantics.specs.Listing.{all_names, header_of, with_lines, listing_of_lines, listing_of}
use Rattle.snap_semantics.specs.ListingForms.{line_form, is_line_number}
use Rattle.snap_semantics.specs.RightUses.{HasRightUses}
use Rattle.snap_semantics.specs.Source.{Source}
use Rattle.snap_semantics.specs.Spelling.{spelled_names, spelled_entry, spelled_line, spelled_source}
use Rattle.snap_semantics.specs.Token.{Token, TextLine, text_lines, lines_of}
use Rattle.snap_semantics.specs.Uses.{Use, Named, instr_uses, checked_uses}
use Rattle.snap_text.specs.Lines.{line_tokens}
use Rattle.snap_text.proofs.Sound.{AreSound, lines_sound}
use Rattle.snap_listing.specs.Laws.{Spells}
use Rattle.snap_listing.proofs.AgainTerms.{IsNamed, Names, short_name}
use Rattle.snap_listing.proofs.Declared.{uses_named}
use Rattle.snap_listing.proofs.HasTerms.{Finds}
use Rattle.snap_listing.proofs.FoundForms.{LineFound, line_found}
use Rattle.snap_listing.proofs.RightSources.{HoldsOk, holds_ok, ok_with, ok_same, WhenDone, uses_ok, relined_uses}
use Rattle.snap_listing.proofs.SpelledTerms.{IsShort, Shorts}
use Rattle.snap_listing.proofs.SpelledHeader.{ok_when, some_line, spelled_kind, AreSoundTexts, HeaderOk, header_ok}

use_short : (u : Use) → IsNamed u → IsShort u
use_short (Named wanted x) h = short_name x h
use_short _ h = tt

-- names are short
names_short : (us : List Use) → Names us → Shorts us
names_short [] h = tt
names_short (u ∷ us) h = (use_short u h.0, names_short us h.1)

abbrev FormOk : Option (List Token) → Line → Type 0
FormOk tokens line =
    (Shorts (instr_uses line.instr) → tokens ≡ some_line (spelled_line line)) × (is_line_number line.number ≡ true)
    × (AreSound tokens → HasForm line.instr)

-- a line as it has to be, and its tokens
record LineOk (s : Source) (last count : ℕ) (tokens : Option (List Token)) (line : Line) : Type 0 where
  found : FormOk tokens line
  rising : last < line.number
  few : count < 200
  right : HasRightUses s line.instr

form_by : (e : ListingRefusal) (ts : List Token) (o : Option Line) → Finds (LineFound ts) o →
    HoldsOk (FormOk (Some ts)) (found_or e o)
form_by e ts None h = tt
form_by e ts (Some line) h = (λ short. ap some_line (h.holds.0 short), h.holds.1, h.holds.2)

form_ok : (g : KindTag) (e : ListingRefusal) (tokens : Option (List Token)) →
    HoldsOk (FormOk tokens) (form_or e (line_form g) tokens)
form_ok g e None = tt
form_ok g e (Some ts) = form_by e ts (line_form g ts) (line_found g ts)

checked_ok : (s : Source) (at last count : ℕ) (tokens : Option (List Token)) (line : Line) → FormOk tokens line →
    HoldsOk (LineOk s last count tokens) (checked_line s at last count line)
checked_ok s at last count tokens line h =
    let P = LineOk s last count tokens in
    ok_when P (nat_le line.number last) _ _ tt (λ above. ok_when P (nat_le 200 count) _ _ tt (λ room.
    ok_with (WhenDone (HasRightUses s line.instr)) P (checked_uses s at (instr_uses line.instr)) _
    (uses_ok s at (instr_uses line.instr)) (λ done g.
    record {
      found = h;
      rising = leb-false line.number last above;
      few = leb-false 200 count room;
      right = g;
    })))

abbrev pub spelled_lines : List Line → List (Option (List Token))
spelled_lines lines = map some_line (map spelled_line lines)

record LinesOk (s : Source) (last count : ℕ) (texts : List TextLine) (lines : List Line) : Type 0 where
  good : AllByRecursion (IsLine s) lines
  rising : AreRising last lines
  few : count ≤ 200 → count + length lines ≤ 200
  tokens : line_tokens texts ≡ spelled_lines lines

lines_ok : (s : Source) (last count : ℕ) (texts : List TextLine) → AllByRecursion IsName (all_names s) →
    AreSoundTexts texts → HoldsOk (LinesOk s last count texts) (numbered_lines s last count texts)
lines_ok s last count [] all sound = record { good = tt; rising = tt; few = λ h. omega arith; tokens = refl }
lines_ok s last count (text ∷ texts) all sound =
    let P = LinesOk s last count (text ∷ texts) in
    ok_with (FormOk text.tokens) P (form_or (refusal.BadLine text.number) (line_form s.kind) text.tokens) _
    (form_ok s.kind (refusal.BadLine text.number) text.tokens) (λ form g.
    ok_with (LineOk s last count text.tokens) P (checked_line s text.number last count form) _
    (checked_ok s text.number last count text.tokens form g) (λ line h.
    ok_with (LinesOk s line.number (count + 1) texts) P (numbered_lines s line.number (count + 1) texts) _
    (lines_ok s line.number (count + 1) texts all sound.1) (λ lines k.
    let room : count < 200 = h.few in
    let token = h.found.0 (names_short (instr_uses line.instr) (uses_named s (instr_uses line.instr) all h.right)) in
    record {
      good = (
        record { number = h.found.1; form = h.found.2 sound.0; uses = h.right },
        k.good,
      );
      rising = (h.rising, k.rising);
      few = λ x. let later : count + 1 + length lines ≤ 200 = k.few (omega (arith, room)) in omega (arith, later);
      tokens =
          ap (λ (o : Option (List Token)). o ∷ line_tokens texts) token
          ∙ ap (λ (ls : List (Option (List Token))). some_line (spelled_line line) ∷ ls) k.tokens;
    })))

abbrev IsTarget : List Line → ℕ → Type 0
IsTarget lines k = has_line lines k ≡ true

target_by : (P : Unit {0} → Type 0) (b : Bool) (r : Result (Unit {0}) ListingRefusal) (e : ListingRefusal) →
    (b ≡ true → HoldsOk P r) → HoldsOk P (if b then r else Err e)
target_by P true r e h = h refl
target_by P false r e h = tt

targets_ok : (lines : List Line) (ks : List ℕ) →
    HoldsOk (WhenDone (AllByRecursion (λ (k : ℕ). has_line lines k ≡ true) ks)) (checked_targets lines ks)
targets_ok lines [] = tt
targets_ok lines (k ∷ ks) =
    let P = WhenDone (AllByRecursion (λ (n : ℕ). has_line lines n ≡ true) (k ∷ ks)) in
    target_by P (has_line lines k) (checked_targets lines ks) (refusal.NoSuchLine k) (λ e.
    ok_same (WhenDone (AllByRecursion (λ (n : ℕ). has_line lines n ≡ true) ks)) P (checked_targets lines ks)
    (targets_ok lines ks) (λ done hs. (e, hs)))

relined : (s : Source) (all lines : List Line) → AllByRecursion (IsLine s) lines →
    AllByRecursion (IsLine (with_lines all s)) lines
relined s all [] h = tt
relined s all (line ∷ lines) h = (
  record { number = h.0.number; form = h.0.form; uses = relined_uses s all (instr_uses line.instr) h.0.uses },
  relined s all lines h.1,
)

abbrev SpelledSource : List TextLine → Source → Type 0
SpelledSource texts s = IsListing s × (line_tokens texts ≡ map some_line (spelled_source s))

-- the lines of a header, before others
abbrev header_lines : Source → List (Option (List Token)) → List (Option (List Token))
header_lines h ls =
    some_line (spelled_kind h.kind) ∷ some_line (spelled_names (codes "scalar") h.scalars)
    ∷ some_line (spelled_names (codes "row") h.rows)
    ∷ some_line (spelled_names (codes "words") h.words) ∷ some_line (spelled_names (codes "view") h.views)
    ∷ some_line (spelled_entry (codes "scan") h.scan) ∷ some_line (spelled_entry (codes "update") h.update) ∷ ls

listing_ok : (after : ℕ) (texts : List TextLine) → AreSoundTexts texts →
    HoldsOk (SpelledSource texts) (listing_of_lines after texts)
unfolding listing_of_lines
listing_ok after texts sound =
    let S = SpelledSource texts in
    ok_with (HeaderOk texts) S (header_of after texts) _ (header_ok after texts sound) (λ h hh.
    ok_with (LinesOk h.0 0 0 h.1) S (numbered_lines h.0 0 0 h.1) _ (lines_ok h.0 0 0 h.1 hh.names hh.sound) (λ lines hl.
    let ks = h.0.scan ∷ h.0.update ∷ line_targets lines in
    ok_with (WhenDone (AllByRecursion (λ (k : ℕ). has_line lines k ≡ true) ks)) S (checked_targets lines ks) _
    (targets_ok lines ks) (λ done ht.
    let some : 0 + length lines ≤ 200 = hl.few (omega arith) in (
      record {
        names = hh.names;
        distinct = hh.distinct;
        few_names = hh.few;
        scan = hh.scan;
        update = hh.update;
        lines = relined h.0 lines lines hl.good;
        rising = hl.rising;
        few_lines = omega (arith, some);
        targets = ht;
      },
      hh.lines ∙ ap (λ (ls : List (Option (List Token))). header_lines h.0 ls) hl.tokens,
    ))))

texts_sound : (lines : List TextLine) → AllByRecursion (λ line. AreSound line.tokens) lines → AreSoundTexts lines
texts_sound [] h = tt
texts_sound (line ∷ lines) h = (h.0, texts_sound lines h.1)

-- what the lines of a text are is a listing, and they spell it
lines_spelled : (text : List ℕ) (after : ℕ) →
    HoldsOk (SpelledSource (text_lines text)) (listing_of_lines after (text_lines text))
lines_spelled text after = listing_ok after (text_lines text) (texts_sound (text_lines text) (lines_sound text))

pub lines_are_listing : (text : List ℕ) (after : ℕ) (s : Source) →
    listing_of_lines after (text_lines text) ≡ Ok s → IsListing s
lines_are_listing text after s e =
    (holds_ok (SpelledSource (text_lines text)) (listing_of_lines after (text_lines text)) s
    (lines_spelled text after) e).0

-- what is read is spelled
pub read_is_spelled : (text : List ℕ) (s : Source) → listing_of text ≡ Ok s → IsListing s × Spells text s
unfolding listing_of
read_is_spelled text s e =
    let S = SpelledSource (text_lines text) in
    let after = length (lines_of text) + 1 in
    holds_ok S _ s
    (ok_when S (nat_lt 65536 (length text)) (Err refusal.TooLong) (listing_of_lines after (text_lines text)) tt
    (λ short. lines_spelled text after)) e
