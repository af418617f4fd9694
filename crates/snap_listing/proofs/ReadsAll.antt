-- Every listing is read from every text that spells it.
use Rattle.std.proofs.Common.{◌≡◌, ℕ, ◌+◌, ◌<◌, ◌≤◌, Bool, true, false, List, [], ◌∷◌, length, map, Option, Some}
use Rattle.std.proofs.Common.{Result, Ok, Err, nat_lt, nat_le, if◌then◌else◌, refl, ap, ◌∙◌, arith}
use Rattle.std.proofs.lemmas.Bool.{lt-leb, le-ltb}
use Rattle.std.specs.List.{AllByRecursion}
use Rattle.snap_semantics.specs.declared.instr.Line.{Line}
use Rattle.snap_semantics.specs.declared.refusal.ListingRefusal.{ListingRefusal}
use Rattle.snap_semantics.specs.declared.refusal.ListingRefusal.TheVariants as refusal
use Rattle.snap_semantics.specs.declared.text.Sort.{Sort}
use Rattle.snap_semantics.specs.declared.text.Sort.TheVariants as sort
use Rattle.snap_semantics.specs.IsListing.{IsName, HasForm, AreRising, IsLine, IsListing}
use Rattle.snap_semantics.specs.Rules.{form_or}
use Rattle.snap_semantics.specs.Listing.{checked_line, numbered_lines, has_line, checked_targets, line_targets}
use Rattle.snap_semantics.specs.Listing.{all_names, header_of, with_lines, listing_of_lines, listing_of}
use Rattle.snap_semantics.specs.ListingForms.{is_line_number, line_form}
use Rattle.snap_semantics.specs.RightUses.{IsRight, HasRightUses}
use Rattle.snap_semantics.specs.Source.{Source}
use Rattle.snap_semantics.specs.Spelling.{spelled_line, spelled_source}
use Rattle.snap_semantics.specs.Token.{Token, TextLine, text_lines, lines_of}
use Rattle.snap_semantics.specs.Uses.{Use, Named, BankUse, FieldUse, HandshakeUse, ViewUse, TupleUse, instr_uses}
use Rattle.snap_semantics.specs.Uses.{kind_has, use_of_sort, checked_use, checked_uses}
use Rattle.snap_text.specs.Lines.{line_tokens}
use Rattle.snap_listing.specs.Laws.{ReadsAllSpelled}
use Rattle.snap_listing.proofs.AgainHeader.{bind_by, pass_by, form_again, header_again}
use Rattle.snap_listing.proofs.AgainTerms.{Names}
use Rattle.snap_listing.proofs.Declared.{uses_named}
use Rattle.snap_listing.proofs.RightSources.{relined_uses}
use Rattle.snap_listing.proofs.SpelledHeader.{some_line}
use Rattle.snap_listing.proofs.SpelledLines.{spelled_lines}

-- a line is read from its spelling
abbrev pub LineAgain : Type 0
LineAgain =
    (s : Source) (line : Line) → is_line_number line.number ≡ true → HasForm line.instr → HasRightUses s line.instr →
    Names (instr_uses line.instr) → line_form s.kind (spelled_line line) ≡ Some line

abbrev Checked : Type 0
Checked = Result (Unit {0}) ListingRefusal

abbrev done : Checked
done = Ok tt

sort_again : (line : ℕ) (k : Sort) → use_of_sort line k (Some k) ≡ done
sort_again line sort.Scalar = refl
sort_again line _ = refl

there_by : (b : Bool) (r : Checked) (e : ListingRefusal) → b ≡ true → r ≡ done → (if b then r else Err e) ≡ done
there_by true r e p h = h
there_by false r e p h = absurd cc

use_again : (s : Source) (line : ℕ) (u : Use) → IsRight s u → checked_use s line u ≡ done
use_again s line (Named wanted x) h = ap (use_of_sort line wanted) h ∙ sort_again line wanted
use_again s line (BankUse b) h = there_by (kind_has s.kind (BankUse b)) done (refusal.WrongKind line) h refl
use_again s line (FieldUse f) h = there_by (kind_has s.kind (FieldUse f)) done (refusal.WrongKind line) h refl
use_again s line HandshakeUse h = there_by (kind_has s.kind HandshakeUse) done (refusal.WrongKind line) h refl
use_again s line ViewUse h = there_by (kind_has s.kind ViewUse) done (refusal.WrongKind line) h refl
use_again s line (TupleUse k) h = there_by (kind_has s.kind (TupleUse k)) done (refusal.WrongKind line) h refl

uses_again : (s : Source) (line : ℕ) (us : List Use) → AllByRecursion (IsRight s) us → checked_uses s line us ≡ done
uses_again s line [] h = refl
uses_again s line (u ∷ us) h =
    bind_by (checked_use s line u) tt _ done (use_again s line u h.0) (uses_again s line us h.1)

checked_again : (s : Source) (at last count : ℕ) (line : Line) → last < line.number → count < 200 →
    HasRightUses s line.instr → checked_line s at last count line ≡ Ok line
checked_again s at last count line above room h =
    pass_by (nat_le line.number last) _ _ (Ok line) (lt-leb line.number last above)
    (pass_by (nat_le 200 count) _ _ (Ok line) (lt-leb 200 count room)
    (bind_by (checked_uses s at (instr_uses line.instr)) tt _ (Ok line)
    (uses_again s at (instr_uses line.instr) h) refl))

abbrev Lines : Type 0
Lines = List (Option (List Token))

heads : (o p : Option (List Token)) (os ps : Lines) → o ∷ os ≡ p ∷ ps → o ≡ p
heads o p os ps e = cc

tails : (o p : Option (List Token)) (os ps : Lines) → o ∷ os ≡ p ∷ ps → os ≡ ps
tails o p os ps e = cc

lines_again : LineAgain → (s : Source) (last count : ℕ) (texts : List TextLine) (lines : List Line) →
    AllByRecursion IsName (all_names s) → line_tokens texts ≡ spelled_lines lines → AllByRecursion (IsLine s) lines →
    AreRising last lines → count + length lines ≤ 200 → numbered_lines s last count texts ≡ Ok lines
lines_again again s last count [] [] all e h rising few = refl
lines_again again s last count [] (line ∷ lines) all e h rising few = absurd cc
lines_again again s last count (text ∷ texts) [] all e h rising few = absurd cc
lines_again again s last count (text ∷ texts) (line ∷ lines) all e h rising few =
    let first = heads text.tokens (some_line (spelled_line line)) (line_tokens texts) (spelled_lines lines) e in
    let others = tails text.tokens (some_line (spelled_line line)) (line_tokens texts) (spelled_lines lines) e in
    let form = again s line h.0.number h.0.form h.0.uses (uses_named s (instr_uses line.instr) all h.0.uses) in
    let room : count < 200 = omega (arith, few) in
    let later : count + 1 + length lines ≤ 200 = omega (arith, few) in
    bind_by (form_or (refusal.BadLine text.number) (line_form s.kind) text.tokens) line _ (Ok (line ∷ lines))
    (form_again (refusal.BadLine text.number) (line_form s.kind) text.tokens (spelled_line line) line first form)
    (bind_by (checked_line s text.number last count line) line _ (Ok (line ∷ lines))
    (checked_again s text.number last count line rising.0 room h.0.uses)
    (bind_by (numbered_lines s line.number (count + 1) texts) lines _ (Ok (line ∷ lines))
    (lines_again again s line.number (count + 1) texts lines all others h.1 rising.1 later)
    refl))

targets_again : (lines : List Line) (ks : List ℕ) → AllByRecursion (λ (k : ℕ). has_line lines k ≡ true) ks →
    checked_targets lines ks ≡ done
targets_again lines [] h = refl
targets_again lines (k ∷ ks) h =
    there_by (has_line lines k) (checked_targets lines ks) (refusal.NoSuchLine k) h.0 (targets_again lines ks h.1)

nameless : (s : Source) (lines : List Line) → AllByRecursion (IsLine s) lines →
    AllByRecursion (IsLine (with_lines [] s)) lines
nameless s [] h = tt
nameless s (line ∷ lines) h = (
  record { number = h.0.number; form = h.0.form; uses = relined_uses s [] (instr_uses line.instr) h.0.uses },
  nameless s lines h.1,
)

-- the numbered lines behind the header
body_again : LineAgain → (s : Source) (texts : List TextLine) → IsListing s →
    line_tokens texts ≡ spelled_lines s.lines → numbered_lines (with_lines [] s) 0 0 texts ≡ Ok s.lines
body_again again s texts h e =
    let few = h.few_lines in
    lines_again again (with_lines [] s) 0 0 texts s.lines h.names e
    (nameless s s.lines h.lines) h.rising (omega (arith, few))

listing_again : LineAgain → (after : ℕ) (texts : List TextLine) (s : Source) → IsListing s →
    line_tokens texts ≡ map some_line (spelled_source s) → listing_of_lines after texts ≡ Ok s
unfolding listing_of_lines
listing_again again after (i ∷ j ∷ k ∷ l ∷ m ∷ n ∷ o ∷ texts) s h e =
    let e1 = tails _ _ _ _ e in
    let e2 = tails _ _ _ _ e1 in
    let e3 = tails _ _ _ _ e2 in
    let e4 = tails _ _ _ _ e3 in
    let e5 = tails _ _ _ _ e4 in
    let e6 = tails _ _ _ _ e5 in
    let e7 = tails _ _ _ _ e6 in
    bind_by (header_of after (i ∷ j ∷ k ∷ l ∷ m ∷ n ∷ o ∷ texts)) (with_lines [] s, texts) _ (Ok s)
    (header_again after i j k l m n o texts s h (heads _ _ _ _ e) (heads _ _ _ _ e1) (heads _ _ _ _ e2)
    (heads _ _ _ _ e3) (heads _ _ _ _ e4)
    (heads _ _ _ _ e5) (heads _ _ _ _ e6))
    (bind_by (numbered_lines (with_lines [] s) 0 0 texts) s.lines _ (Ok s) (body_again again s texts h e7)
    (bind_by (checked_targets s.lines (s.scan ∷ s.update ∷ line_targets s.lines)) tt _ (Ok s)
    (targets_again s.lines (s.scan ∷ s.update ∷ line_targets s.lines) h.targets) refl))
listing_again again after _ s h e = absurd cc

-- every listing is read from every text that spells it, where every line is
pub reads_all_spelled_by : LineAgain → ReadsAllSpelled
unfolding listing_of
reads_all_spelled_by again text s few h e =
    pass_by (nat_lt 65536 (length text)) (Err refusal.TooLong)
    (listing_of_lines (length (lines_of text) + 1) (text_lines text)) (Ok s) (le-ltb 65536 (length text) few)
    (listing_again again (length (lines_of text) + 1) (text_lines text) s h e)
