-- The tokens of a listing's spelling can stand in a text.
use Rattle.std.proofs.Common.{◌≡◌, ℕ, true, nat_le, arith, ◌||◌, Bool, false, nat_eq, List, ◌∷◌, refl, map, ◌++◌, codes}
use Rattle.std.proofs.Common.{[]}
use Rattle.std.proofs.lemmas.Bool.{leb-true, and_parts, eqb-true}
use Rattle.std.specs.List.{AllByRecursion}
use Rattle.snap_words.specs.declared.kind.KindTag.{KindTag}
use Rattle.snap_words.specs.declared.kind.KindTag.TheVariants as kind
use Rattle.snap_semantics.specs.declared.instr.Line.{Line}
use Rattle.snap_semantics.specs.ListingForms.{is_line_number, max_line_number}
use Rattle.snap_semantics.specs.IsListing.{IsLine, IsName, IsListing}
use Rattle.snap_semantics.specs.Listing.{has_line, all_names, instr_targets, line_targets}
use Rattle.snap_semantics.specs.Source.{Source, Name}
use Rattle.snap_semantics.specs.Spelling.{spelled_line, kind_keyword, spelled_names, spelled_entry, spelled_source}
use Rattle.snap_semantics.specs.Uses.{instr_uses}
use Rattle.snap_semantics.specs.Token.{IsIdentifier, Identifier}
use Rattle.snap_listing.proofs.SoundTerms.{IsLong}
use Rattle.snap_listing.proofs.Alls.{all_first, all_rest}
use Rattle.snap_listing.proofs.Declared.{uses_named}
use Rattle.snap_listing.proofs.GivenForms.{instr_sound}
use Rattle.snap_listing.proofs.HasTerms.{Sounds}
use Rattle.snap_listing.proofs.SpelledHeader.{spelled_kind}
use Rattle.snap_text.specs.Laws.{IsSoundLine}

-- a line number has 64 bits, and so a target, which is the number of a line
line_number_fits : (k : ℕ) → is_line_number k ≡ true → IsLong k
line_number_fits k h =
    let most = leb-true k max_line_number (and_parts (nat_le 1 k) (nat_le k max_line_number) h).1 in
    omega (arith, most)

target_by : (n k : ℕ) (b c : Bool) → nat_eq n k ≡ b → IsLong n → (c ≡ true → IsLong k) → (b || c) ≡ true → IsLong k
target_by n k true c h fits rest e = let same : n ≡ k = eqb-true n k h in omega (arith, fits, same)
target_by n k false c h fits rest e = rest e

target_fits : (s : Source) (lines : List Line) (k : ℕ) → AllByRecursion (IsLine s) lines →
    has_line lines k ≡ true → IsLong k
target_fits s [] k h e = absurd cc
target_fits s (line ∷ lines) k h e =
    target_by line.number k (nat_eq line.number k) (has_line lines k) refl
    (line_number_fits line.number h.0.number) (target_fits s lines k h.1) e

targets_fit : (s : Source) (lines : List Line) (ks : List ℕ) → AllByRecursion (IsLine s) lines →
    AllByRecursion (λ (k : ℕ). has_line lines k ≡ true) ks → AllByRecursion IsLong ks
targets_fit s lines [] h g = tt
targets_fit s lines (k ∷ ks) h g = (target_fits s lines k h g.0, targets_fit s lines ks h g.1)

lines_sound : (s : Source) (lines : List Line) → AllByRecursion IsName (all_names s) →
    AllByRecursion (IsLine s) lines → AllByRecursion IsLong (line_targets lines) →
    AllByRecursion IsSoundLine (map spelled_line lines)
lines_sound s [] all h fit = tt
lines_sound s (line ∷ lines) all h fit =
    let first = all_first IsLong (instr_targets line.instr) (line_targets lines) fit in
    let rest = all_rest IsLong (instr_targets line.instr) (line_targets lines) fit in
    let names = uses_named s (instr_uses line.instr) all h.0.uses in (
      (refl, (line_number_fits line.number h.0.number, (tt, instr_sound line.instr h.0.form names first))),
      lines_sound s lines all h.1 rest,
    )

kind_sound : (k : KindTag) → IsIdentifier (kind_keyword k)
kind_sound kind.Seq = (omega arith, refl)
kind_sound _ = (omega arith, refl)

names_sound : (names : List Name) → AllByRecursion IsName names → Sounds (map (λ (x : Name). Identifier x) names)
names_sound [] h = tt
names_sound (x ∷ names) h = (h.0.0, names_sound names h.1)

-- the tokens of a listing
pub listing_sound : (s : Source) → IsListing s → AllByRecursion IsSoundLine (spelled_source s)
listing_sound s h =
    let behind_scalars = all_rest IsName s.scalars (s.rows ++ (s.words ++ s.views)) h.names in
    let behind_rows = all_rest IsName s.rows (s.words ++ s.views) behind_scalars in
    let kind_line : Sounds (spelled_kind s.kind) = ((omega arith, refl), (kind_sound s.kind, tt)) in
    let scalars : Sounds (spelled_names (codes "scalar") s.scalars) = (
      (omega arith, refl),
      names_sound s.scalars (all_first IsName s.scalars (s.rows ++ (s.words ++ s.views)) h.names),
    ) in
    let rows : Sounds (spelled_names (codes "row") s.rows) =
    ((omega arith, refl), names_sound s.rows (all_first IsName s.rows (s.words ++ s.views) behind_scalars)) in
    let words : Sounds (spelled_names (codes "words") s.words) =
    ((omega arith, refl), names_sound s.words (all_first IsName s.words s.views behind_rows)) in
    let views : Sounds (spelled_names (codes "view") s.views) =
    ((omega arith, refl), names_sound s.views (all_rest IsName s.words s.views behind_rows)) in
    let scan : Sounds (spelled_entry (codes "scan") s.scan) =
    ((omega arith, refl), (line_number_fits s.scan h.scan, tt)) in
    let update : Sounds (spelled_entry (codes "update") s.update) =
    ((omega arith, refl), (line_number_fits s.update h.update, tt)) in
    let lines =
    lines_sound s s.lines h.names h.lines (targets_fit s s.lines (line_targets s.lines) h.lines h.targets.1.1) in (
      (refl, kind_line),
      ((refl, scalars), ((refl, rows), ((refl, words), ((refl, views), ((refl, scan), ((refl, update), lines)))))),
    )
