-- The line numbers and the targets of a listing fit the two bytes that they have in an image.
use Rattle.std.proofs.Common.{◌≡◌, ℕ, Bool, true, false, ◌||◌, List, [], ◌∷◌, length, nat_eq, refl, subst, arith}
use Rattle.std.proofs.lemmas.Bool.{eqb-true}
use Rattle.std.specs.List.{AllByRecursion}
use Rattle.snap_image.specs.declared.image.ImageVersion.{ImageVersion}
use Rattle.snap_image.specs.declared.image.ImageVersion.TheVariants as version
use Rattle.snap_semantics.specs.declared.instr.Line.{Line}
use Rattle.snap_image.specs.Image.{is_number_in}
use Rattle.snap_semantics.specs.IsListing.{IsLine, IsListing}
use Rattle.snap_semantics.specs.Listing.{has_line, instr_targets, line_targets}
use Rattle.snap_semantics.specs.ListingForms.{is_line_number}
use Rattle.snap_semantics.specs.Source.{Source}
use Rattle.snap_image.specs.Widths.{IsShort, HasShortNumbers}
use Rattle.snap_listing.proofs.Alls.{all_first, all_rest}

-- a line number of a version is one of listings
pub number_within : (v : ImageVersion) (k : ℕ) → is_number_in v k ≡ true → is_line_number k ≡ true
number_within version.First k e = grind (arith, e)
number_within version.Second k e = e

pub short_number : (k : ℕ) → is_line_number k ≡ true → IsShort k
short_number k e = grind (arith, e)

numbered_by : (s : Source) (line : Line) (lines : List Line) (k : ℕ) (b : Bool) → nat_eq line.number k ≡ b →
    is_line_number line.number ≡ true →
    (has_line lines k ≡ true → is_line_number k ≡ true) → (b || has_line lines k) ≡ true → is_line_number k ≡ true
numbered_by s line lines k true e h rest t = subst (λ (n : ℕ). is_line_number n ≡ true) (eqb-true line.number k e) h
numbered_by s line lines k false e h rest t = rest t

-- a target is the number of a line
pub numbered : (s : Source) (lines : List Line) (k : ℕ) → AllByRecursion (IsLine s) lines → has_line lines k ≡ true →
    is_line_number k ≡ true
numbered s [] k h t = absurd cc
numbered s (line ∷ lines) k h t =
    numbered_by s line lines k (nat_eq line.number k) refl h.0.number (numbered s lines k h.1) t

short_targets : (s : Source) (lines : List Line) (ks : List ℕ) → AllByRecursion (IsLine s) lines →
    AllByRecursion (λ (k : ℕ). has_line lines k ≡ true) ks →
    AllByRecursion IsShort ks
short_targets s lines [] h t = tt
short_targets s lines (k ∷ ks) h t = (short_number k (numbered s lines k h t.0), short_targets s lines ks h t.1)

lines_by : (s : Source) (lines : List Line) → AllByRecursion (IsLine s) lines →
    AllByRecursion IsShort (line_targets lines) → AllByRecursion HasShortNumbers lines
lines_by s [] h t = tt
lines_by s (line ∷ lines) h t =
    let here = all_first IsShort (instr_targets line.instr) (line_targets lines) t in (
      (short_number line.number h.0.number, here),
      lines_by s lines h.1 (all_rest IsShort (instr_targets line.instr) (line_targets lines) t),
    )

-- the lines of a listing
pub short_lines : (s : Source) → IsListing s → AllByRecursion HasShortNumbers s.lines
short_lines s h = lines_by s s.lines h.lines (short_targets s s.lines (line_targets s.lines) h.lines h.targets.1.1)

pub short_count : (s : Source) → IsListing s → IsShort (length s.lines)
short_count s h = omega (arith, h.few_lines)
