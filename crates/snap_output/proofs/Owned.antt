-- Lines of a report with their owner, such as a process, put in front (`owned_text`), where the report is put
-- together from parts.
use Rattle.std.proofs.Common.{◌≡◌, ℕ, zero, suc, false, List, [], ◌∷◌, ◌++◌, length, take, nat_eq}
use Rattle.std.proofs.Common.{codes, refl, ap, ◌∙◌, append_assoc, arith}
use Rattle.std.specs.Prelude.{◌==◌}
use Rattle.std.specs.List.{AllByRecursion}
use Rattle.snap_semantics.specs.Token.{lines_of, onto_line}
use Rattle.snap_text.specs.Owned.{next_owner, owned_line, owned_text}
use Rattle.snap_output.proofs.Wholes.{IsWhole, before, feeds, feeds_append, joined, new_line, no_text}

-- a line has no line feed
abbrev pub IsPlain : List ℕ → Type 0
IsPlain line = feeds line ≡ 0

onto_plain : (b : ℕ) (lines : List (List ℕ)) → nat_eq b 10 ≡ false → AllByRecursion IsPlain lines →
    AllByRecursion IsPlain (onto_line b lines)
onto_plain b [] e h = (rw e refl, tt)
onto_plain b (line ∷ lines) e h = (rw e h.0, h.1)

-- the lines of a text are lines
pub lines_plain : (t : List ℕ) → AllByRecursion IsPlain (lines_of t)
lines_plain [] = tt
lines_plain (b ∷ t) = grind (arith, onto_plain b (lines_of t), lines_plain t)

pub taken_plain : (k : ℕ) (line : List ℕ) → IsPlain line → IsPlain (take k line)
taken_plain zero line h = refl
taken_plain (suc k) [] h = refl
taken_plain (suc k) (b ∷ line) h = grind (arith, taken_plain k line)

owner_plain : (owner line : List ℕ) → IsPlain owner → IsPlain line → IsPlain (next_owner owner line)
owner_plain owner [] h k = refl
owner_plain owner (b ∷ bs) h k = grind (arith, taken_plain)

line_plain : (owner line : List ℕ) → IsPlain owner → IsPlain line → IsPlain (owned_line owner line)
line_plain owner [] h k = refl
line_plain owner (b ∷ bs) h k = grind (arith, feeds_append owner bs)

-- there are as many lines as before
pub owned_feeds : (owner : List ℕ) (lines : List (List ℕ)) → IsPlain owner → AllByRecursion IsPlain lines →
    feeds (owned_text owner lines) ≡ length lines
owned_feeds owner [] h k = refl
owned_feeds owner (line ∷ lines) h k =
    let first = line_plain owner line h k.0 in
    let rest = owned_feeds (next_owner owner line) lines (owner_plain owner line h k.0) k.1 in
    omega (arith, feeds_append)

pub owned_whole : (owner : List ℕ) (lines : List (List ℕ)) → IsWhole (owned_text owner lines)
owned_whole owner [] = no_text
owned_whole owner (line ∷ lines) =
    joined (before (owned_line owner line) (codes "\n") new_line).whole (owned_whole (next_owner owner line) lines)

-- The first of these lines speaks of itself, or there is none.
abbrev pub SpeaksFirst : List (List ℕ) → Type 0
SpeaksFirst [] = Unit {0}
SpeaksFirst ([] ∷ lines) = ⊥
SpeaksFirst ((b ∷ bs) ∷ lines) = (b == 32) ≡ false

speaks_alone : (owner : List ℕ) (lines : List (List ℕ)) → SpeaksFirst lines →
    owned_text owner lines ≡ owned_text [] lines
speaks_alone owner [] h = refl
speaks_alone owner ([] ∷ lines) h = absurd h
speaks_alone owner ((b ∷ bs) ∷ lines) h = rw h refl

-- of whom lines speak that are indented, behind these
abbrev pub owner_after : List ℕ → List (List ℕ) → List ℕ
owner_after owner [] = owner
owner_after owner (x ∷ xs) = owner_after (next_owner owner x) xs

pub owned_apart : (owner : List ℕ) (xs ys : List (List ℕ)) →
    owned_text owner (xs ++ ys) ≡ owned_text owner xs ++ owned_text (owner_after owner xs) ys
owned_apart owner [] ys = refl
owned_apart owner (x ∷ xs) ys = rw (owned_apart (next_owner owner x) xs ys) (simp append_assoc)

-- behind other lines, where the first one speaks of itself
pub behind_lines : (owner : List ℕ) (xs ys : List (List ℕ)) → SpeaksFirst ys →
    owned_text owner (xs ++ ys) ≡ owned_text owner xs ++ owned_text [] ys
behind_lines owner xs ys h =
    owned_apart owner xs ys ∙ ap (λ t. owned_text owner xs ++ t) (speaks_alone (owner_after owner xs) ys h)
