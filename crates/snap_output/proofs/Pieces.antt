-- What an item changed, piece by piece: the lines of the registers, the first line of its process, the line of a local,
-- and an event.
use Rattle.std.proofs.Common.{◌≡◌, ℕ, ◌+◌, List, [], ◌∷◌, ◌++◌, codes, decimal, refl, ap}
use Rattle.std.proofs.Common.{append_assoc, append-nil, arith, if◌then◌else◌}
use Rattle.std.proofs.lemmas.List.{append_cancel_left, append_cancel_right}
use Rattle.std.proofs.lemmas.Bool.Decides.{same_from_decides, Decides-like}
use Rattle.std.proofs.lemmas.Slice.Eq.{bytes_eq-Decides}
use Rattle.std.specs.Prelude.{bytes_eq}
use Rattle.snap_semantics.specs.declared.event.Event.{Event}
use Rattle.snap_semantics.specs.Report.{event_lines, happening_text}
use Rattle.snap_semantics.specs.Token.{lines_of}
use Rattle.snap_text.specs.Changes.{text_between}
use Rattle.snap_text.proofs.Printing.{one_added, one_replaced}
use Rattle.snap_output.specs.Touched.{came_text, changed_line, changed_local, of_process}
use Rattle.snap_output.proofs.Wholes.{feeds, feeds_append}
use Rattle.snap_output.proofs.Feeds.{decimal_plain, event_feeds}
use Rattle.snap_output.proofs.Parts.{ended}
use Rattle.snap_output.proofs.Indented.{IsLocalLine, no_line, one_line, one_of, owner_of, plain_before}

-- bytes behind or before both of two texts do not make them differ
behind_both : (a x y : List ℕ) → bytes_eq x y ≡ bytes_eq (a ++ x) (a ++ y)
behind_both a x y =
    same_from_decides _ _ (bytes_eq-Decides x y)
    (Decides-like _ (λ (e : a ++ x ≡ a ++ y). append_cancel_left a x y e) (λ (e : x ≡ y). ap (λ t. a ++ t) e)
    (bytes_eq-Decides (a ++ x) (a ++ y)))

before_both : (x y b : List ℕ) → bytes_eq x y ≡ bytes_eq (x ++ b) (y ++ b)
before_both x y b =
    same_from_decides _ _ (bytes_eq-Decides x y)
    (Decides-like _ (λ (e : x ++ b ≡ y ++ b). append_cancel_right x y b e) (λ (e : x ≡ y). ap (λ t. t ++ b) e)
    (bytes_eq-Decides (x ++ b) (y ++ b)))

regroup : (m x n p y : List ℕ) → ((m ++ x) ++ n) ++ ((p ++ y) ++ n) ≡ ((m ++ (x ++ n)) ++ p) ++ (y ++ n)
regroup m x n p y = simp append_assoc

-- one line in the place of another
pub line_change : (x y : List ℕ) → feeds (x ++ codes "\n") ≡ 1 → feeds (y ++ codes "\n") ≡ 1 →
    text_between (lines_of (x ++ codes "\n")) (lines_of (y ++ codes "\n"))
    ≡ changed_line (x ++ codes "\n") (y ++ codes "\n")
line_change x y ex ey =
    rw (
      one_line x (plain_before x ex),
      one_line y (plain_before y ey),
      one_replaced [] [] x y,
      before_both x y (codes "\n"),
      append-nil,
    ) (ap (λ t. if bytes_eq (x ++ codes "\n") (y ++ codes "\n") then [] else t)
    (regroup (codes "- ") x (codes "\n") (codes "+ ") y))

-- the same of two lines that have one text in front
changed_behind : (o x y : List ℕ) → feeds ((o ++ x) ++ codes "\n") ≡ 1 → feeds ((o ++ y) ++ codes "\n") ≡ 1 →
    text_between (lines_of (o ++ (x ++ codes "\n"))) (lines_of (o ++ (y ++ codes "\n")))
    ≡ (if bytes_eq (x ++ codes "\n") (y ++ codes "\n") then []
    else codes "- " ++ (o ++ (x ++ codes "\n")) ++ codes "+ " ++ (o ++ (y ++ codes "\n")))
changed_behind o x y ex ey =
    rw (
      behind_both o (x ++ codes "\n") (y ++ codes "\n"),
      ← append_assoc o x (codes "\n"),
      ← append_assoc o y (codes "\n"),
    ) (line_change (o ++ x) (o ++ y) ex ey)

-- the line of a local in the place of another
pub local_change : (i : ℕ) {l l' : List ℕ} → IsLocalLine l → IsLocalLine l' → feeds l ≡ feeds l' →
    text_between (lines_of (of_process i l)) (lines_of (of_process i l')) ≡ changed_local i l l'
local_change i no_line no_line same = refl
local_change i (one_of a ea) (one_of b eb) same =
    changed_behind (owner_of i) a b (omega (arith, feeds_append, decimal_plain i))
    (omega (arith, feeds_append, decimal_plain i))
local_change i no_line (one_of b eb) same = absurd (omega (arith, eb, same))
local_change i (one_of a ea) no_line same = absurd (omega (arith, ea, same))

-- events that came behind all lines
pub came : (es : List Event) → text_between [] (lines_of (event_lines es)) ≡ came_text es
came [] = refl
came (e ∷ es) =
    rw (
      (ended words).apart (event_lines es),
      one_line words (plain_before words (event_feeds e)),
      one_added (lines_of (event_lines es)) words,
      came es,
    )
    (ap (λ t. t ++ came_text es) (append_assoc (codes "+ ") words (codes "\n")))
  where
    words : List ℕ
    words =
        codes "event " ++ decimal e.item ++ codes " " ++ decimal e.process ++ codes " " ++ happening_text e.what
