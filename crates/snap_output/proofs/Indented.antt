-- Lines that are indented speak of the process above them (`IsIndented`): what changed among the lines of a process is
-- what changed in those of one local, where the others stay.
use Rattle.std.proofs.Common.{◌≡◌, ℕ, ◌+◌, true, false, List, [], ◌∷◌, ◌++◌, length, take}
use Rattle.std.proofs.Common.{codes, decimal, if◌then◌else◌, refl, sym, ap, ◌∙◌, subst, append-nil, arith}
use Rattle.std.proofs.lemmas.Bool.{ne_eqb}
use Rattle.std.proofs.lemmas.List.{length-append, take-append-le, take_at}
use Rattle.std.specs.Prelude.{◌==◌}
use Rattle.std.specs.List.{AllByRecursion}
use Rattle.snap_words.specs.Word.{Word}
use Rattle.snap_words.specs.declared.kind.KindTag.{KindTag}
use Rattle.snap_semantics.specs.declared.process.Status.{Status}
use Rattle.snap_semantics.specs.Report.{head_line, list_local, number_local, numbers_text, status_text, word_local}
use Rattle.snap_semantics.specs.Report.{word_text, words_local}
use Rattle.snap_semantics.specs.Source.{Name}
use Rattle.snap_semantics.specs.Token.{lines_of}
use Rattle.snap_text.specs.Changes.{text_between}
use Rattle.snap_listing.proofs.Alls.{all_both}
use Rattle.snap_text.specs.Owned.{owned_text, two_words, word_len}
use Rattle.snap_output.specs.Between.{between, owned}
use Rattle.snap_output.proofs.Wholes.{IsWhole, before, feeds, feeds_append, joined, new_line, no_text}
use Rattle.snap_output.proofs.Changes as changes
use Rattle.snap_output.proofs.Feeds.{decimal_plain, each_digit, head_feeds, list_feeds, number_feeds, place_feeds}
use Rattle.snap_output.proofs.Splits.{AreJoined, each_is, places_order}
use Rattle.snap_output.proofs.Owned.{IsPlain, lines_plain, owned_apart, owned_feeds, owned_whole, owner_after}

abbrev IsIndentedLine : List ℕ → Type 0
IsIndentedLine [] = ⊥
IsIndentedLine (b ∷ bs) = (b == 32) ≡ true

-- whole lines, each of which begins with a space
pub record IsIndented (t : List ℕ) : Type 0 where
  pub whole : IsWhole t
  pub lines : AllByRecursion IsIndentedLine (lines_of t)

pub indented_join : AreJoined IsIndented
indented_join = record {
  none = record { whole = no_text; lines = tt };
  join = λ {a} {b} h k. record {
    whole = joined h.whole k.whole;
    lines =
        subst (AllByRecursion IsIndentedLine) (sym (h.whole.apart b))
        (all_both IsIndentedLine (lines_of a) (lines_of b) h.lines k.lines);
  };
}

-- a text without a line feed, and one behind it
pub one_line : (a : List ℕ) → feeds a ≡ 0 → lines_of (a ++ codes "\n") ≡ a ∷ []
one_line [] e = refl
one_line (b ∷ a) e = grind (arith, one_line a)

pub plain_before : (a : List ℕ) → feeds (a ++ codes "\n") ≡ 1 → feeds a ≡ 0
plain_before a e = omega (arith, feeds_append)

line_indented : (a : List ℕ) → feeds ((32 ∷ a) ++ codes "\n") ≡ 1 → IsIndented ((32 ∷ a) ++ codes "\n")
line_indented a e = record {
  whole = (before (32 ∷ a) (codes "\n") new_line).whole;
  lines =
      subst (AllByRecursion IsIndentedLine) (sym (one_line (32 ∷ a) (plain_before (32 ∷ a) e))) (refl, tt);
}

-- the line of a local, or none
pub data IsLocalLine : List ℕ → Type 0 where
  no_line : IsLocalLine []
  one_of : (a : List ℕ) → feeds ((32 ∷ a) ++ codes "\n") ≡ 1 → IsLocalLine ((32 ∷ a) ++ codes "\n")

pub number_line : (x : Name) (v : ℕ) → IsPlain x → IsLocalLine (number_local x v)
number_line x v h =
    one_of (codes " " ++ x ++ codes " = " ++ decimal v) (number_feeds x v ∙ ap (λ n. n + 1) h)

pub list_line : (x : Name) (vs : List ℕ) → IsPlain x → IsLocalLine (list_local x vs)
list_line x vs h =
    one_of (codes " " ++ x ++ codes " =" ++ numbers_text vs) (list_feeds x vs ∙ ap (λ n. n + 1) h)

pub place_line : (g : KindTag) (x : Name) (p : ℕ) (v : Word) → IsPlain x → IsLocalLine (word_local g x p v)
place_line g x p v h =
    one_of (codes " " ++ x ++ codes " " ++ decimal p ++ codes " = " ++ word_text g v)
    (place_feeds g x p v ∙ ap (λ n. n + 1) h)

pub indented : {t : List ℕ} → IsLocalLine t → IsIndented t
indented no_line = indented_join.none
indented (one_of a feed) = line_indented a feed

pub words_indented : (g : KindTag) (x : Name) (p : ℕ) (vs : List Word) → IsPlain x → IsIndented (words_local g x p vs)
words_indented g x p vs h = each_is indented_join (places_order g x) (λ n v. indented (place_line g x n v h)) p vs

same_owner : (owner : List ℕ) (xs : List (List ℕ)) → AllByRecursion IsIndentedLine xs → owner_after owner xs ≡ owner
same_owner owner [] h = refl
same_owner owner ([] ∷ xs) h = absurd h.0
same_owner owner ((b ∷ bs) ∷ xs) h =
    ap (λ v. owner_after (if v then owner else two_words (b ∷ bs)) xs) h.0 ∙ same_owner owner xs h.1

-- the lines of a text that speak of an owner
abbrev pub told : List ℕ → List ℕ → List (List ℕ)
told owner t = lines_of (owned_text owner (lines_of t))

told_joined : (owner a b : List ℕ) → IsIndented a → told owner (a ++ b) ≡ told owner a ++ told owner b
told_joined owner a b h =
    ap (λ ls. lines_of (owned_text owner ls)) (h.whole.apart b)
    ∙ ap lines_of (owned_apart owner (lines_of a) (lines_of b)
    ∙ ap (λ o. owned_text owner (lines_of a) ++ owned_text o (lines_of b)) (same_owner owner (lines_of a) h.lines))
    ∙ (owned_whole owner (lines_of a)).apart (owned_text owner (lines_of b))

told_count : (owner t : List ℕ) → IsPlain owner → IsWhole t → length (told owner t) ≡ feeds t
told_count owner t plain h =
    (owned_whole owner (lines_of t)).count ∙ owned_feeds owner (lines_of t) plain (lines_plain t) ∙ h.count

-- digits are no spaces
abbrev NoSpace : ℕ → Type 0
NoSpace b = (b == 32) ≡ false

decimal_apart : (n : ℕ) → AllByRecursion NoSpace (decimal n)
decimal_apart n = each_digit NoSpace (λ b h. ne_eqb b 32 (λ e. omega (arith, h, e))) n

word_full : (xs ys : List ℕ) → AllByRecursion NoSpace xs → word_len ((xs ++ codes " ") ++ ys) ≡ length xs
word_full [] ys h = refl
word_full (b ∷ xs) ys h = rw h.0 (omega (arith, word_full xs ys h.1))

abbrev pub owner_of : ℕ → List ℕ
owner_of i = codes "process " ++ decimal i

-- of whom the lines below the first line of a process speak
head_owner : (owner : List ℕ) (i : ℕ) (s : Status) → owner_after owner (lines_of (head_line i s)) ≡ owner_of i
head_owner owner i s =
    let front = owner_of i ++ codes " " in
    let words = front ++ status_text s in
    ap (owner_after owner) (one_line words (plain_before words (head_feeds i s)))
    ∙ ap (λ n. take (8 + n) words) (word_full (decimal i) (status_text s) (decimal_apart i))
    ∙ take-append-le (8 + length (decimal i)) front (status_text s)
    (omega (arith, length-append (decimal i) (codes " ")))
    ∙ take_at (owner_of i) (codes " ") (8 + length (decimal i)) (length-append (codes "process ") (decimal i))

head_whole : (i : ℕ) (s : Status) → IsWhole (head_line i s)
head_whole i s = (before (owner_of i ++ codes " " ++ status_text s) (codes "\n") new_line).whole

head_told : (i : ℕ) (s : Status) (t : List ℕ) →
    lines_of (owned (head_line i s ++ t)) ≡ told [] (head_line i s) ++ told (owner_of i) t
head_told i s t =
    ap (λ ls. lines_of (owned_text [] ls)) ((head_whole i s).apart t)
    ∙ ap lines_of (owned_apart [] (lines_of (head_line i s)) (lines_of t)
    ∙ ap (λ o. owned_text [] (lines_of (head_line i s)) ++ owned_text o (lines_of t)) (head_owner [] i s))
    ∙ (owned_whole [] (lines_of (head_line i s))).apart (owned_text (owner_of i) (lines_of t))

-- what changed of a process is its first line, and what changed among its locals
pub process_narrowed : (i : ℕ) (s s' : Status) (f m m' r : List ℕ) → IsIndented f → IsIndented m → IsIndented m' →
    feeds m ≡ feeds m' → between (head_line i s ++ (f ++ (m ++ r))) (head_line i s' ++ (f ++ (m' ++ r)))
    ≡ text_between (told [] (head_line i s)) (told [] (head_line i s'))
    ++ text_between (told (owner_of i) m) (told (owner_of i) m')
process_narrowed i s s' f m m' r hf hm hm' e =
    let heads : length (told [] (head_line i s)) ≡ length (told [] (head_line i s')) =
    told_count [] (head_line i s) refl (head_whole i s) ∙ head_feeds i s ∙ sym (head_feeds i s')
    ∙ sym (told_count [] (head_line i s') refl (head_whole i s')) in
    let plain = decimal_plain i in
    let parts : length (told (owner_of i) m) ≡ length (told (owner_of i) m') =
    told_count (owner_of i) m plain hm.whole ∙ e ∙ sym (told_count (owner_of i) m' plain hm'.whole) in
    simp (head_told, told_joined, changes.apart, changes.same, append-nil)
