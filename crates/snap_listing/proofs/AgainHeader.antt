-- The header of a listing is read from the lines that spell it.
use Rattle.std.proofs.Common.{◌≡◌, ℕ, ◌+◌, ◌<◌, ◌≤◌, ◌++◌, Bool, true, false, List, [], ◌∷◌, length, Option, Some}
use Rattle.std.proofs.Common.{Result, Ok, Err, nat_le, bytes_eq, codes, if◌then◌else◌, refl}
use Rattle.std.proofs.Common.{sym, ap, ◌∙◌, subst, append_assoc, arith}
use Rattle.std.proofs.lemmas.Bool.{lt-leb, or_parts, or_from}
use Rattle.std.proofs.lemmas.List.{length-append}
use Rattle.std.specs.List.{AllByRecursion}
use Rattle.snap_semantics.specs.declared.refusal.ListingRefusal.{ListingRefusal}
use Rattle.snap_semantics.specs.declared.refusal.ListingRefusal.TheVariants as refusal
use Rattle.snap_semantics.specs.Answers.{◌>>=◌}
use Rattle.snap_semantics.specs.HeaderForms.{kind_form, names_form, entry_form}
use Rattle.snap_semantics.specs.IsListing.{IsName, AreDistinct, IsListing}
use Rattle.snap_semantics.specs.Rules.{found_or, form_or}
use Rattle.snap_semantics.specs.Listing.{is_bad_name, header_line, new_names, names_line, header_of, with_lines}
use Rattle.snap_semantics.specs.Source.{Name, Source}
use Rattle.snap_semantics.specs.Spelling.{spelled_names, spelled_entry}
use Rattle.snap_semantics.specs.Token.{Token, TextLine}
use Rattle.snap_semantics.specs.Uses.{is_among}
use Rattle.snap_listing.proofs.Alls.{all_first, all_rest}
use Rattle.snap_listing.proofs.AgainHeaderForms.{kind_again, names_again, entry_again}
use Rattle.snap_listing.proofs.DistinctNames.{other_by}
use Rattle.snap_listing.proofs.SpelledHeader.{some_line, spelled_kind}

pub bind_by : {A B : Type 0} (r : Result A ListingRefusal) (x : A) (f : A → Result B ListingRefusal)
    (p : Result B ListingRefusal) → r ≡ Ok x → f x ≡ p → (r >>= f) ≡ p
bind_by (Ok y) x f p e h = let same : y ≡ x = cc in ap f same ∙ h
bind_by (Err d) x f p e h = absurd cc

-- a refusal that isn't given
pub pass_by : {A : Type 0} (b : Bool) (r p q : Result A ListingRefusal) → b ≡ false → p ≡ q → (if b then r else p) ≡ q
pass_by true r p q e h = absurd cc
pass_by false r p q e h = h

pub form_again : {A : Type 0} (e : ListingRefusal) (rule : List Token → Option A) (tokens : Option (List Token))
    (ts : List Token) (x : A) → tokens ≡ some_line ts → rule ts ≡ Some x → form_or e rule tokens ≡ Ok x
form_again e rule tokens ts x p q = ap (form_or e rule) p ∙ ap (found_or e) q

line_says : {A : Type 0} (after : ℕ) (rule : List Token → Option A) (line : TextLine)
    (lines : List TextLine) (ts : List Token) (x : A) →
    line.tokens ≡ some_line ts → rule ts ≡ Some x → header_line after rule (line ∷ lines) ≡ Ok (x, line.number, lines)
line_says after rule line lines ts x p q =
    bind_by (form_or (refusal.BadHeader line.number) rule line.tokens) x _ (Ok (x, line.number, lines))
    (form_again (refusal.BadHeader line.number) rule line.tokens ts x p q) refl

apart : (x : Name) (xs : List Name) (w : Name) (ws : List Name) →
    is_among x (xs ++ w ∷ ws) ≡ false → bytes_eq x w ≡ false
apart x [] w ws e = (or_parts (bytes_eq x w) (is_among x ws) e).0
apart x (y ∷ ys) w ws e = apart x ys w ws (or_parts (bytes_eq x y) (is_among x (ys ++ w ∷ ws)) e).1

fresh : (known : List Name) (w : Name) (ws : List Name) → AreDistinct (known ++ w ∷ ws) → is_among w known ≡ false
fresh [] w ws d = refl
fresh (x ∷ xs) w ws d =
    or_from (bytes_eq w x) (is_among w xs) (other_by w x (bytes_eq w x) refl (apart x xs w ws d.0)) (fresh xs w ws d.1)

new_again : (line : ℕ) (known names : List Name) → AllByRecursion IsName names → AreDistinct (known ++ names) →
    length known + length names ≤ 32 → new_names line known names ≡ Ok names
new_again line known [] h d few = refl
new_again line known (w ∷ ws) h d few =
    let longer : length (known ++ w ∷ []) ≡ length known + 1 = length-append known (w ∷ []) in
    let room : length known < 32 = omega (arith, few) in
    let later : length (known ++ w ∷ []) + length ws ≤ 32 = omega (arith, few, longer) in
    let rest =
    new_again line (known ++ w ∷ []) ws h.1 (subst AreDistinct (sym (append_assoc known (w ∷ []) ws)) d) later in
    pass_by (is_bad_name w) _ _ (Ok (w ∷ ws)) h.0.1 (pass_by (is_among w known) _ _ (Ok (w ∷ ws)) (fresh known w ws d)
    (pass_by (nat_le 32 (length known)) _ _ (Ok (w ∷ ws)) (lt-leb 32 (length known) room)
    (bind_by (new_names line (known ++ w ∷ []) ws) ws _ (Ok (w ∷ ws)) rest refl)))

names_say : (after : ℕ) (keyword : List ℕ) (known : List Name) (line : TextLine) (lines : List TextLine)
    (names : List Name) → line.tokens ≡ some_line (spelled_names keyword names) →
    AllByRecursion IsName names → AreDistinct (known ++ names) → length known + length names ≤ 32 →
    names_line after keyword known (line ∷ lines) ≡ Ok (names, lines)
names_say after keyword known line lines names p h d few =
    bind_by (header_line after (names_form keyword) (line ∷ lines)) (names, line.number, lines) _ (Ok (names, lines))
    (line_says after (names_form keyword) line lines (spelled_names keyword names) names p (names_again keyword names))
    (bind_by (new_names line.number known names) names _ (Ok (names, lines))
    (new_again line.number known names h d few) refl)

among_first : (x : Name) (xs ys : List Name) → is_among x (xs ++ ys) ≡ false → is_among x xs ≡ false
among_first x [] ys e = refl
among_first x (z ∷ zs) ys e =
    or_from (bytes_eq x z) (is_among x zs) (or_parts (bytes_eq x z) (is_among x (zs ++ ys)) e).0
    (among_first x zs ys (or_parts (bytes_eq x z) (is_among x (zs ++ ys)) e).1)

distinct_first : (xs ys : List Name) → AreDistinct (xs ++ ys) → AreDistinct xs
distinct_first [] ys d = tt
distinct_first (x ∷ xs) ys d = (among_first x xs ys d.0, distinct_first xs ys d.1)

-- the names of the header, sort by sort
record SortsOk (a b c d : List Name) : Type 0 where
  named_scalars : AllByRecursion IsName a
  named_rows : AllByRecursion IsName b
  named_words : AllByRecursion IsName c
  named_views : AllByRecursion IsName d
  distinct_scalars : AreDistinct a
  distinct_rows : AreDistinct (a ++ b)
  distinct_words : AreDistinct ((a ++ b) ++ c)
  distinct_views : AreDistinct ((a ++ (b ++ c)) ++ d)
  few_scalars : 0 + length a ≤ 32
  few_rows : length a + length b ≤ 32
  few_words : length (a ++ b) + length c ≤ 32
  few_views : length (a ++ (b ++ c)) + length d ≤ 32

sorts_ok : (a b c d : List Name) → AllByRecursion IsName (a ++ (b ++ (c ++ d))) → AreDistinct (a ++ (b ++ (c ++ d))) →
    length (a ++ (b ++ (c ++ d))) ≤ 32 → SortsOk a b c d
sorts_ok a b c d named distinct few =
    let rows = all_rest IsName a (b ++ (c ++ d)) named in
    let words = all_rest IsName b (c ++ d) rows in
    let two : a ++ (b ++ (c ++ d)) ≡ (a ++ b) ++ (c ++ d) = sym (append_assoc a b (c ++ d)) in
    let three : a ++ (b ++ (c ++ d)) ≡ ((a ++ b) ++ c) ++ d = two ∙ sym (append_assoc (a ++ b) c d) in
    let four : a ++ (b ++ (c ++ d)) ≡ (a ++ (b ++ c)) ++ d =
    ap (λ (xs : List Name). a ++ xs) (sym (append_assoc b c d)) ∙ sym (append_assoc a (b ++ c) d) in
    let p : length (a ++ (b ++ (c ++ d))) ≡ length a + length (b ++ (c ++ d)) = length-append a (b ++ (c ++ d)) in
    let q : length (b ++ (c ++ d)) ≡ length b + length (c ++ d) = length-append b (c ++ d) in
    let r : length (c ++ d) ≡ length c + length d = length-append c d in
    let s : length (a ++ b) ≡ length a + length b = length-append a b in
    let t : length (a ++ (b ++ c)) ≡ length a + length (b ++ c) = length-append a (b ++ c) in
    let u : length (b ++ c) ≡ length b + length c = length-append b c in
    record {
      named_scalars = all_first IsName a (b ++ (c ++ d)) named;
      named_rows = all_first IsName b (c ++ d) rows;
      named_words = all_first IsName c d words;
      named_views = all_rest IsName c d words;
      distinct_scalars = distinct_first a (b ++ (c ++ d)) distinct;
      distinct_rows = distinct_first (a ++ b) (c ++ d) (subst AreDistinct two distinct);
      distinct_words = distinct_first ((a ++ b) ++ c) d (subst AreDistinct three distinct);
      distinct_views = subst AreDistinct four distinct;
      few_scalars = omega (arith, few, p);
      few_rows = omega (arith, few, p, q);
      few_words = omega (arith, few, p, q, r, s);
      few_views = omega (arith, few, p, q, r, t, u);
    }

abbrev pub read_header : Source → List TextLine → Result (Source × List TextLine) ListingRefusal
read_header s lines = Ok (s, lines)

-- the lines of a header, and others
pub header_again : (after : ℕ) (i j k l m n o : TextLine) (lines : List TextLine) (s : Source) → IsListing s →
    i.tokens ≡ some_line (spelled_kind s.kind) → j.tokens ≡ some_line (spelled_names (codes "scalar") s.scalars) →
    k.tokens ≡ some_line (spelled_names (codes "row") s.rows) →
    l.tokens ≡ some_line (spelled_names (codes "words") s.words) →
    m.tokens ≡ some_line (spelled_names (codes "view") s.views) →
    n.tokens ≡ some_line (spelled_entry (codes "scan") s.scan) →
    o.tokens ≡ some_line (spelled_entry (codes "update") s.update) →
    header_of after (i ∷ j ∷ k ∷ l ∷ m ∷ n ∷ o ∷ lines) ≡ read_header (with_lines [] s) lines
unfolding header_of
header_again after i j k l m n o lines s h ei ej ek el em en eo =
    let a = s.scalars in
    let b = s.rows in
    let c = s.words in
    let d = s.views in
    let ok = sorts_ok a b c d h.names h.distinct h.few_names in
    let done = read_header (record {
      kind = s.kind;
      scalars = a;
      rows = b;
      words = c;
      views = d;
      scan = s.scan;
      update = s.update;
      lines = [];
    }) lines in
    bind_by (header_line after kind_form (i ∷ j ∷ k ∷ l ∷ m ∷ n ∷ o ∷ lines))
    (s.kind, i.number, j ∷ k ∷ l ∷ m ∷ n ∷ o ∷ lines) _ done
    (line_says after kind_form i (j ∷ k ∷ l ∷ m ∷ n ∷ o ∷ lines) (spelled_kind s.kind) s.kind ei (kind_again s.kind))
    (bind_by (names_line after (codes "scalar") [] (j ∷ k ∷ l ∷ m ∷ n ∷ o ∷ lines))
    (a, k ∷ l ∷ m ∷ n ∷ o ∷ lines) _ done
    (names_say after (codes "scalar") [] j
    (k ∷ l ∷ m ∷ n ∷ o ∷ lines) a ej ok.named_scalars ok.distinct_scalars ok.few_scalars)
    (bind_by (names_line after (codes "row") a (k ∷ l ∷ m ∷ n ∷ o ∷ lines)) (b, l ∷ m ∷ n ∷ o ∷ lines) _ done
    (names_say after (codes "row") a k (l ∷ m ∷ n ∷ o ∷ lines) b ek ok.named_rows ok.distinct_rows ok.few_rows)
    (bind_by (names_line after (codes "words") (a ++ b) (l ∷ m ∷ n ∷ o ∷ lines)) (c, m ∷ n ∷ o ∷ lines) _ done
    (names_say after (codes "words") (a ++ b) l (m ∷ n ∷ o ∷ lines) c el ok.named_words ok.distinct_words ok.few_words)
    (bind_by (names_line after (codes "view") (a ++ (b ++ c)) (m ∷ n ∷ o ∷ lines)) (d, n ∷ o ∷ lines) _ done
    (names_say after (codes "view") (a ++ (b ++ c)) m
    (n ∷ o ∷ lines) d em ok.named_views ok.distinct_views ok.few_views)
    (bind_by (header_line after (entry_form (codes "scan")) (n ∷ o ∷ lines)) (s.scan, n.number, o ∷ lines) _ done
    (line_says after (entry_form (codes "scan")) n (o ∷ lines) (spelled_entry (codes "scan") s.scan) s.scan en
    (entry_again (codes "scan") s.scan h.scan))
    (bind_by (header_line after (entry_form (codes "update")) (o ∷ lines)) (s.update, o.number, lines) _ done
    (line_says after (entry_form (codes "update")) o lines (spelled_entry (codes "update") s.update) s.update eo
    (entry_again (codes "update") s.update h.update))
    refl))))))
