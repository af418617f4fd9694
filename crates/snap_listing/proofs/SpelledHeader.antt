-- The header that is read from a text has names that a listing may
-- have, each once, and its lines are spelled as they were found.
use Rattle.std.proofs.Common.{◌≡◌, ℕ, ◌+◌, ◌<◌, ◌≤◌, ◌++◌, Bool, true, false, List, [], ◌∷◌, length, map, Option}
use Rattle.std.proofs.Common.{Some, None, Result, nat_le, bytes_eq, codes, if◌then◌else◌}
use Rattle.std.proofs.Common.{refl, sym, ap, ◌∙◌, subst, append_assoc, arith}
use Rattle.std.proofs.lemmas.Bool.{leb-false}
use Rattle.std.proofs.lemmas.List.{append-nil, length-append}
use Rattle.std.specs.Cmp.Lexicographic.{same_text}
use Rattle.std.specs.List.{AllByRecursion}
use Rattle.snap_words.specs.declared.kind.KindTag.{KindTag}
use Rattle.snap_semantics.specs.declared.refusal.ListingRefusal.{ListingRefusal}
use Rattle.snap_semantics.specs.declared.refusal.ListingRefusal.TheVariants as refusal
use Rattle.snap_semantics.specs.Rules.{found_or, form_or, number_at, identifier_at, keyword_at, end_at}
use Rattle.snap_semantics.specs.HeaderForms.{kind_of_keyword, kind_form, words_form, names_form, entry_form}
use Rattle.snap_semantics.specs.IsListing.{IsName, AreDistinct}
use Rattle.snap_semantics.specs.Listing.{is_bad_name, header_line, new_names, names_line, header_of, all_names}
use Rattle.snap_semantics.specs.ListingForms.{is_line_number}
use Rattle.snap_semantics.specs.Source.{Name, Source}
use Rattle.snap_semantics.specs.Spelling.{kind_keyword, spelled_names, spelled_entry}
use Rattle.snap_semantics.specs.Token.{Token, Identifier, Number, Sign, IsIdentifier, TextLine}
use Rattle.snap_semantics.specs.Uses.{is_among}
use Rattle.snap_text.specs.Lines.{line_tokens}
use Rattle.snap_text.proofs.Sound.{AreSound}
use Rattle.snap_listing.proofs.Alls.{all_both}
use Rattle.snap_listing.proofs.HasTerms.{Holds, then_with, Sounds}
use Rattle.snap_listing.proofs.RightSources.{HoldsOk, ok_with}
use Rattle.snap_listing.proofs.DistinctNames.{distinct_snoc}
use Rattle.snap_listing.proofs.SpelledTerms.{if_when, KeywordIs, keyword_is, WordIs, word_is, NumberIs}
use Rattle.snap_listing.proofs.SpelledTerms.{number_is, EndIs, end_is}

pub ok_when : {A : Type 0} (P : A → Type 0) (b : Bool) (r s : Result A ListingRefusal) → HoldsOk P r →
    (b ≡ false → HoldsOk P s) → HoldsOk P (if b then r else s)
ok_when P true r s g h = g
ok_when P false r s g h = h refl

pub then_same : {A : Type 0} (Q P : A → Type 0) (o : Option A) → Holds Q o → ((x : A) → Q x → P x) → Holds P o
then_same Q P None h f = tt
then_same Q P (Some x) h f = f x h

nil_end : (xs : List Name) → xs ++ [] ≡ xs
nil_end xs = append-nil xs

-- the names of a line, behind those that are declared already
pub record NamesOk (known : List Name) (ws names : List (List ℕ)) : Type 0 where
  pub same : names ≡ ws
  pub named : AllByRecursion IsName names
  pub distinct : AreDistinct known → AreDistinct (known ++ names)
  pub few : length known ≤ 32 → length known + length names ≤ 32

names_ok : (line : ℕ) (known : List Name) (ws : List (List ℕ)) → AllByRecursion IsIdentifier ws →
    HoldsOk (NamesOk known ws) (new_names line known ws)
names_ok line known [] words =
    record {
      same = refl;
      named = tt;
      distinct = λ d. subst AreDistinct (sym (nil_end known)) d;
      few = λ h. omega arith;
    }
names_ok line known (w ∷ ws) words =
    let P = NamesOk known (w ∷ ws) in
    ok_when P (is_bad_name w) _ _ tt (λ bad.
    ok_when P (is_among w known) _ _ tt (λ among. ok_when P (nat_le 32 (length known)) _ _ tt (λ full.
    ok_with (NamesOk (known ++ w ∷ []) ws) P (new_names line (known ++ w ∷ []) ws) _
    (names_ok line (known ++ w ∷ []) ws words.1) (λ names h.
    let room : length known < 32 = leb-false 32 (length known) full in
    let longer : length (known ++ w ∷ []) ≡ length known + 1 = length-append known (w ∷ []) in
    record {
      same = ap (λ (xs : List (List ℕ)). w ∷ xs) h.same;
      named = ((words.0, bad), h.named);
      distinct =
          λ d. subst AreDistinct (append_assoc known (w ∷ []) names) (h.distinct (distinct_snoc known w d among));
      few =
          λ k. let later : length (known ++ w ∷ []) + length names ≤ 32 = h.few (omega (arith, longer, room)) in
          omega (arith, later, longer);
    }))))

abbrev WordsAre : List Token → List (List ℕ) → Type 0
WordsAre ts ws = ts ≡ map (λ (x : List ℕ). Identifier x) ws

words_are : (ts : List Token) → Holds (WordsAre ts) (words_form ts)
words_are [] = refl
words_are (Identifier w ∷ ts) =
    then_with (WordsAre ts) (WordsAre (Identifier w ∷ ts)) (words_form ts) _ (words_are ts)
    (λ ws e. ap (λ (x : List Token). Identifier w ∷ x) e)
words_are (Number k ∷ ts) = tt
words_are (Sign m ∷ ts) = tt

abbrev NamesAre : List ℕ → List Token → List (List ℕ) → Type 0
NamesAre keyword ts ws = ts ≡ spelled_names keyword ws

names_are : (keyword : List ℕ) (ts : List Token) → Holds (NamesAre keyword ts) (names_form keyword ts)
unfolding names_form
names_are keyword ts =
    then_with (KeywordIs keyword ts) (NamesAre keyword ts) (keyword_at keyword ts) _ (keyword_is keyword ts) (λ a e.
    then_same (WordsAre a) (NamesAre keyword ts) (words_form a) (words_are a)
    (λ ws h. e ∙ ap (λ (x : List Token). Identifier keyword ∷ x) h))

-- a header line: what it says, and its tokens
abbrev pub SaysLine : {A : Type 0} (spelled : A → List Token) (Q : A → Type 0) (lines : List TextLine) →
    (A × ℕ × List TextLine) → Type 0
SaysLine spelled Q lines x =
    (line_tokens lines ≡ (let line : Option (List Token) = Some (spelled x.0) in line) ∷ line_tokens x.2) × Q x.0

abbrev Says : {A : Type 0} (spelled : A → List Token) (Q : A → Type 0) (tokens : Option (List Token)) → A → Type 0
Says spelled Q tokens x = (tokens ≡ Some (spelled x)) × Q x

said_of : {A : Type 0} (spelled : A → List Token) (Q : A → Type 0) (e : ListingRefusal) (ts : List Token)
    (o : Option A) → Holds (λ (x : A). (ts ≡ spelled x) × Q x) o → HoldsOk (Says spelled Q (Some ts)) (found_or e o)
said_of spelled Q e ts None h = tt
said_of spelled Q e ts (Some x) h =
    (ap (λ (us : List Token). let line : Option (List Token) = Some us in line) h.0, h.1)

said_by : {A : Type 0} (spelled : A → List Token) (Q : A → Type 0) (e : ListingRefusal) (rule : List Token → Option A)
    (tokens : Option (List Token)) → ((ts : List Token) → Holds (λ (x : A). (ts ≡ spelled x) × Q x) (rule ts)) →
    HoldsOk (Says spelled Q tokens) (form_or e rule tokens)
said_by spelled Q e rule None h = tt
said_by spelled Q e rule (Some ts) h = said_of spelled Q e ts (rule ts) (h ts)

pub header_says : {A : Type 0} (spelled : A → List Token) (Q : A → Type 0) (after : ℕ) (rule : List Token → Option A)
    (lines : List TextLine) → ((ts : List Token) → Holds (λ (x : A). (ts ≡ spelled x) × Q x) (rule ts)) →
    HoldsOk (SaysLine spelled Q lines) (header_line after rule lines)
header_says spelled Q after rule [] h = tt
header_says spelled Q after rule (line ∷ lines) h =
    ok_with (Says spelled Q line.tokens) (SaysLine spelled Q (line ∷ lines))
    (form_or (refusal.BadHeader line.number) rule line.tokens) _
    (said_by spelled Q (refusal.BadHeader line.number) rule line.tokens h)
    (λ x g. (ap (λ (o : Option (List Token)). o ∷ line_tokens lines) g.0, g.1))

pub record NamesLineOk (keyword : List ℕ) (known : List Name) (lines : List TextLine)
    (x : List Name × List TextLine) : Type 0 where
  pub line : line_tokens lines
      ≡ (let line : Option (List Token) = Some (spelled_names keyword x.0) in line) ∷ line_tokens x.1
  pub named : AllByRecursion IsName x.0
  pub distinct : AreDistinct known → AreDistinct (known ++ x.0)
  pub few : length known ≤ 32 → length known + length x.0 ≤ 32

abbrev Anything : {A : Type 0} → A → Type 0
Anything x = Unit {0}

abbrev pub some_line : List Token → Option (List Token)
some_line ts = Some ts

-- identifiers whose tokens can stand in a text
words_sound : (ws : List (List ℕ)) → Sounds (map (λ (x : List ℕ). Identifier x) ws) → AllByRecursion IsIdentifier ws
words_sound [] h = tt
words_sound (w ∷ ws) h = (h.0, words_sound ws h.1)

-- the tokens of each line can stand in a text
abbrev pub AreSoundTexts : List TextLine → Type 0
AreSoundTexts lines = AllByRecursion AreSound (line_tokens lines)

-- the tokens of the first line, and of the lines behind it
first_sound : (ts : List Token) (lines rest : List TextLine) → line_tokens lines ≡ some_line ts ∷ line_tokens rest →
    AreSoundTexts lines → Sounds ts × AreSoundTexts rest
first_sound ts lines rest e sound = subst (AllByRecursion AreSound) e sound

names_line_ok : (after : ℕ) (keyword : List ℕ) (known : List Name) (lines : List TextLine) → AreSoundTexts lines →
    HoldsOk (NamesLineOk keyword known lines) (names_line after keyword known lines)
names_line_ok after keyword known lines sound =
    let P = NamesLineOk keyword known lines in
    ok_with (SaysLine (spelled_names keyword) Anything lines) P (header_line after (names_form keyword) lines) _
    (header_says (spelled_names keyword) Anything after (names_form keyword) lines (λ ts.
    then_same (NamesAre keyword ts) (λ (x : List (List ℕ)). (ts ≡ spelled_names keyword x) × Unit {0})
    (names_form keyword ts) (names_are keyword ts) (λ x e. (e, tt))))
    (λ x g. ok_with (NamesOk known x.0) P (new_names x.1 known x.0) _
    (names_ok x.1 known x.0 (words_sound x.0 (first_sound (spelled_names keyword x.0) lines x.2 g.0 sound).0.1))
    (λ names h.
    record {
      line =
          g.0 ∙ ap (λ (ws : List (List ℕ)).
          (let line : Option (List Token) = Some (spelled_names keyword ws) in line) ∷ line_tokens x.2) (sym h.same);
      named = h.named;
      distinct = h.distinct;
      few = h.few;
    }))

abbrev pub spelled_kind : KindTag → List Token
spelled_kind k = Identifier (codes "kind") ∷ Identifier (kind_keyword k) ∷ []

abbrev KindSaid : List Token → KindTag → Type 0
KindSaid ts k = (ts ≡ spelled_kind k) × Unit {0}

abbrev KindOf : List ℕ → KindTag → Type 0
KindOf w k = w ≡ kind_keyword k

kind_of : (w : List ℕ) → Holds (KindOf w) (kind_of_keyword w)
kind_of w =
    if_when (KindOf w) (bytes_eq w (codes "seq")) _ _ (λ e. same_text w (codes "seq") (sym e))
    (if_when (KindOf w) (bytes_eq w (codes "bit")) _ _ (λ e. same_text w (codes "bit") (sym e))
    (if_when (KindOf w) (bytes_eq w (codes "multi")) _ _ (λ e. same_text w (codes "multi") (sym e)) tt))

kind_said : (ts : List Token) → Holds (KindSaid ts) (kind_form ts)
unfolding kind_form
kind_said ts =
    let K = KindSaid ts in
    then_with (KeywordIs (codes "kind") ts) K (keyword_at (codes "kind") ts) _ (keyword_is (codes "kind") ts) (λ a e.
    then_with (WordIs a) K (identifier_at a) _ (word_is a) (λ w f.
    then_with (KindOf w.0) K (kind_of_keyword w.0) _ (kind_of w.0) (λ k g.
    then_with (EndIs w.1) K (end_at w.1) _ (end_is w.1) (λ end z. (
      e ∙ ap (λ (x : List Token). Identifier (codes "kind") ∷ x) f
          ∙ ap (λ (x : List Token). Identifier (codes "kind") ∷ Identifier w.0 ∷ x) z
          ∙ ap (λ (x : List ℕ). let line : List Token = Identifier (codes "kind") ∷ Identifier x ∷ [] in line) g,
      tt,
    )))))

abbrev IsNumbered : ℕ → Type 0
IsNumbered k = is_line_number k ≡ true

abbrev EntrySaid : List ℕ → List Token → ℕ → Type 0
EntrySaid keyword ts k = (ts ≡ spelled_entry keyword k) × IsNumbered k

entry_by : (keyword : List ℕ) (ts : List Token) (k : ℕ) (b : Bool) → is_line_number k ≡ b →
    ts ≡ spelled_entry keyword k → Holds (EntrySaid keyword ts) (if b then Some k else None)
entry_by keyword ts k true e h = (h, e)
entry_by keyword ts k false e h = tt

entry_said : (keyword : List ℕ) (ts : List Token) → Holds (EntrySaid keyword ts) (entry_form keyword ts)
unfolding entry_form
entry_said keyword ts =
    let E = EntrySaid keyword ts in
    then_with (KeywordIs keyword ts) E (keyword_at keyword ts) _ (keyword_is keyword ts) (λ a e.
    then_with (NumberIs a) E (number_at a) _ (number_is a) (λ k f.
    then_with (EndIs k.1) E (end_at k.1) _ (end_is k.1) (λ end z.
    entry_by keyword ts k.0 (is_line_number k.0) refl
    (e ∙ ap (λ (x : List Token). Identifier keyword ∷ x) f
    ∙ ap (λ (x : List Token). Identifier keyword ∷ Number k.0 ∷ x) z))))

-- a header as it has to be, and its lines
pub record HeaderOk (texts : List TextLine) (x : Source × List TextLine) : Type 0 where
  pub names : AllByRecursion IsName (all_names x.0)
  pub distinct : AreDistinct (all_names x.0)
  pub few : length (all_names x.0) ≤ 32
  pub scan : is_line_number x.0.scan ≡ true
  pub update : is_line_number x.0.update ≡ true
  pub lines : line_tokens texts
      ≡ some_line (spelled_kind x.0.kind) ∷ some_line (spelled_names (codes "scalar") x.0.scalars)
      ∷ some_line (spelled_names (codes "row") x.0.rows)
      ∷ some_line (spelled_names (codes "words") x.0.words) ∷ some_line (spelled_names (codes "view") x.0.views)
      ∷ some_line (spelled_entry (codes "scan") x.0.scan)
      ∷ some_line (spelled_entry (codes "update") x.0.update) ∷ line_tokens x.1
  pub sound : AreSoundTexts x.1

behind_line : (o : Option (List Token)) (ls ms ns : List (Option (List Token))) → ls ≡ o ∷ ms → ms ≡ ns → ls ≡ o ∷ ns
behind_line o ls ms ns p q = p ∙ ap (λ (x : List (Option (List Token))). o ∷ x) q

four_few : (a b c d : List Name) → length (a ++ (b ++ c)) + length d ≤ 32 → length (a ++ (b ++ (c ++ d))) ≤ 32
four_few a b c d h =
    let p : length (a ++ (b ++ c)) ≡ length a + length (b ++ c) = length-append a (b ++ c) in
    let q : length (b ++ c) ≡ length b + length c = length-append b c in
    let r : length (a ++ (b ++ (c ++ d))) ≡ length a + length (b ++ (c ++ d)) = length-append a (b ++ (c ++ d)) in
    let s : length (b ++ (c ++ d)) ≡ length b + length (c ++ d) = length-append b (c ++ d) in
    let t : length (c ++ d) ≡ length c + length d = length-append c d in
    omega (arith, h, p, q, r, s, t)

three_few : (a b c : List Name) → length (a ++ b) + length c ≤ 32 → length (a ++ (b ++ c)) ≤ 32
three_few a b c h =
    let p : length (a ++ b) ≡ length a + length b = length-append a b in
    let q : length (b ++ c) ≡ length b + length c = length-append b c in
    let r : length (a ++ (b ++ c)) ≡ length a + length (b ++ c) = length-append a (b ++ c) in
    omega (arith, h, p, q, r)

one_few : (a : List Name) → 0 + length a ≤ 32 → length a ≤ 32
one_few a h = omega arith

two_few : (a b : List Name) → length a + length b ≤ 32 → length (a ++ b) ≤ 32
two_few a b h = let p : length (a ++ b) ≡ length a + length b = length-append a b in omega (arith, h, p)

pub header_ok : (after : ℕ) (texts : List TextLine) → AreSoundTexts texts →
    HoldsOk (HeaderOk texts) (header_of after texts)
unfolding header_of
header_ok after texts sound =
    let H = HeaderOk texts in
    ok_with (SaysLine spelled_kind Anything texts) H (header_line after kind_form texts) _
    (header_says spelled_kind Anything after kind_form texts kind_said) (λ k hk.
    let behind_kind = (first_sound (spelled_kind k.0) texts k.2 hk.0 sound).1 in
    ok_with (NamesLineOk (codes "scalar") [] k.2) H (names_line after (codes "scalar") [] k.2) _
    (names_line_ok after (codes "scalar") [] k.2 behind_kind) (λ a ha.
    let behind_scalars = (first_sound (spelled_names (codes "scalar") a.0) k.2 a.1 ha.line behind_kind).1 in
    ok_with (NamesLineOk (codes "row") a.0 a.1) H (names_line after (codes "row") a.0 a.1) _
    (names_line_ok after (codes "row") a.0 a.1 behind_scalars) (λ b hb.
    let behind_rows = (first_sound (spelled_names (codes "row") b.0) a.1 b.1 hb.line behind_scalars).1 in
    ok_with (NamesLineOk (codes "words") (a.0 ++ b.0) b.1) H (names_line after (codes "words") (a.0 ++ b.0) b.1) _
    (names_line_ok after (codes "words") (a.0 ++ b.0) b.1 behind_rows) (λ c hc.
    let behind_words = (first_sound (spelled_names (codes "words") c.0) b.1 c.1 hc.line behind_rows).1 in
    ok_with (NamesLineOk (codes "view") (a.0 ++ (b.0 ++ c.0)) c.1) H
    (names_line after (codes "view") (a.0 ++ (b.0 ++ c.0)) c.1) _
    (names_line_ok after (codes "view") (a.0 ++ (b.0 ++ c.0)) c.1 behind_words) (λ d hd.
    let behind_views = (first_sound (spelled_names (codes "view") d.0) c.1 d.1 hd.line behind_words).1 in
    ok_with (SaysLine (spelled_entry (codes "scan")) IsNumbered d.1) H
    (header_line after (entry_form (codes "scan")) d.1) _
    (header_says (spelled_entry (codes "scan")) IsNumbered after (entry_form (codes "scan")) d.1
    (entry_said (codes "scan"))) (λ e he.
    let behind_scan = (first_sound (spelled_entry (codes "scan") e.0) d.1 e.2 he.0 behind_views).1 in
    ok_with (SaysLine (spelled_entry (codes "update")) IsNumbered e.2) H
    (header_line after (entry_form (codes "update")) e.2) _
    (header_says (spelled_entry (codes "update")) IsNumbered after (entry_form (codes "update")) e.2
    (entry_said (codes "update"))) (λ f hf.
    record {
      names =
          all_both IsName a.0 (b.0 ++ (c.0 ++ d.0)) ha.named
          (all_both IsName b.0 (c.0 ++ d.0) hb.named (all_both IsName c.0 d.0 hc.named hd.named));
      distinct =
          subst AreDistinct
          (append_assoc a.0 (b.0 ++ c.0) d.0 ∙ ap (λ (xs : List Name). a.0 ++ xs) (append_assoc b.0 c.0 d.0))
          (hd.distinct (subst AreDistinct (append_assoc a.0 b.0 c.0) (hc.distinct (hb.distinct (ha.distinct tt)))));
      few =
          four_few a.0 b.0 c.0 d.0
          (hd.few (three_few a.0 b.0 c.0 (hc.few (two_few a.0 b.0 (hb.few (one_few a.0 (ha.few (omega arith))))))));
      scan = he.1;
      update = hf.1;
      lines =
          behind_line _ _ _ _ hk.0
          (behind_line _ _ _ _ ha.line (behind_line _ _ _ _ hb.line (behind_line _ _ _ _ hc.line
          (behind_line _ _ _ _ hd.line (behind_line _ _ _ _ he.0 hf.0)))));
      sound = (first_sound (spelled_entry (codes "update") f.0) e.2 f.2 hf.0 behind_scan).1;
    })))))))
