-- What an image says is read from it again: names, lines and the whole listing.
use Rattle.std.proofs.Common.{◌≡◌, ℕ, ◌+◌, ◌<◌, ◌≤◌, Bool, true, false, ◌&&◌, List, [], ◌∷◌, ◌++◌, length, map, Some}
use Rattle.std.proofs.Common.{Result, Ok, Err, bytes_eq, nat_le, nat_lt, if◌then◌else◌, refl, sym, ap, ◌∙◌}
use Rattle.std.proofs.Common.{append_assoc, subst, arith}
use Rattle.std.proofs.lemmas.Bool.{and_parts, or_parts, or_left, and_from, lt-leb, le-ltb}
use Rattle.std.proofs.lemmas.List.{length-append, append-nil}
use Rattle.std.specs.Int.{w16, to_be_bytes}
use Rattle.std.specs.List.{AllByRecursion, list_all}
use Rattle.snap_words.specs.declared.kind.KindTag.{KindTag}
use Rattle.snap_words.specs.declared.kind.KindTag.TheVariants as kind
use Rattle.snap_image.specs.declared.image.ImageVersion.{ImageVersion}
use Rattle.snap_image.specs.declared.image.ImageVersion.TheVariants as version
use Rattle.snap_semantics.specs.declared.instr.Instr.{Instr}
use Rattle.snap_semantics.specs.declared.instr.Line.{Line}
use Rattle.snap_semantics.specs.declared.refusal.ImageRefusal.{ImageRefusal}
use Rattle.snap_semantics.specs.declared.refusal.ImageRefusal.TheVariants.{Invalid}
use Rattle.snap_semantics.specs.declared.refusal.ListingRefusal.{ListingRefusal}
use Rattle.snap_semantics.specs.declared.refusal.ListingRefusal.TheVariants as refusal
use Rattle.snap_semantics.specs.Answers.{◌>>=◌, refused_as}
use Rattle.snap_semantics.specs.Comments.{Comment, Commented, IsComment, IsCommented, no_comment}
use Rattle.snap_image.specs.Image.{line_image, lines_image, names_image, table_image, signature, head_image, image_in}
use Rattle.snap_image.specs.Image.{is_number_in, CanSay}
use Rattle.snap_image.specs.ImageCodes.{of_code, kinds, kind_code}
use Rattle.snap_image.specs.ImageForms.{Rest, Read, of_one, byte_in, short_in, code_in}
use Rattle.snap_image.specs.ImageInstrs.{instr_in}
use Rattle.snap_image.specs.ImageListing.{signature_in, version_in, letter, letters_in, length_in, new_name}
use Rattle.snap_image.specs.ImageListing.{name_in, names_in, few_names, table_in, line_count_in, head_in}
use Rattle.snap_image.specs.ImageListing.{new_number, behind_line_in, line_in, lines_in, ended, commented_in}
use Rattle.snap_semantics.specs.IsListing.{IsName, AreDistinct, AreRising, IsLine, IsListing}
use Rattle.snap_semantics.specs.Listing.{has_line, checked_targets, line_targets}
use Rattle.snap_semantics.specs.ListingForms.{is_reserved}
use Rattle.snap_semantics.specs.Source.{Name, Source}
use Rattle.snap_semantics.specs.Token.{is_letter}
use Rattle.snap_semantics.specs.Uses.{is_among}
use Rattle.snap_image.specs.Widths.{HasShortTargets, HasShortNumbers}
use Rattle.snap_image.specs.Laws.{DecodesAllImages, RefusesMore}
use Rattle.snap_image.proofs.AgainComments.{version_again, a_behind}
use Rattle.snap_image.proofs.AgainParts.{Gives, Again, then_gives, then_done, then_again, part_then, test_then}
use Rattle.snap_image.proofs.AgainParts.{gives_if, nothing_again, one_again, byte_again, a_byte, a_short, code_again}
use Rattle.snap_image.proofs.AgainForms.{head}
use Rattle.snap_image.proofs.InstrLaws.{an_instr}
use Rattle.snap_image.proofs.SaidComments.{IsSayable}
use Rattle.snap_image.proofs.Shorts.{short_number, short_lines}
use Rattle.snap_image.proofs.Slots.{name_same, distinct_first, apart}
use Rattle.snap_image.proofs.Tables.{tables_of}

abbrev Checked : Type 0
Checked = Result (Unit {0}) ImageRefusal

-- two tests that find nothing
passes : (b c : Bool) (d e : ImageRefusal) → b ≡ false → c ≡ false →
    (let m : Checked = if b then Err d else if c then Err e else Ok tt in m) ≡ Ok tt
passes true c d e g h = absurd cc
passes false true d e g h = absurd cc
passes false false d e g h = refl

-- a test that is passed, and behind it one that finds nothing
accepted : (b c : Bool) (d e : ImageRefusal) → b ≡ true → c ≡ false →
    (let m : Checked = if b then (if c then Err d else Ok tt) else Err e in m) ≡ Ok tt
accepted true true d e g h = absurd cc
accepted true false d e g h = refl
accepted false c d e g h = absurd cc

a_line : (g : Source) (v : ImageVersion) (place last : ℕ) (x : Line) → IsLine g x → is_number_in v x.number ≡ true →
    last < x.number → HasShortTargets x.instr → Again x (line_image g x) (line_in (head g) v place last)
unfolding line_in
a_line g v place last x h number rising shorts =
    let made : ℕ → Instr → Line = λ n i. record { number = n; instr = i } in
    then_again (λ n r. new_number v place last n >>= λ done. of_one (instr_in (head g) place) (made n) r)
    (a_short x.number (short_number x.number h.number))
    (test_then (new_number v place last x.number)
    (accepted (is_number_in v x.number) (nat_le x.number last) _ _ number (lt-leb x.number last rising))
    (one_again (made x.number) (an_instr g place x.instr h.form h.uses shorts)))

-- lines behind line number `last`, with their comments, that a version can say
record AreSayable (g : Source) (v : ImageVersion) (last : ℕ) (xs : List Line) (cs : List Comment) : Type 0 where
  lines : AllByRecursion (IsLine g) xs
  numbers : AllByRecursion (λ (line : Line). is_number_in v line.number ≡ true) xs
  rising : AreRising last xs
  shorts : AllByRecursion HasShortNumbers xs
  each_line : length cs ≡ length xs
  comments : AllByRecursion IsComment cs
  sayable : AllByRecursion (IsSayable v) cs

some_lines : (g : Source) (v : ImageVersion) (place last : ℕ) (xs : List Line) (cs : List Comment) →
    AreSayable g v last xs cs → Again (xs, cs) (lines_image v g xs cs) (lines_in (head g) v (length xs) place last)
unfolding lines_in
some_lines g v place last [] [] h = nothing_again ([], [])
some_lines g v place last [] (c ∷ cs) h = let n = h.each_line in absurd cc
some_lines g v place last (x ∷ xs) [] h = let n = h.each_line in absurd cc
some_lines g v place last (x ∷ xs) (c ∷ cs) h =
    let later : AreSayable g v x.number xs cs = record {
      lines = h.lines.1;
      numbers = h.numbers.1;
      rising = h.rising.1;
      shorts = h.shorts.1;
      each_line = omega (arith, h.each_line);
      comments = h.comments.1;
      sayable = h.sayable.1;
    } in
    let made : Line → Comment → (List Line × List Comment) → (List Line × List Comment) =
    λ x c ys. (x ∷ ys.0, c ∷ ys.1) in
    let others = λ (x : Line) (c : Comment) (r : Rest).
    of_one (lines_in (head g) v (length xs) (place + 1) x.number) (made x c) r in
    then_again (λ x r. behind_line_in v r >>= λ c. others x c.0 c.1)
    (a_line g v place last x h.lines.0 h.numbers.0 h.rising.0 h.shorts.0.1)
    (then_again (others x) (a_behind v c h.comments.0 h.sayable.0)
    (one_again (made x c) (some_lines g v (place + 1) x.number xs cs later)))

-- the first version says no comments, and the second any
none_sayable : (lines : List Line) → AllByRecursion (IsSayable version.First) (map no_comment lines)
none_sayable [] = tt
none_sayable (x ∷ xs) = (refl, none_sayable xs)

no_comments : (lines : List Line) (cs : List Comment) → cs ≡ map no_comment lines →
    AllByRecursion (IsSayable version.First) cs
no_comments lines cs e = subst (AllByRecursion (IsSayable version.First)) (sym e) (none_sayable lines)

numbered_lines : (g : Source) (lines : List Line) → AllByRecursion (IsLine g) lines →
    AllByRecursion (λ (line : Line). is_number_in version.Second line.number ≡ true) lines
numbered_lines g [] h = tt
numbered_lines g (x ∷ xs) h = (h.0.number, numbered_lines g xs h.1)

any_sayable : (cs : List Comment) → AllByRecursion (IsSayable version.Second) cs
any_sayable [] = tt
any_sayable (c ∷ cs) = (tt, any_sayable cs)

-- the lines of a listing that a version can say
lines_of : (v : ImageVersion) (c : Commented) → IsCommented c → CanSay v c →
    AreSayable c.source v 0 c.source.lines c.comments
lines_of version.First c h say = record {
  lines = h.listing.lines;
  numbers = say.1;
  rising = h.listing.rising;
  shorts = short_lines c.source h.listing;
  each_line = h.each_line;
  comments = h.comments;
  sayable = no_comments c.source.lines c.comments say.0;
}
lines_of version.Second c h say = record {
  lines = h.listing.lines;
  numbers = numbered_lines c.source c.source.lines h.listing.lines;
  rising = h.listing.rising;
  shorts = short_lines c.source h.listing;
  each_line = h.each_line;
  comments = h.comments;
  sayable = any_sayable c.comments;
}

letter_again : (b : ℕ) → is_letter b ≡ true → letter b ≡ Ok tt
letter_again b e = ap (λ (t : Bool). let m : Checked = if t then Ok tt else Err (Invalid (refusal.BadName 0)) in m) e

some_letters : (x : Name) → list_all is_letter x ≡ true → Again x x (letters_in (length x))
unfolding letters_in
some_letters [] h = nothing_again []
some_letters (b ∷ x) h =
    let letters = and_parts (is_letter b) (list_all is_letter x) h in
    then_again (λ b r. letter b >>= λ good. of_one (letters_in (length x)) (λ y. b ∷ y) r) (a_byte b)
    (test_then (letter b) (letter_again b letters.0) (one_again (λ y. b ∷ y) (some_letters x letters.1)))

a_length : (n : ℕ) → (nat_le 1 n && nat_le n 8) ≡ true → Again n (n ∷ []) length_in
unfolding length_in
a_length n few = record {
  again = λ after r e. then_gives n after (byte_in r) _ n after (byte_again n after r e)
      (λ a p. gives_if (nat_le 1 n && nat_le n 8) _ _ n after few (a, refl, p));
}

a_name : (known : List Name) (x : Name) → IsName x → is_among x known ≡ false →
    Again x (length x ∷ x) (name_in known)
unfolding name_in
a_name known x named new =
    let good = or_parts (nat_lt 8 (length x)) (is_reserved x) named.1 in
    let some : 0 < length x = named.0.0 in
    let short : nat_lt 8 (length x) ≡ false = good.0 in
    let few : (nat_le 1 (length x) && nat_le (length x) 8) ≡ true =
    and_from (nat_le 1 (length x)) (nat_le (length x) 8) (grind (arith, some)) (grind (arith, short)) in
    then_again (λ n r. letters_in n r >>= λ x. new_name known x.0 >>= λ new. Ok x) (a_length (length x) few) (record {
      again = λ after r e.
          then_gives x after (letters_in (length x) r) _ x after ((some_letters x named.0.1).again after r e) (λ t p.
          then_done tt (new_name known x) _ x after (passes (is_reserved x) (is_among x known) _ _ good.1 new)
          (t, refl, p));
    })

some_names : (known names : List Name) → AllByRecursion IsName names → AreDistinct (known ++ names) →
    Again names (names_image names) (names_in (length names) known)
unfolding names_in
some_names known [] h d = nothing_again []
some_names known (x ∷ xs) h d =
    let new = apart known (x ∷ xs) x d (or_left (bytes_eq x x) (is_among x xs) (name_same x x refl)) in
    let later : AreDistinct ((known ++ x ∷ []) ++ xs) = subst AreDistinct (sym (append_assoc known (x ∷ []) xs)) d in
    then_again (λ x r. of_one (names_in (length xs) (known ++ x ∷ [])) (λ ys. x ∷ ys) r) (a_name known x h.0 new)
    (one_again (λ ys. x ∷ ys) (some_names (known ++ x ∷ []) xs h.1 later))

few_again : (known : List Name) (count : ℕ) → length known + count ≤ 32 → few_names known count ≡ Ok tt
few_again known count few =
    ap (λ (t : Bool). let m : Checked = if t then Err (Invalid (refusal.TooMany 0)) else Ok tt in m)
    (le-ltb 32 (length known + count) few)

a_table : (known xs : List Name) → AllByRecursion IsName xs → AreDistinct (known ++ xs) →
    length known + length xs ≤ 32 → Again xs (table_image xs) (table_in known)
unfolding table_in
a_table known xs named d few =
    then_again (λ n r. few_names known n >>= λ few. names_in n known r) (a_byte (length xs))
    (test_then (few_names known (length xs)) (few_again known (length xs) few) (some_names known xs named d))

kind_coded : (k : KindTag) → of_code kinds (kind_code k) ≡ Some k
kind_coded kind.Seq = refl
kind_coded _ = refl

-- what a test of the next bytes leaves
abbrev Leaves : Result Rest ImageRefusal → List ℕ → Type 0
Leaves m after = (r : Rest) × (m ≡ Ok r) × (r.bytes ≡ after)

signature_again : (after bytes : List ℕ) → bytes ≡ signature ++ after → Leaves (signature_in bytes) after
signature_again after bytes e = subst (λ (z : List ℕ). Leaves (signature_in z) after) (sym e) (_, refl, refl)

count_again : (n : ℕ) (after : List ℕ) (r : Rest) → n ≤ 200 → r.bytes ≡ to_be_bytes w16 n ++ after →
    Gives (line_count_in r) n after
unfolding line_count_in
count_again n after r few e =
    then_gives n after (short_in r) _ n after ((a_short n (omega (arith, few))).again after r e)
    (λ a p. subst (λ (t : Bool).
    Gives (let m : Read ℕ = if t then Err (Invalid (refusal.TooMany 0)) else Ok (n, a) in m) n after)
    (sym (le-ltb 200 n few)) (a, refl, p))

-- the names of each sort are read behind those before them: none stands twice, and they are few
record Sorts (a b c d : List Name) : Type 0 where
  distinct_scalars : AreDistinct a
  distinct_rows : AreDistinct (a ++ b)
  distinct_words : AreDistinct ((a ++ b) ++ c)
  distinct_views : AreDistinct ((a ++ (b ++ c)) ++ d)
  few_scalars : 0 + length a ≤ 32
  few_rows : length a + length b ≤ 32
  few_words : length (a ++ b) + length c ≤ 32
  few_views : length (a ++ (b ++ c)) + length d ≤ 32

sorts : (a b c d : List Name) → AreDistinct (a ++ (b ++ (c ++ d))) → length (a ++ (b ++ (c ++ d))) ≤ 32 → Sorts a b c d
sorts a b c d distinct few =
    let two_lists : a ++ (b ++ (c ++ d)) ≡ (a ++ b) ++ (c ++ d) = sym (append_assoc a b (c ++ d)) in
    let three : a ++ (b ++ (c ++ d)) ≡ ((a ++ b) ++ c) ++ d = two_lists ∙ sym (append_assoc (a ++ b) c d) in
    let four : a ++ (b ++ (c ++ d)) ≡ (a ++ (b ++ c)) ++ d =
    ap (λ (xs : List Name). a ++ xs) (sym (append_assoc b c d)) ∙ sym (append_assoc a (b ++ c) d) in
    record {
      distinct_scalars = distinct_first a (b ++ (c ++ d)) distinct;
      distinct_rows = distinct_first (a ++ b) (c ++ d) (subst AreDistinct two_lists distinct);
      distinct_words = distinct_first ((a ++ b) ++ c) d (subst AreDistinct three distinct);
      distinct_views = subst AreDistinct four distinct;
      few_scalars = omega (arith, few, length-append {A = Name});
      few_rows = omega (arith, few, length-append {A = Name});
      few_words = omega (arith, few, length-append {A = Name});
      few_views = omega (arith, few, length-append {A = Name});
    }

head_again : (v : ImageVersion) (g : Source) → IsListing g → (after bytes : List ℕ) → bytes ≡ head_image v g ++ after →
    Gives (head_in bytes) (v, head g, length g.lines) after
unfolding head_in
head_again v g h after bytes e =
    let a = g.scalars in
    let b = g.rows in
    let c = g.words in
    let d = g.views in
    let s = sorts a b c d h.distinct h.few_names in
    let t = tables_of g h in
    let y : ImageVersion × Source × ℕ = (v, head g, length g.lines) in
    let opened = signature_again _ bytes e in
    then_done opened.0 (signature_in bytes) _ y after opened.1
    (then_gives v _ (version_in opened.0) _ y after (version_again v _ opened.0 opened.2) (λ w ew.
    then_gives g.kind _ (code_in kinds w) _ y after (code_again kinds g.kind (kind_coded g.kind) _ w ew) (λ r0 e0.
    part_then _ y _ after r0 (a_table [] a t.scalars.1 s.distinct_scalars s.few_scalars) e0 (λ r1 e1.
    part_then _ y _ after r1 (a_table a b t.rows.1 s.distinct_rows s.few_rows) e1 (λ r2 e2.
    part_then _ y _ after r2 (a_table (a ++ b) c t.words.1 s.distinct_words s.few_words) e2 (λ r3 e3.
    part_then _ y _ after r3 (a_table (a ++ (b ++ c)) d t.views.1 s.distinct_views s.few_views) e3 (λ r4 e4.
    then_gives g.scan _ (short_in r4) _ y after ((a_short g.scan (short_number g.scan h.scan)).again _ r4 e4) (λ r5 e5.
    then_gives g.update _ (short_in r5) _ y after
    ((a_short g.update (short_number g.update h.update)).again _ r5 e5) (λ r6 e6.
    then_gives (length g.lines) after (line_count_in r6) _ y after
    (count_again (length g.lines) after r6 h.few_lines e6)
    (λ r7 e7. (r7, refl, e7)))))))))))

abbrev Done : Type 0
Done = Result (Unit {0}) ListingRefusal

targets_again : (lines : List Line) (ks : List ℕ) → AllByRecursion (λ (k : ℕ). has_line lines k ≡ true) ks →
    checked_targets lines ks ≡ Ok tt
targets_again lines [] h = refl
targets_again lines (k ∷ ks) h =
    ap (λ (b : Bool). let d : Done = if b then checked_targets lines ks else Err (refusal.NoSuchLine k) in d) h.0
    ∙ targets_again lines ks h.1

then_is : {A B : Type 0} (m : Result A ImageRefusal) (x : A) (f : A → Result B ImageRefusal)
    (p : Result B ImageRefusal) → m ≡ Ok x → f x ≡ p → (m >>= f) ≡ p
then_is {A} m x f p e h = subst (λ (n : Result A ImageRefusal). (n >>= f) ≡ p) (sym e) h

-- an image, and bytes behind it
with_more : (v : ImageVersion) (c : Commented) → IsCommented c → CanSay v c → (after : List ℕ) →
    commented_in (image_in v c ++ after) ≡ (ended after >>= λ end. (let m : Result Commented ImageRefusal = Ok c in m))
unfolding commented_in
with_more v c h say after =
    let s = c.source in
    let bytes = image_in v c ++ after in
    let said = lines_image v s s.lines c.comments in
    let a = head_again v s h.listing (said ++ after) bytes (append_assoc (head_image v s) said after) in
    let b = (some_lines s v 1 0 s.lines c.comments (lines_of v c h say)).again after a.0 a.2 in
    let ks = s.scan ∷ s.update ∷ line_targets s.lines in
    let all = ended after >>= λ end. (let m : Result Commented ImageRefusal = Ok c in m) in
    then_is (head_in bytes) ((v, head s, length s.lines), a.0) _ all a.1
    (then_is (lines_in (head s) v (length s.lines) 1 0 a.0) ((s.lines, c.comments), b.0) _ all b.1
    (ap (λ (z : List ℕ). ended z >>= λ end. refused_as Invalid (checked_targets s.lines ks) >>= λ done.
    (let m : Result Commented ImageRefusal = Ok c in m)) b.2
    ∙ ap (λ (d : Done).
    ended after >>= λ end. refused_as Invalid d >>= λ done. (let m : Result Commented ImageRefusal = Ok c in m))
    (targets_again s.lines ks h.listing.targets)))

pub decodes_all : DecodesAllImages
decodes_all v c h say = ap (λ (z : List ℕ). commented_in z) (sym (append-nil (image_in v c))) ∙ with_more v c h say []

pub refuses_more : RefusesMore
refuses_more v c b bytes h say = with_more v c h say (b ∷ bytes)
