-- What is read from an image is what the image says: names, lines and the whole listing.
use Rattle.std.proofs.Common.{◌≡◌, ℕ, ◌+◌, ◌<◌, ◌≤◌, zero, suc, Bool, true, false, ◌&&◌, List, [], ◌∷◌, ◌++◌, length}
use Rattle.std.proofs.Common.{take, drop, Result, Ok, Err, bytes_eq, nat_le, nat_lt, if◌then◌else◌, Fits, w8}
use Rattle.std.proofs.Common.{slice_index_or, refl, sym, ap, ◌∙◌, append_assoc, subst, arith}
use Rattle.std.proofs.lemmas.Bool.{and_from, or_from}
use Rattle.std.proofs.lemmas.List.{length-append, take-append-drop, append-nil}
use Rattle.std.specs.Cmp.Lexicographic.{same_text}
use Rattle.std.specs.Int.{w16, to_be_bytes}
use Rattle.std.specs.List.{AllByRecursion, list_all}
use Rattle.snap_words.specs.declared.kind.KindTag.TheVariants as kind
use Rattle.snap_image.specs.declared.image.ImageVersion.{ImageVersion}
use Rattle.snap_image.specs.declared.image.ImageVersion.TheVariants as version
use Rattle.snap_semantics.specs.declared.instr.Line.{Line}
use Rattle.snap_semantics.specs.declared.refusal.ImageRefusal.{ImageRefusal}
use Rattle.snap_semantics.specs.declared.refusal.ImageRefusal.TheVariants.{Invalid}
use Rattle.snap_semantics.specs.declared.refusal.ListingRefusal.{ListingRefusal}
use Rattle.snap_semantics.specs.declared.refusal.ListingRefusal.TheVariants as refusal
use Rattle.snap_semantics.specs.Answers.{refused_as}
use Rattle.snap_semantics.specs.Comments.{Comment, Commented, IsComment, IsCommented, no_comment}
use Rattle.snap_image.specs.Image.{line_image, lines_image, names_image, table_image, signature, image_in}
use Rattle.snap_image.specs.Image.{is_number_in, CanSay, IsImageOf}
use Rattle.snap_image.specs.ImageCodes.{kinds, kind_code, version_code}
use Rattle.snap_image.specs.ImageForms.{Rest}
use Rattle.snap_image.specs.ImageListing.{signature_in, letter, letters_in, length_in, new_name, name_in, names_in}
use Rattle.snap_image.specs.ImageListing.{few_names, table_in, line_count_in, head_in, new_number, line_in, lines_in}
use Rattle.snap_image.specs.ImageListing.{ended, commented_in}
use Rattle.snap_semantics.specs.IsListing.{IsName, AreDistinct, AreRising, IsLine, IsListing}
use Rattle.snap_semantics.specs.Listing.{all_names, has_line, checked_targets, line_targets, with_lines}
use Rattle.snap_semantics.specs.ListingForms.{is_reserved}
use Rattle.snap_semantics.specs.Source.{Name, Source}
use Rattle.snap_semantics.specs.Token.{is_letter}
use Rattle.snap_semantics.specs.Uses.{is_among}
use Rattle.snap_image.specs.Laws.{AreBytes, DecodesOnlyImages}
use Rattle.snap_listing.proofs.Alls.{all_both}
use Rattle.snap_image.proofs.Parts.{Holds, then_with, holds_as, holds_of, holds_if, Says, then_said, Part, U, both}
use Rattle.snap_image.proofs.Parts.{skip, reformed, none, a_byte, a_code, ShortIs, a_number}
use Rattle.snap_image.proofs.Distinct.{head_distinct}
use Rattle.snap_image.proofs.SaidComments.{a_version, IsSayable, a_behind}
use Rattle.snap_image.proofs.SaidForms.{Begun, whole, behind}
use Rattle.snap_image.proofs.InstrLaws.{instr_said}
use Rattle.snap_image.proofs.Shorts.{number_within, numbered}
use Rattle.snap_image.proofs.Slots.{slots_of}

abbrev NumberIs : ImageVersion → ℕ → ℕ → Unit {0} → Type 0
NumberIs v last number done = (is_number_in v number ≡ true) × (last < number)

number_ok : (v : ImageVersion) (line last number : ℕ) → Holds (NumberIs v last number) (new_number v line last number)
number_ok v line last number =
    let P = NumberIs v last number in
    holds_if P (is_number_in v number) _ _
    (λ e. holds_if P (nat_le number last) _ _ (λ f. tt) (λ f. let above : last < number = grind arith in (e, above)))
    (λ e. tt)

-- a line of an image of this version, behind line number `last`
abbrev IsSaid : Source → ImageVersion → ℕ → Line → Type 0
IsSaid g v last line = IsLine g line × (is_number_in v line.number ≡ true) × (last < line.number)

abbrev LineIs : Source → ImageVersion → ℕ → Rest → (Line × Rest) → Type 0
LineIs g v last r x = Part g r.bytes (line_image g x.0) x.1.bytes [] (IsSaid g v last x.0)

a_line : (l : Begun) (v : ImageVersion) (line last : ℕ) → Says (LineIs (whole l) v last) (line_in l.source v line last)
unfolding line_in
a_line l v line last = record {
  said = λ r.
      let L = LineIs (whole l) v last r in
      then_said L _ (a_number (whole l)) r (λ n pn.
      then_with (NumberIs v last n.0) L (new_number v line last n.0) _ (number_ok v line last n.0) (λ done k.
      then_said L _ (instr_said l line) n.1 (λ i pi.
      let p =
      reformed (λ f. (record { number = number_within v n.0 k.0; form = f; uses = pi.uses }, k.0, k.1))
      (skip pn pi) in
      record { bytes = p.bytes; uses = tt })));
}

-- a listing with these lines and comments
abbrev with_comments : Source → List Line → List Comment → Commented
with_comments s lines comments = record { source = with_lines lines s; comments = comments }

-- a number of lines behind line number `last`, with their comments, in an image of this version
record AreLines (g : Source) (v : ImageVersion) (last n : ℕ) (xs : List Line) (cs : List Comment) : Type 0 where
  lines : AllByRecursion (IsLine g) xs
  rising : AreRising last xs
  count : length xs ≡ n
  each_line : length cs ≡ length xs
  comments : AllByRecursion IsComment cs
  sayable : CanSay v (with_comments g xs cs)

-- what a version can say, line by line
nothing_sayable : (g : Source) (v : ImageVersion) → CanSay v (with_comments g [] [])
nothing_sayable g version.First = (refl, tt)
nothing_sayable g version.Second = tt

one_more_sayable : (g : Source) (v : ImageVersion) (x : Line) (c : Comment) (xs : List Line) (cs : List Comment) →
    is_number_in v x.number ≡ true →
    IsSayable v c → CanSay v (with_comments g xs cs) → CanSay v (with_comments g (x ∷ xs) (c ∷ cs))
one_more_sayable g version.First x c xs cs e f h =
    (ap (λ (d : Comment). d ∷ cs) f ∙ ap (λ (ds : List Comment). no_comment x ∷ ds) h.0, (e, h.1))
one_more_sayable g version.Second x c xs cs e f h = tt

one_more_line : (g : Source) (v : ImageVersion) (last count : ℕ) (x : Line) (c : Comment) (xs : List Line)
    (cs : List Comment) → IsSaid g v last x → IsComment c × IsSayable v c → AreLines g v x.number count xs cs →
    AreLines g v last (suc count) (x ∷ xs) (c ∷ cs)
one_more_line g v last count x c xs cs line comment h = record {
  lines = (line.0, h.lines);
  rising = (line.2, h.rising);
  count = ap (λ (n : ℕ). suc n) h.count;
  each_line = ap (λ (n : ℕ). suc n) h.each_line;
  comments = (comment.0, h.comments);
  sayable = one_more_sayable g v x c xs cs line.1 comment.1 h.sayable;
}

abbrev LinesAre : Source → ImageVersion → ℕ → ℕ → Rest → ((List Line × List Comment) × Rest) → Type 0
LinesAre g v count last r x =
    Part g r.bytes (lines_image v g x.0.0 x.0.1) x.1.bytes [] (AreLines g v last count x.0.0 x.0.1)

some_lines : (l : Begun) (v : ImageVersion) (count line last : ℕ) →
    Says (LinesAre (whole l) v count last) (lines_in l.source v count line last)
unfolding lines_in
some_lines l v zero line last = record {
  said = λ r. reformed (λ f. record {
    lines = tt;
    rising = tt;
    count = refl;
    each_line = refl;
    comments = tt;
    sayable = nothing_sayable (whole l) v;
  }) (none (whole l) r.bytes);
}
some_lines l v (suc count) line last = record {
  said = λ r.
      let L = LinesAre (whole l) v (suc count) last r in
      then_said L _ (a_line l v line last) r (λ x p.
      then_said L _ (a_behind (whole l) v) x.1 (λ c q.
      then_said L _ (some_lines l v count (line + 1) x.0.number) c.1 (λ xs k.
      reformed (λ f. one_more_line (whole l) v last count x.0 c.0 xs.0.0 xs.0.1 f.0 f.1.0 f.1.1)
      (both p (both q k)))));
}

small_after : (xs ys : List ℕ) → AreBytes (xs ++ ys) → AreBytes ys
small_after [] ys h = h
small_after (x ∷ xs) ys h = small_after xs ys h.1

-- bytes with no numbers of several bytes among them
plain : (g : Source) (a x b : List ℕ) → a ≡ x ++ b → Part g a x b [] U
plain g a x b e =
    record { bytes = λ small. (e, small_after x b (subst (λ (z : List ℕ). AreBytes z) e small), tt); uses = tt }

abbrev LettersAre : ℕ → Rest → (Name × Rest) → Type 0
LettersAre count r x = (length x.0 ≡ count) × (r.bytes ≡ x.0 ++ x.1.bytes) × (list_all is_letter x.0 ≡ true)

abbrev IsLetter : ℕ → Unit {0} → Type 0
IsLetter b done = is_letter b ≡ true

letter_is : (b : ℕ) → Holds (IsLetter b) (letter b)
letter_is b = holds_if (IsLetter b) (is_letter b) _ _ (λ e. e) (λ e. tt)

some_letters : (count : ℕ) → Says (LettersAre count) (letters_in count)
unfolding letters_in
some_letters zero = record { said = λ r. (refl, refl, refl) }
some_letters (suc count) = record {
  said = λ r.
      let P = LettersAre (suc count) r in
      then_said P _ a_byte r (λ b e.
      then_with (IsLetter b.0) P (letter b.0) _ (letter_is b.0) (λ done good.
      then_said P _ (some_letters count) b.1 (λ x h. (
        ap (λ (n : ℕ). suc n) h.0,
        e ∙ ap (λ (z : List ℕ). b.0 ∷ z) h.1,
        and_from (is_letter b.0) (list_all is_letter x.0) good h.2,
      ))));
}

abbrev LengthIs : Rest → (ℕ × Rest) → Type 0
LengthIs r x = (r.bytes ≡ x.0 ∷ x.1.bytes) × (0 < x.0) × (x.0 ≤ 8)

a_length : Says LengthIs length_in
unfolding length_in
a_length = record {
  said = λ r. then_said (LengthIs r) _ a_byte r (λ b e.
      holds_if (LengthIs r) (nat_le 1 b.0 && nat_le b.0 8) _ _ (λ f. (e, grind arith, grind arith)) (λ f. tt));
}

abbrev NotReserved : Name → Unit {0} → Type 0
NotReserved x done = is_reserved x ≡ false

new_is : (known : List Name) (x : Name) → Holds (NotReserved x) (new_name known x)
new_is known x =
    holds_if (NotReserved x) (is_reserved x) _ _ (λ e. tt)
    (λ e. holds_if (NotReserved x) (is_among x known) _ _ (λ f. tt) (λ f. e))

abbrev NameIs : Rest → (Name × Rest) → Type 0
NameIs r x = (r.bytes ≡ length x.0 ∷ (x.0 ++ x.1.bytes)) × IsName x.0

named : (x : Name) → 0 < length x → length x ≤ 8 → list_all is_letter x ≡ true → is_reserved x ≡ false → IsName x
named x some few letters e =
    let short : nat_lt 8 (length x) ≡ false = grind arith in
    ((some, letters), or_from (nat_lt 8 (length x)) (is_reserved x) short e)

a_name : (known : List Name) → Says NameIs (name_in known)
unfolding name_in
a_name known = record {
  said = λ r.
      then_said (NameIs r) _ a_length r (λ n e.
      then_said (NameIs r) _ (some_letters n.0) n.1 (λ x h.
      then_with (NotReserved x.0) (NameIs r) (new_name known x.0) _ (new_is known x.0) (λ done f. (
        e.0 ∙ ap (λ (z : List ℕ). n.0 ∷ z) h.1 ∙ ap (λ (k : ℕ). k ∷ (x.0 ++ x.1.bytes)) (sym h.0),
        named x.0 (omega (arith, h.0, e.1)) (omega (arith, h.0, e.2)) h.2 f,
      ))));
}

abbrev NamesAre : ℕ → Rest → (List Name × Rest) → Type 0
NamesAre count r x = (r.bytes ≡ names_image x.0 ++ x.1.bytes) × (length x.0 ≡ count) × AllByRecursion IsName x.0

some_names : (count : ℕ) (known : List Name) → Says (NamesAre count) (names_in count known)
unfolding names_in
some_names zero known = record { said = λ r. (refl, refl, tt) }
some_names (suc count) known = record {
  said = λ r.
      let P = NamesAre (suc count) r in
      then_said P _ (a_name known) r (λ x e.
      then_said P _ (some_names count (known ++ x.0 ∷ [])) x.1 (λ xs h. (
        e.0 ∙ ap (λ (z : List ℕ). length x.0 ∷ (x.0 ++ z)) h.0
            ∙ ap (λ (z : List ℕ). length x.0 ∷ z) (sym (append_assoc x.0 (names_image xs.0) xs.1.bytes)),
        ap (λ (n : ℕ). suc n) h.1,
        (e.1, h.2),
      )));
}

abbrev AreFew : List Name → ℕ → Unit {0} → Type 0
AreFew known count done = length known + count ≤ 32

few_ok : (known : List Name) (count : ℕ) → Holds (AreFew known count) (few_names known count)
few_ok known count = holds_if (AreFew known count) (nat_lt 32 (length known + count)) _ _ (λ e. tt) (λ e. grind arith)

abbrev TableIs : List Name → Rest → (List Name × Rest) → Type 0
TableIs known r x =
    (r.bytes ≡ table_image x.0 ++ x.1.bytes) × AllByRecursion IsName x.0 × (length known + length x.0 ≤ 32)

a_table : (known : List Name) → Says (TableIs known) (table_in known)
unfolding table_in
a_table known = record {
  said = λ r.
      let P = TableIs known r in
      then_said P _ a_byte r (λ n e.
      then_with (AreFew known n.0) P (few_names known n.0) _ (few_ok known n.0) (λ done few.
      holds_as (NamesAre n.0 n.1) P (names_in n.0 known n.1) ((some_names n.0 known).said n.1) (λ x h. (
        e ∙ ap (λ (z : List ℕ). n.0 ∷ z) h.0 ∙ ap (λ (k : ℕ). k ∷ (names_image x.0 ++ x.1.bytes)) (sym h.1),
        h.2,
        omega (arith, few, h.1),
      ))));
}

signature_if : (bytes : List ℕ) → bytes_eq (take 4 bytes) signature ≡ true → bytes ≡ signature ++ drop 4 bytes
signature_if bytes e =
    sym (take-append-drop 4 bytes) ∙ ap (λ (z : List ℕ). z ++ drop 4 bytes) (same_text (take 4 bytes) signature (sym e))

abbrev SignatureIs : List ℕ → Rest → Type 0
SignatureIs bytes r = bytes ≡ signature ++ r.bytes

signature_is : (bytes : List ℕ) → Holds (SignatureIs bytes) (signature_in bytes)
signature_is bytes =
    holds_if (SignatureIs bytes) (bytes_eq (take 4 bytes) signature) _ _ (λ e. signature_if bytes e) (λ e. tt)

abbrev CountIs : Source → Rest → (ℕ × Rest) → Type 0
CountIs g r x = ShortIs g r x × (x.0 ≤ 200)

a_count : (g : Source) → Says (CountIs g) line_count_in
unfolding line_count_in
a_count g = record {
  said = λ r. then_said (CountIs g r) _ (a_number g) r
      (λ n p. holds_if (CountIs g r) (nat_lt 200 n.0) _ _ (λ f. tt) (λ f. (p, grind arith)));
}

-- what stands before so many lines
abbrev head_said : ImageVersion → Source → ℕ → List ℕ
head_said v s count =
    signature ++ version_code v ∷ kind_code s.kind
    ∷ (table_image s.scalars ++ (table_image s.rows ++ (table_image s.words ++ (table_image s.views
    ++ (to_be_bytes w16 s.scan ++ (to_be_bytes w16 s.update ++ to_be_bytes w16 count))))))

abbrev Head : Type 0
Head = ImageVersion × Source × ℕ

abbrev HeadForm : (Head × Rest) → Type 0
HeadForm x = AllByRecursion IsName (all_names x.0.1) × (length (all_names x.0.1) ≤ 32) × (x.0.2 ≤ 200)

abbrev HeadIs : Source → List ℕ → (Head × Rest) → Type 0
HeadIs g bytes x = Part g bytes (head_said x.0.0 x.0.1 x.0.2) x.1.bytes [] (HeadForm x)

four_few : (a b c d : List Name) → length (a ++ (b ++ c)) + length d ≤ 32 → length (a ++ (b ++ (c ++ d))) ≤ 32
four_few a b c d h = omega (arith, h, length-append {A = Name})

head_is : (g : Source) (bytes : List ℕ) → Holds (HeadIs g bytes) (head_in bytes)
unfolding head_in
head_is g bytes =
    let H = HeadIs g bytes in
    then_with (SignatureIs bytes) H (signature_in bytes) _ (signature_is bytes) (λ s es.
    then_said H _ a_version s (λ v ev.
    then_said H _ (a_code kinds) v.1 (λ k ek.
    then_said H _ (a_table []) k.1 (λ a ea.
    then_said H _ (a_table a.0) a.1 (λ b eb.
    then_said H _ (a_table (a.0 ++ b.0)) b.1 (λ c ec.
    then_said H _ (a_table (a.0 ++ (b.0 ++ c.0))) c.1 (λ d ed.
    then_said H _ (a_number g) d.1 (λ scan p.
    then_said H _ (a_number g) scan.1 (λ update q.
    then_said H _ (a_count g) update.1 (λ n m.
    reformed
    (λ f. (
      all_both IsName a.0 (b.0 ++ (c.0 ++ d.0)) ea.1
          (all_both IsName b.0 (c.0 ++ d.0) eb.1 (all_both IsName c.0 d.0 ec.1 ed.1)),
      four_few a.0 b.0 c.0 d.0 ed.2,
      m.1,
    ))
    (skip (plain g bytes signature s.bytes es) (behind (version_code v.0) ev (behind (kind_code k.0) ek
    (skip (plain g k.1.bytes (table_image a.0) a.1.bytes ea.0)
    (skip (plain g a.1.bytes (table_image b.0) b.1.bytes eb.0)
    (skip (plain g b.1.bytes (table_image c.0) c.1.bytes ec.0)
    (skip (plain g c.1.bytes (table_image d.0) d.1.bytes ed.0)
    (skip p (skip q m.0)))))))))))))))))))

holds_all : {A : Type 0} (P : List Line → A → Type 0) (r : Result A ImageRefusal) →
    ((ls : List Line) → Holds (P ls) r) → Holds (λ x. (ls : List Line) → P ls x) r
holds_all P (Ok x) h = h
holds_all P (Err e) h = tt

abbrev EndIs : List ℕ → Unit {0} → Type 0
EndIs bytes done = bytes ≡ []

end_is : (bytes : List ℕ) → Holds (EndIs bytes) (ended bytes)
end_is [] = refl
end_is (b ∷ bytes) = tt

abbrev TargetsAre : List Line → List ℕ → Unit {0} → Type 0
TargetsAre lines ks done = AllByRecursion (λ (k : ℕ). has_line lines k ≡ true) ks

abbrev Done : Type 0
Done = Result (Unit {0}) ListingRefusal

target_by : (P : Unit {0} → Type 0) (b : Bool) (r : Done) (e : ListingRefusal) →
    (b ≡ true → Holds P (refused_as Invalid r)) → Holds P (refused_as Invalid (if b then r else Err e))
target_by P true r e h = h refl
target_by P false r e h = tt

unit_as : (P Q : Type 0) (r : Done) → (P → Q) → Holds (λ done. P) (refused_as Invalid r) →
    Holds (λ done. Q) (refused_as Invalid r)
unit_as P Q (Ok x) f h = f h
unit_as P Q (Err e) f h = tt

targets_are : (lines : List Line) (ks : List ℕ) →
    Holds (TargetsAre lines ks) (refused_as Invalid (checked_targets lines ks))
targets_are lines [] = tt
targets_are lines (k ∷ ks) =
    target_by (TargetsAre lines (k ∷ ks)) (has_line lines k) (checked_targets lines ks) (refusal.NoSuchLine k) (λ e.
    unit_as (TargetsAre lines ks tt) (TargetsAre lines (k ∷ ks) tt) (checked_targets lines ks)
    (λ hs. (e, hs)) (targets_are lines ks))

abbrev IsImage : List ℕ → Commented → Type 0
IsImage bytes c = IsCommented c × IsImageOf bytes c

blank : Source
blank = record { kind = kind.Seq; scalars = []; rows = []; words = []; views = []; scan = 0; update = 0; lines = [] }

holds_and : {A : Type 0} (P Q : A → Type 0) (r : Result A ImageRefusal) → Holds P r →
    Holds Q r → Holds (λ x. P x × Q x) r
holds_and P Q (Ok x) g h = (g, h)
holds_and P Q (Err e) g h = tt

-- the parts of an image make it up
put_together : (bytes : List ℕ) → AreBytes bytes → (v : ImageVersion) (s : Source) (count : ℕ) (r after : Rest)
    (lines : List Line) (comments : List Comment) → HeadIs blank bytes ((v, s, count), r) →
    AreDistinct (all_names s) → LinesAre (with_lines lines s) v count 0 r ((lines, comments), after) →
    after.bytes ≡ [] → TargetsAre lines (s.scan ∷ s.update ∷ line_targets lines) tt →
    IsImage bytes (with_comments s lines comments)
put_together bytes small v s count r after lines comments hd d ln end t =
    let g = with_lines lines s in
    let hb = hd.bytes small in
    let lb = ln.bytes hb.1 in
    let h = lb.2 in
    let said = lines_image v g lines comments in
    let listing : IsListing g = record {
      names = hb.2.0;
      distinct = d;
      few_names = hb.2.1;
      scan = numbered g lines s.scan h.lines t.0;
      update = numbered g lines s.update h.lines t.1.0;
      lines = h.lines;
      rising = h.rising;
      few_lines = subst (λ (n : ℕ). n ≤ 200) (sym h.count) hb.2.2;
      targets = t;
    } in
    let bytes_said : bytes ≡ image_in v (with_comments s lines comments) =
    hb.0 ∙ ap (λ (z : List ℕ). head_said v s count ++ z) (lb.0 ∙ ap (λ (z : List ℕ). said ++ z) end ∙ append-nil said)
    ∙ ap (λ (n : ℕ). head_said v s n ++ said) (sym h.count) in
    (record { listing = listing; each_line = h.each_line; comments = h.comments }, (v, h.sayable, bytes_said))

commented_is : (bytes : List ℕ) → AreBytes bytes → Holds (IsImage bytes) (commented_in bytes)
unfolding commented_in
commented_is bytes small =
    let I = IsImage bytes in
    let D : (Head × Rest) → Type 0 = λ x. AreDistinct (all_names x.0.1) in
    then_with (λ x. HeadIs blank bytes x × D x) I (head_in bytes) _
    (holds_and (HeadIs blank bytes) D (head_in bytes) (head_is blank bytes) (head_distinct bytes)) (λ h e.
    let v = h.0.0 in
    let s = h.0.1 in
    let count = h.0.2 in
    let P : List Line → ((List Line × List Comment) × Rest) → Type 0 = λ ls. LinesAre (with_lines ls s) v count 0 h.1 in
    then_with (λ x. (ls : List Line) → P ls x) I (lines_in s v count 1 0 h.1) _
    (holds_all P (lines_in s v count 1 0 h.1) (λ ls.
    (some_lines (record { lines = ls; source = s; slots = slots_of (with_lines ls s) e.1 }) v count 1 0).said h.1))
    (λ ls f.
    then_with (EndIs ls.1.bytes) I (ended ls.1.bytes) _ (end_is ls.1.bytes) (λ end z.
    let ks = s.scan ∷ s.update ∷ line_targets ls.0.0 in
    then_with (TargetsAre ls.0.0 ks) I (refused_as Invalid (checked_targets ls.0.0 ks)) _
    (targets_are ls.0.0 ks) (λ done t.
    put_together bytes small v s count h.1 ls.1 ls.0.0 ls.0.1 e.0 e.1 (f ls.0.0) z t))))

pub decodes_only : DecodesOnlyImages
decodes_only bytes c small e = holds_of (IsImage bytes) (commented_in bytes) c (commented_is bytes small) e

-- the head, the lines with their comments, the end and the targets of an image make up its listing
commented_by : (bytes : List ℕ) (v : ImageVersion) (s : Source) (count : ℕ) (r after : Rest)
    (lines : List Line) (comments : List Comment) → head_in bytes ≡ Ok ((v, s, count), r) →
    lines_in s v count 1 0 r ≡ Ok ((lines, comments), after) → ended after.bytes ≡ Ok tt →
    checked_targets lines (s.scan ∷ s.update ∷ line_targets lines) ≡ Ok tt →
    commented_in bytes ≡ Ok (record { source = with_lines lines s; comments = comments })
unfolding commented_in
commented_by bytes v s count r after lines comments e f g h = rw (e, f, g, h) refl

-- what a slice of bytes holds is bytes
pub are_bytes : (bytes : List ℕ) → ((i : ℕ) → Fits w8 (slice_index_or bytes i 0)) → AreBytes bytes
are_bytes [] fits = tt
are_bytes (b ∷ bytes) fits =
    let first : Fits w8 b = fits 0 in
    let small : b < 256 = omega (arith, first) in
    (small, are_bytes bytes (λ i. fits (suc i)))

-- what is decoded is a listing with comments
pub decoded_is_listing : (bytes : List ℕ) → ((i : ℕ) → Fits w8 (slice_index_or bytes i 0)) →
    (v : ImageVersion) (s : Source) (count : ℕ)
    (r after : Rest) (lines : List Line) (comments : List Comment) → head_in bytes ≡ Ok ((v, s, count), r) →
    lines_in s v count 1 0 r ≡ Ok ((lines, comments), after) → ended after.bytes ≡ Ok tt →
    checked_targets lines (s.scan ∷ s.update ∷ line_targets lines) ≡ Ok tt →
    IsCommented (record { source = with_lines lines s; comments = comments })
decoded_is_listing bytes fits v s count r after lines comments e f g h =
    (decodes_only bytes (record { source = with_lines lines s; comments = comments }) (are_bytes bytes fits)
    (commented_by bytes v s count r after lines comments e f g h)).0
