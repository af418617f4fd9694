-- What is read from an image is what the image says: the rules of one byte, and how parts are put together.
use Rattle.std.proofs.Common.{◌≡◌, ℕ, ◌<◌, ◌≤◌, ◌^◌, zero, suc, Bool, true, false, List, [], ◌∷◌, ◌++◌, length, take}
use Rattle.std.proofs.Common.{drop, get_or, Option, Some, None, Result, Ok, Err, nat_eq, nat_le, if◌then◌else◌, refl}
use Rattle.std.proofs.Common.{sym, ap, ◌∙◌, append_assoc, subst, arith}
use Rattle.std.proofs.lemmas.Bool.{eqb-true}
use Rattle.std.proofs.lemmas.List.{length-take-le, take-append-drop}
use Rattle.std.proofs.lemmas.Nat.{be_bytes_2, be_bytes_8}
use Rattle.std.specs.Int.{w16, w64, to_be_bytes, from_be_bytes}
use Rattle.std.specs.List.{AllByRecursion, slice_get}
use Rattle.snap_semantics.specs.declared.refusal.ImageRefusal.{ImageRefusal}
use Rattle.snap_semantics.specs.declared.text.Sort.{Sort}
use Rattle.snap_semantics.specs.Answers.{◌>>=◌}
use Rattle.snap_image.specs.Image.{slot}
use Rattle.snap_image.specs.ImageCodes.{Codes, coded, of_code}
use Rattle.snap_image.specs.ImageForms.{of_one, of_two, of_three, of_four, Rest, Read, byte_from, byte_in, bytes_in}
use Rattle.snap_image.specs.ImageForms.{short_in, long_in, known_code, code_in, known_name, slot_in}
use Rattle.snap_semantics.specs.RightUses.{IsRight}
use Rattle.snap_semantics.specs.Source.{Name, Source}
use Rattle.snap_semantics.specs.Uses.{Use, Named}
use Rattle.snap_image.specs.Laws.{AreBytes}
use Rattle.snap_listing.proofs.Alls.{all_both}

-- what holds of what is read, where something is
abbrev pub Holds : {A : Type 0} → (A → Type 0) → Result A ImageRefusal → Type 0
Holds P (Ok x) = P x
Holds P (Err e) = Unit {0}

pub then_with : {A B : Type 0} (Q : A → Type 0) (P : B → Type 0) (r : Result A ImageRefusal)
    (f : A → Result B ImageRefusal) → Holds Q r → ((x : A) → Q x → Holds P (f x)) → Holds P (r >>= f)
then_with Q P (Ok x) f g h = h x g
then_with Q P (Err e) f g h = tt

pub then_any : {A B : Type 0} (P : B → Type 0) (r : Result A ImageRefusal) (f : A → Result B ImageRefusal) →
    ((x : A) → Holds P (f x)) → Holds P (r >>= f)
then_any P (Ok x) f h = h x
then_any P (Err e) f h = tt

pub holds_as : {A : Type 0} (Q P : A → Type 0) (r : Result A ImageRefusal) → Holds Q r →
    ((x : A) → Q x → P x) → Holds P r
holds_as Q P (Ok x) h f = f x h
holds_as Q P (Err e) h f = tt

pub holds_of : {A : Type 0} (P : A → Type 0) (r : Result A ImageRefusal) (x : A) → Holds P r → r ≡ Ok x → P x
holds_of P (Ok y) x h e = let p : y ≡ x = cc in subst P p h
holds_of P (Err d) x h e = absurd cc

pub holds_if : {A : Type 0} (P : A → Type 0) (b : Bool) (r t : Result A ImageRefusal) → (b ≡ true → Holds P r) →
    (b ≡ false → Holds P t) → Holds P (if b then r else t)
holds_if P true r t g h = g refl
holds_if P false r t g h = h refl

-- what a rule reads, it says
pub record Says {A : Type 0} (P : Rest → (A × Rest) → Type 0) (read : Rest → Read A) : Type 0 where
  pub said : (r : Rest) → Holds (P r) (read r)

pub then_said : {A B : Type 0} {P : Rest → (A × Rest) → Type 0} {f : Rest → Read A} (O : B → Type 0)
    (g : (A × Rest) → Result B ImageRefusal) → Says P f → (r : Rest) → ((a : A × Rest) → P r a → Holds O (g a)) →
    Holds O (f r >>= g)
then_said {P = P} {f = f} O g p r h = then_with (P r) O (f r) g (p.said r) h

-- what is made of one part, and of so many that stand behind one another
pub of_one_said : {A X : Type 0} {P : Rest → (A × Rest) → Type 0} {f : Rest → Read A} (O : (X × Rest) → Type 0)
    (make : A → X) → Says P f → (r : Rest) → ((a : A × Rest) → P r a → O (make a.0, a.1)) → Holds O (of_one f make r)
of_one_said O make p r h = then_said O _ p r h

pub of_two_said : {A B X : Type 0} {P : Rest → (A × Rest) → Type 0} {Q : Rest → (B × Rest) → Type 0} {f : Rest → Read A}
    {g : Rest → Read B} (O : (X × Rest) → Type 0) (make : A → B → X) → Says P f → Says Q g → (r : Rest) →
    ((a : A × Rest) → P r a → (b : B × Rest) → Q a.1 b → O (make a.0 b.0, b.1)) → Holds O (of_two f g make r)
of_two_said O make p q r h = then_said O _ p r (λ a pa. of_one_said O (make a.0) q a.1 (h a pa))

pub of_three_said : {A B C X : Type 0} {P : Rest → (A × Rest) → Type 0} {Q : Rest → (B × Rest) → Type 0}
    {R : Rest → (C × Rest) → Type 0} {f : Rest → Read A} {g : Rest → Read B} {i : Rest → Read C}
    (O : (X × Rest) → Type 0) (make : A → B → C → X) → Says P f → Says Q g → Says R i → (r : Rest) →
    ((a : A × Rest) → P r a → (b : B × Rest) → Q a.1 b → (c : C × Rest) → R b.1 c → O (make a.0 b.0 c.0, c.1)) →
    Holds O (of_three f g i make r)
of_three_said O make p q s r h = then_said O _ p r (λ a pa. of_two_said O (make a.0) q s a.1 (h a pa))

pub of_four_said : {A B C D X : Type 0} {P : Rest → (A × Rest) → Type 0} {Q : Rest → (B × Rest) → Type 0}
    {R : Rest → (C × Rest) → Type 0} {S : Rest → (D × Rest) → Type 0} {f : Rest → Read A} {g : Rest → Read B}
    {i : Rest → Read C} {j : Rest → Read D} (O : (X × Rest) → Type 0) (make : A → B → C → D → X) → Says P f →
    Says Q g → Says R i → Says S j → (r : Rest) → ((a : A × Rest) → P r a → (b : B × Rest) → Q a.1 b →
    (c : C × Rest) → R b.1 c → (d : D × Rest) → S c.1 d → O (make a.0 b.0 c.0 d.0, d.1)) →
    Holds O (of_four f g i j make r)
of_four_said O make p q s t r h = then_said O _ p r (λ a pa. of_three_said O (make a.0) q s t a.1 (h a pa))

-- What the bytes `before` say: `said`, with `after` behind it, in a form that can be said; what it
-- speaks of is right in the listing.
pub record Part (s : Source) (before said after : List ℕ) (spoken : List Use) (F : Type 0) : Type 0 where
  pub bytes : AreBytes before → (before ≡ said ++ after) × AreBytes after × F
  pub uses : AllByRecursion (IsRight s) spoken

abbrev pub U : Type 0
U = Unit {0}

-- a part, and one behind it
pub both : {s : Source} {a b c x y : List ℕ} {us vs : List Use} {F G : Type 0} →
    Part s a x b us F → Part s b y c vs G → Part s a (x ++ y) c (us ++ vs) (F × G)
both {s} {a} {b} {c} {x} {y} {us} {vs} p q = record {
  bytes = λ small.
      let h = p.bytes small in
      let k = q.bytes h.1 in
      (h.0 ∙ ap (λ (z : List ℕ). x ++ z) k.0 ∙ sym (append_assoc x y c), k.1, (h.2, k.2));
  uses = all_both (IsRight s) us vs p.uses q.uses;
}

pub reformed : {s : Source} {a b x : List ℕ} {us : List Use} {F G : Type 0} → (F → G) →
    Part s a x b us F → Part s a x b us G
reformed f p = record { bytes = λ small. (let h = p.bytes small in (h.0, h.1, f h.2)); uses = p.uses }

-- a part without a form of its own, and one behind it
pub skip : {s : Source} {a b c x y : List ℕ} {us vs : List Use} {G : Type 0} → Part s a x b us U → Part s b y c vs G →
    Part s a (x ++ y) c (us ++ vs) G
skip p q = reformed (λ f. f.1) (both p q)

-- a part, and one without a form of its own behind it
pub last : {s : Source} {a b c x y : List ℕ} {us vs : List Use} {F : Type 0} → Part s a x b us F → Part s b y c vs U →
    Part s a (x ++ y) c (us ++ vs) F
last p q = reformed (λ f. f.0) (both p q)

-- a part, and one behind it that speaks of nothing
pub ending : {s : Source} {a b c x y : List ℕ} {us : List Use} {F : Type 0} → Part s a x b us F →
    Part s b y c [] U → Part s a (x ++ y) c us F
ending p q = let r = last p q in record { bytes = r.bytes; uses = p.uses }

-- the forms of three parts, and of four
pub three_of : {s : Source} {a b x : List ℕ} {us : List Use} {F G H : Type 0} →
    Part s a x b us (F × (G × H)) → Part s a x b us (F × G × H)
three_of p = reformed (λ f. (f.0, f.1.0, f.1.1)) p

pub four_of : {s : Source} {a b x : List ℕ} {us : List Use} {F G H I : Type 0} → Part s a x b us (F × (G × (H × I))) →
    Part s a x b us (F × G × H × I)
four_of p = reformed (λ f. (f.0, f.1.0, f.1.1.0, f.1.1.1)) p

-- nothing read
pub none : (s : Source) (a : List ℕ) → Part s a [] a [] U
none s a = record { bytes = λ small. (refl, small, tt); uses = tt }

-- a bank, a field, a tuple that the kind has
pub spoken_of : (s : Source) (a : List ℕ) (us : List Use) → AllByRecursion (IsRight s) us → Part s a [] a us U
spoken_of s a us h = record { bytes = λ small. (refl, small, tt); uses = h }

one_less : (a b : List ℕ) (k : ℕ) → a ≡ k ∷ b → AreBytes a → AreBytes b
one_less a b k e small = let h : AreBytes (k ∷ b) = subst (λ (z : List ℕ). AreBytes z) e small in h.1

pub one_byte : (s : Source) (a b : List ℕ) (k : ℕ) → a ≡ k ∷ b → Part s a (k ∷ []) b [] U
one_byte s a b k e = record { bytes = λ small. (e, one_less a b k e small, tt); uses = tt }

abbrev pub ByteIs : Rest → (ℕ × Rest) → Type 0
ByteIs r x = r.bytes ≡ x.0 ∷ x.1.bytes

byte_from_is : (passed : ℕ) (bytes : List ℕ) → Holds (λ x. bytes ≡ x.0 ∷ x.1.bytes) (byte_from passed bytes)
byte_from_is passed [] = tt
byte_from_is passed (b ∷ bytes) = refl

pub a_byte : Says ByteIs byte_in
a_byte = record { said = λ r. byte_from_is r.passed r.bytes }

-- a code that is found is that of the byte
abbrev pub Known : {A : Type 0} → (A → Type 0) → Option A → Type 0
Known P None = Unit {0}
Known P (Some x) = P x

coded_if : {A : Type 0} (code : A → ℕ) (x : A) (b : ℕ) (o : Option A) (q : Bool) → nat_eq (code x) b ≡ q →
    Known (λ y. code y ≡ b) o → Known (λ y. code y ≡ b) (if q then Some x else o)
coded_if code x b o true e h = eqb-true (code x) b e
coded_if code x b o false e h = h

pub coded_is : {A : Type 0} (code : A → ℕ) (xs : List A) (b : ℕ) → Known (λ y. code y ≡ b) (coded code xs b)
coded_is code [] b = tt
coded_is code (x ∷ xs) b = coded_if code x b (coded code xs b) (nat_eq (code x) b) refl (coded_is code xs b)

abbrev pub CodeIs : {A : Type 0} → Codes A → Rest → (A × Rest) → Type 0
CodeIs codes r x = r.bytes ≡ codes.code x.0 ∷ x.1.bytes

known_is : {A : Type 0} (codes : Codes A) (r after : Rest) (b : ℕ) (o : Option A) → r.bytes ≡ b ∷ after.bytes →
    Known (λ y. codes.code y ≡ b) o → Holds (CodeIs codes r) (known_code r.passed after o)
known_is codes r after b None e h = tt
known_is codes r after b (Some x) e h = e ∙ ap (λ (k : ℕ). k ∷ after.bytes) (sym h)

pub a_code : {A : Type 0} (codes : Codes A) → Says (CodeIs codes) (code_in codes)
unfolding code_in
a_code codes = record {
  said = λ r. then_said (CodeIs codes r) _ a_byte r
      (λ b e. known_is codes r b.1 b.0 (of_code codes b.0) e (coded_is codes.code codes.all b.0));
}

-- what the names of a sort give for a slot
abbrev pub HasSlots : Source → List Name → Sort → Type 0
HasSlots s names wanted =
    (b : ℕ) (x : Name) → slice_get names b ≡ Some x → (slot names x ≡ b) × IsRight s (Named wanted x)

abbrev pub SlotIs : Source → List Name → Sort → Rest → (Name × Rest) → Type 0
SlotIs s names wanted r x = Part s r.bytes (slot names x.0 ∷ []) x.1.bytes (Named wanted x.0 ∷ []) U

name_is : (s : Source) (names : List Name) (wanted : Sort) (line : ℕ) (r after : Rest) (b : ℕ) (o : Option Name) →
    HasSlots s names wanted →
    slice_get names b ≡ o → r.bytes ≡ b ∷ after.bytes → Holds (SlotIs s names wanted r) (known_name line after o)
name_is s names wanted line r after b None h g e = tt
name_is s names wanted line r after b (Some x) h g e =
    let p = h b x g in
    let q : r.bytes ≡ slot names x ∷ after.bytes = e ∙ ap (λ (k : ℕ). k ∷ after.bytes) (sym p.0) in
    record { bytes = λ small. (q, one_less r.bytes after.bytes (slot names x) q small, tt); uses = (p.1, tt) }

pub a_slot : (s : Source) (names : List Name) (wanted : Sort) → HasSlots s names wanted → (line : ℕ) →
    Says (SlotIs s names wanted) (slot_in line names)
unfolding slot_in
a_slot s names wanted h line = record {
  said = λ r. then_said (SlotIs s names wanted r) _ a_byte r
      (λ b e. name_is s names wanted line r b.1 b.0 (slice_get names b.0) h refl e);
}

small_take : (n : ℕ) (bytes : List ℕ) → AreBytes bytes → AreBytes (take n bytes)
small_take zero bytes h = tt
small_take (suc n) [] h = tt
small_take (suc n) (b ∷ bytes) h = (h.0, small_take n bytes h.1)

small_drop : (n : ℕ) (bytes : List ℕ) → AreBytes bytes → AreBytes (drop n bytes)
small_drop zero bytes h = h
small_drop (suc n) [] h = tt
small_drop (suc n) (b ∷ bytes) h = small_drop n bytes h.1

small_at : (bytes : List ℕ) → AreBytes bytes → (i : ℕ) → get_or bytes i 0 < 256
small_at [] h i = omega arith
small_at (b ∷ bytes) h zero = h.0
small_at (b ∷ bytes) h (suc i) = small_at bytes h.1 i

-- this many bytes, and those behind them
abbrev BytesAre : ℕ → Rest → (List ℕ × Rest) → Type 0
BytesAre n r x =
    (length x.0 ≡ n) × (r.bytes ≡ x.0 ++ x.1.bytes) × (AreBytes r.bytes → AreBytes x.0 × AreBytes x.1.bytes)

some_bytes : (n : ℕ) → Says (BytesAre n) (bytes_in n)
some_bytes n = record {
  said = λ r. holds_if (BytesAre n r) (nat_le n (length r.bytes)) _ _
      (λ e. let le : n ≤ length r.bytes = grind arith in (
        length-take-le n r.bytes le,
        sym (take-append-drop n r.bytes),
        λ small. (small_take n r.bytes small, small_drop n r.bytes small),
      ))
      (λ e. tt);
}

-- a number that bytes say
number_is : {s : Source} {F : Type 0} (n : ℕ) (r : Rest) (x : List ℕ × Rest) (said : List ℕ) → BytesAre n r x →
    (((i : ℕ) → get_or x.0 i 0 < 256) → (said ≡ x.0) × F) → Part s r.bytes said x.1.bytes [] F
number_is n r x said h k = record {
  bytes = λ small.
      let t = h.2 small in
      let w = k (small_at x.0 t.0) in
      (h.1 ∙ ap (λ (z : List ℕ). z ++ x.1.bytes) (sym w.0), t.1, w.1);
  uses = tt;
}

abbrev pub ShortFits : Source → Rest → (ℕ × Rest) → Type 0
ShortFits s r x = Part s r.bytes (to_be_bytes w16 x.0) x.1.bytes [] (x.0 < 2 ^ 16)

pub a_short : (s : Source) → Says (ShortFits s) short_in
unfolding short_in
a_short s = record {
  said = λ r. then_said (ShortFits s r) _ (some_bytes 2) r (λ x h. number_is 2 r x _ h (λ small.
      (be_bytes_2 x.0 (from_be_bytes w16 x.0) h.0 small refl, omega (arith, small 0, small 1))));
}

abbrev pub ShortIs : Source → Rest → (ℕ × Rest) → Type 0
ShortIs s r x = Part s r.bytes (to_be_bytes w16 x.0) x.1.bytes [] U

-- a number of two bytes, of which its size says nothing
pub a_number : (s : Source) → Says (ShortIs s) short_in
a_number s = record {
  said = λ r. holds_as (ShortFits s r) (ShortIs s r) (short_in r) ((a_short s).said r) (λ x p. reformed (λ f. tt) p);
}

abbrev pub LongIs : Source → Rest → (ℕ × Rest) → Type 0
LongIs s r x = Part s r.bytes (to_be_bytes w64 x.0) x.1.bytes [] (x.0 < 2 ^ 64)

pub a_long : (s : Source) → Says (LongIs s) long_in
unfolding long_in
a_long s = record {
  said = λ r. then_said (LongIs s r) _ (some_bytes 8) r (λ x h. number_is 8 r x _ h (λ small. (
    be_bytes_8 x.0 (from_be_bytes w64 x.0) h.0 small refl,
    omega (arith, small 0, small 1, small 2, small 3, small 4, small 5, small 6, small 7),
  )));
}
